-- `page::word::is_marked` meets its contract. Assumes nothing.
use Rattle.std.proofs.Common.{arith, sym}
use Rattle.page.proofs.NameLaws.{unmarked-low, mark-above}
use Rattle.page.proofs.word.is_marked.Goals as goal

pub returns-then-w-le-LOCK_BIT : goal.returns-then-w-le-LOCK_BIT
returns-then-w-le-LOCK_BIT c = sym (unmarked-low _ (omega arith))

pub returns : goal.returns
returns c = sym (mark-above _ (omega arith))
