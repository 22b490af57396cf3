-- `page::word::is_marked_number` meets its contract. Assumes nothing.
use Rattle.std.proofs.Common.{arith, sym}
use Rattle.page.proofs.NameLaws.{marked-number, marked-no-number}
use Rattle.page.proofs.word.is_marked_number.Goals as goal

pub returns-then-w-lt-SWIZZLE_BIT : goal.returns-then-w-lt-SWIZZLE_BIT
returns-then-w-lt-SWIZZLE_BIT c = sym (marked-number _ (omega arith))

pub returns : goal.returns
returns c = sym (marked-no-number _ (omega arith))
