-- `number_below` meets its contract. Assumes nothing.
use Rattle.std.proofs.Common.{sym}
use Rattle.agreement.specs.FitLaws.{below-low, below-high}
use Rattle.agreement.proofs.words.number_below.Goals as goal

pub returns-then-w-pages : goal.returns-then-w-pages
returns-then-w-pages c = sym (below-low _ _ c.if-w-pages.true)

pub returns-else-w-pages : goal.returns-else-w-pages
returns-else-w-pages c = sym (below-high _ _ c.if-w-pages.false)
