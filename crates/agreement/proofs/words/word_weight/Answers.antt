-- `word_weight` meets its contract. Assumes nothing.
use Rattle.std.proofs.Common.{sym}
use Rattle.agreement.specs.FitLaws.{weight-low, weight-high}
use Rattle.agreement.proofs.words.word_weight.Goals as goal

pub returns-then-w-last : goal.returns-then-w-last
returns-then-w-last c = sym (weight-low _ _ c.if-w-last.true)

pub returns-else-w-last : goal.returns-else-w-last
returns-else-w-last c = sym (weight-high _ _ c.if-w-last.false)
