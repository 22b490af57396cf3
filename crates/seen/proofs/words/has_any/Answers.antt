-- `words::has_any` meets its contract: words that name nothing are 0. Assumes nothing.
use Rattle.std.proofs.Common.{rules}
use Rattle.seen.specs.Among.{has_any, word-any}
use Rattle.seen.proofs.words.has_any.Goals as goal

pub returns : goal.returns
unfolding has_any
returns c = c.any_below.ensures _ (λ k b l p. word-any _ (search rules))
