-- `words::has_name` meets its contract. Assumes nothing.
use Rattle.std.proofs.Common.{rules}
use Rattle.seen.specs.Among.{among}
use Rattle.seen.proofs.words.has_name.Goals as goal

pub returns : goal.returns
unfolding among
returns c = c.any_below.ensures _ (λ k b l p. search rules)
