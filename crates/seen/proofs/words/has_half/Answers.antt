-- `words::has_half` meets its contract. Assumes nothing.
use Rattle.std.proofs.Common.{rules, sym, ◌∙◌}
use Rattle.seen.specs.Among.{has_half, no-half}
use Rattle.seen.proofs.words.has_half.Goals as goal

pub returns : goal.returns
unfolding has_half
returns c = λ t. no-half _ _ _ (sym (c.any_below.ensures _ (λ k b l p. search rules)) ∙ t)
