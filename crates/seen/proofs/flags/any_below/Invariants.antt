use Rattle.std.proofs.Common.{◌≡◌, ℕ, Bool, false}
use Rattle.seen.specs.Fold.{fold, some_of, Tests}
use Rattle.seen.proofs.flags.any_below.Given as goal

abbrev pub invariant-loop-k : goal.invariant-loop-k
invariant-loop-k g l = (t : ℕ → Bool) → Tests (goal.F-post g l.test) l.count t → l.hit ≡ fold (some_of t) false l.k
