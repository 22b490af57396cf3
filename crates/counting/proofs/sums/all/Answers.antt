-- `counting::sums::all` meets its contract. Assumes nothing.
use Rattle.std.proofs.Common.{◌≡◌, ◌+◌, List, [], ◌∷◌, ℕ, arith, rules}
use Rattle.std.specs.List.{fold}
use Rattle.depths.specs.Tallying.{total}
use Rattle.counting.proofs.sums.all.Goals as goal

summed : (n : ℕ) (l : List ℕ) → fold ◌+◌ n l ≡ n + total l
unfolding total
summed n [] = omega arith
summed n (x ∷ l) = let rest = summed (n + x) l in omega arith

pub returns : goal.returns
returns c = let run : c.sum.result ≡ fold ◌+◌ 0 c.args.counts.now = search rules in omega (arith, summed 0 c.args.counts.now)
