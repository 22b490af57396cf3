-- "a seed of 0 is read as 1": no seed is read as 0, and any other as it is. Assumes nothing.
use Rattle.std.specs.Prelude.{ℕ, zero, suc, ◌≡◌, refl, ◌≢◌, max}
use Rattle.std.proofs.Common.{arith}
use Rattle.generator.specs.Generator.{seed_read}

pub seed-nonzero : (s : ℕ) → seed_read s ≢ 0
unfolding seed_read
seed-nonzero zero e = omega arith
seed-nonzero (suc s) e = omega arith

pub seed-zero : (s : ℕ) → s ≡ 0 → 1 ≡ seed_read s
unfolding seed_read
seed-zero zero e = refl
seed-zero (suc s) e = absurd (omega arith)

pub seed-other : (s : ℕ) → s ≢ 0 → s ≡ seed_read s
unfolding seed_read
seed-other zero n = absurd (n refl)
seed-other (suc s) n = refl

-- as code reads it
pub seed-largest : (s : ℕ) → max s 1 ≡ seed_read s
unfolding seed_read
seed-largest zero = refl
seed-largest (suc s) = omega arith
