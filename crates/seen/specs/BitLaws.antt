-- Bits of a number: bit t of b is b / 2 ^ t % 2. 0 has none, and a bit that is set leaves the others as they were. Assumes nothing.
use Rattle.std.specs.Prelude.{ℕ, suc, ◌+◌, ◌-◌, ◌*◌, ◌/◌, ◌%◌, ◌^◌, ◌≤◌, max, ◌≡◌, refl, ◌≢◌}
use Rattle.std.proofs.Common.{sym, ◌∙◌, ap, arith, one-mul, pow-suc, pow_pos, pow-add}
use Rattle.std.proofs.Math.Nat.{max-zero, max-eq_right, mul-mod_left, div-eq_of_lt}
use Rattle.std.proofs.Math.Decide.{dec_lt}
use Rattle.std.specs.Int.Bits.{bit_or, or_step, or_zero_l}
use Rattle.std.proofs.lemmas.Nat.{or_shr, shl-shr}
use Rattle.std.proofs.Math.Pow.{pow-lt}

pub bit-none : (t : ℕ) → 0 / 2 ^ t % 2 ≡ 0
bit-none t = let e : 0 / 2 ^ t ≡ 0 = div-eq_of_lt (pow_pos t) in rw e refl

-- the number that has bit t alone has it, and no other
bit-own : (t : ℕ) → 2 ^ t / 2 ^ t ≡ 1
bit-own t = ap (λ (x : ℕ). x / 2 ^ t) (sym (one-mul (2 ^ t))) ∙ shl-shr 1 t

bit-apart : (t u : ℕ) → u ≢ t → 2 ^ t / 2 ^ u % 2 ≡ 0
bit-apart t u n = elim (dec_lt t u) [
  | yes l ↦ let e : 2 ^ t / 2 ^ u ≡ 0 = div-eq_of_lt (pow-lt l) in rw e refl
  | no l ↦
      let e : t ≡ suc (t - suc u) + u = omega arith in
      rw e (ap (λ (x : ℕ). x / 2 ^ u % 2) (pow-add 2 (suc (t - suc u)) u) ∙ ap (λ (x : ℕ). x % 2) (shl-shr (2 ^ suc (t - suc u)) u ∙ pow-suc 2 (t - suc u)) ∙ mul-mod_left (2 ^ (t - suc u)) 2)
]

pub bit-set : (b t : ℕ) → bit_or b (2 ^ t) / 2 ^ t % 2 ≡ 1
bit-set b t =
    let e : bit_or b (2 ^ t) / 2 ^ t ≡ bit_or (b / 2 ^ t) 1 = or_shr b (2 ^ t) t ∙ ap (bit_or (b / 2 ^ t)) (bit-own t) in
    let s : bit_or (b / 2 ^ t) 1 ≡ bit_or (b / 2 ^ t / 2) 0 * 2 + max (b / 2 ^ t % 2) 1 = or_step (b / 2 ^ t) 1 in
    let m : max (b / 2 ^ t % 2) 1 ≡ 1 = max-eq_right (omega arith) in
    omega arith

-- bit 0 is set in what has no other
pub one_bit : (b : ℕ) → b ≤ 1 → bit_or b 1 ≡ 1
one_bit b l =
    let s : bit_or b 1 ≡ bit_or (b / 2) (1 / 2) * 2 + max (b % 2) (1 % 2) = or_step b 1 in
    let z : bit_or (b / 2) (1 / 2) ≡ 0 = ap (λ (x : ℕ). bit_or x 0) (let q : b / 2 ≡ 0 = omega arith in q) ∙ or_zero_l 0 in
    let m : max (b % 2) 1 ≡ 1 = max-eq_right (omega arith) in
    omega arith

pub bit-other : (b t u : ℕ) → u ≢ t → bit_or b (2 ^ t) / 2 ^ u % 2 ≡ b / 2 ^ u % 2
bit-other b t u n =
    let c : ℕ = 2 ^ t / 2 ^ u in
    let e : bit_or b (2 ^ t) / 2 ^ u ≡ bit_or (b / 2 ^ u) c = or_shr b (2 ^ t) u in
    let s : bit_or (b / 2 ^ u) c ≡ bit_or (b / 2 ^ u / 2) (c / 2) * 2 + max (b / 2 ^ u % 2) (c % 2) = or_step (b / 2 ^ u) c in
    let m : max (b / 2 ^ u % 2) (c % 2) ≡ b / 2 ^ u % 2 = ap (max (b / 2 ^ u % 2)) (bit-apart t u n) ∙ max-zero (b / 2 ^ u % 2) in
    omega arith
