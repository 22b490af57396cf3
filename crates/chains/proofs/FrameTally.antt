-- How many frames pass a test: by the frame, and where another test differs from it in one frame. Assumes nothing.
use Rattle.std.specs.Prelude.{ℕ, zero, suc, ◌<◌, ◌≤◌, ◌≡◌, refl, ◌≢◌, Bool, true, false}
use Rattle.std.proofs.Common.{sym, ◌∙◌, ap, arith}
use Rattle.std.proofs.Math.Decide.{ℕ_discrete}
use Rattle.rules.specs.TestLaws.{case, on, off, pick_yes, pick_no}
use Rattle.chains.specs.Chain.{tally}

pub tally-zero : (t : ℕ → Bool) → tally 0 t ≡ 0
unfolding tally
tally-zero t = refl

pub tally-on : (n : ℕ) (t : ℕ → Bool) → t n ≡ true → tally (suc n) t ≡ suc (tally n t)
unfolding tally
tally-on n t e = sym (pick_yes _ e refl)

pub tally-off : (n : ℕ) (t : ℕ → Bool) → t n ≡ false → tally (suc n) t ≡ tally n t
unfolding tally
tally-off n t e = sym (pick_no _ e refl)

pub tally-more : (n : ℕ) (t : ℕ → Bool) → tally n t ≤ tally (suc n) t
tally-more n t = elim (case (t n)) [ on e ↦ omega (arith, tally-on n t e) | off e ↦ omega (arith, tally-off n t e) ]

pub tally-le : (n : ℕ) (t : ℕ → Bool) → tally n t ≤ n
tally-le zero t = omega (arith, tally-zero t)
tally-le (suc n) t = elim (case (t n)) [ on e ↦ omega (arith, tally-on n t e, tally-le n t) | off e ↦ omega (arith, tally-off n t e, tally-le n t) ]

-- the same frames
pub tally-same : (n : ℕ) (t u : ℕ → Bool) → ((f : ℕ) → f < n → u f ≡ t f) → tally n u ≡ tally n t
tally-same zero t u h = tally-zero u ∙ sym (tally-zero t)
tally-same (suc n) t u h =
    let r : tally n u ≡ tally n t = tally-same n t u (λ f l. h f (omega arith)) in
    elim (case (t n)) [
      | on e ↦ tally-on n u (h n (omega arith) ∙ e) ∙ ap suc r ∙ sym (tally-on n t e)
      | off e ↦ tally-off n u (h n (omega arith) ∙ e) ∙ r ∙ sym (tally-off n t e)
    ]

-- one more: frame e, and no other
pub tally-one-more : (n : ℕ) (t u : ℕ → Bool) (e : ℕ) → e < n → ((f : ℕ) → f ≢ e → u f ≡ t f) → t e ≡ false → u e ≡ true → tally n u ≡ suc (tally n t)
tally-one-more zero t u e l h a b = absurd (omega arith)
tally-one-more (suc n) t u e l h a b = elim (ℕ_discrete n e) [
  | yes z ↦ tally-on n u (rw z b) ∙ ap suc (tally-same n t u (λ f m. h f (omega arith)) ∙ sym (tally-off n t (rw z a)))
  | no z ↦
      let r : tally n u ≡ suc (tally n t) = tally-one-more n t u e (omega arith) h a b in
      elim (case (t n)) [
        | on o ↦ tally-on n u (h n z ∙ o) ∙ ap suc (r ∙ sym (tally-on n t o))
        | off o ↦ tally-off n u (h n z ∙ o) ∙ r ∙ ap suc (sym (tally-off n t o))
      ]
]

-- where every frame does; where none does; where frame e alone does
pub tally-all : (n : ℕ) (t : ℕ → Bool) → ((f : ℕ) → f < n → t f ≡ true) → tally n t ≡ n
tally-all zero t h = tally-zero t
tally-all (suc n) t h = tally-on n t (h n (omega arith)) ∙ ap suc (tally-all n t (λ f l. h f (omega arith)))

pub tally-none : (n : ℕ) (t : ℕ → Bool) → ((f : ℕ) → f < n → t f ≡ false) → tally n t ≡ 0
tally-none zero t h = tally-zero t
tally-none (suc n) t h = tally-off n t (h n (omega arith)) ∙ tally-none n t (λ f l. h f (omega arith))

pub tally-alone : (n : ℕ) (t : ℕ → Bool) (e : ℕ) → e < n → t e ≡ true → ((f : ℕ) → f < n → f ≢ e → t f ≡ false) → tally n t ≡ 1
tally-alone zero t e l o h = absurd (omega arith)
tally-alone (suc n) t e l o h = elim (ℕ_discrete n e) [
  | yes z ↦ tally-on n t (rw z o) ∙ ap suc (tally-none n t (λ f m. h f (omega arith) (omega arith)))
  | no z ↦ tally-off n t (h n (omega arith) z) ∙ tally-alone n t e (omega arith) o (λ f m. h f (omega arith))
]
