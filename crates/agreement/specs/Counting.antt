-- How many numbers below a bound pass a test, and what a map between those that pass tells. Assumes nothing.
use Rattle.std.specs.Prelude.{ℕ, zero, suc, ◌+◌, ◌-◌, ◌<◌, ◌≤◌, ◌≡◌, refl, ◌≢◌, Bool, true, false, not, eqb, ltb}
use Rattle.std.proofs.Common.{sym, ◌∙◌, ap, arith, add-zero, add-suc, add_assoc, add-one, eqb-true, eq-eqb, ne_eqb, le-ltb, ltb-false}
use Rattle.std.proofs.Math.Decide.{ℕ_discrete}
use Rattle.std.proofs.lemmas.Bool.{not-true}
use mir.Val.{bool_byte}
use Rattle.rules.specs.Tests.{◌and◌, some}
use Rattle.chains.specs.Chain.{tally}
use Rattle.chains.proofs.FrameTally.{tally-zero, tally-on, tally-off}
use Rattle.rules.specs.TestLaws.{clash, case, on, off, is-off, same, and_left, and-true, and-off, both, some-true, some-false}

-- how many numbers below n pass
unfoldable pub count_if : ℕ → (ℕ → Bool) → ℕ
count_if zero t = 0
count_if (suc n) t = count_if n t + bool_byte (t n)

pub count-zero : (t : ℕ → Bool) → count_if 0 t ≡ 0
unfolding count_if
count-zero t = refl

pub count-more : (n : ℕ) (t : ℕ → Bool) → count_if (n + 1) t ≡ count_if n t + bool_byte (t n)
unfolding count_if
count-more n t = rw (add-one n)

pub count_yes : (n : ℕ) (t : ℕ → Bool) → t n ≡ true → count_if (n + 1) t ≡ count_if n t + 1
count_yes n t e = count-more n t ∙ ap (λ (b : Bool). count_if n t + bool_byte b) e

pub count_no : (n : ℕ) (t : ℕ → Bool) → t n ≡ false → count_if (n + 1) t ≡ count_if n t
count_no n t e = count-more n t ∙ ap (λ (b : Bool). count_if n t + bool_byte b) e ∙ add-zero (count_if n t)

pub count_add : (m n : ℕ) (t : ℕ → Bool) → count_if (m + n) t ≡ count_if m t + count_if n (λ i. t (m + i))
unfolding count_if
count_add m zero t = ap (λ (k : ℕ). count_if k t) (add-zero m) ∙ sym (add-zero (count_if m t))
count_add m (suc n) t =
    ap (λ (k : ℕ). count_if k t) (add-suc m n) ∙ ap (λ (k : ℕ). k + bool_byte (t (m + n))) (count_add m n t) ∙ add_assoc (count_if m t) (count_if n (λ i. t (m + i))) (bool_byte (t (m + n)))

pub count-ext : (n : ℕ) (t u : ℕ → Bool) → ((i : ℕ) → i < n → t i ≡ u i) → count_if n t ≡ count_if n u
unfolding count_if
count-ext zero t u h = refl
count-ext (suc n) t u h = rw (count-ext n t u (λ i k. h i (omega arith)), h n (omega arith))

pub count_none : (n : ℕ) (t : ℕ → Bool) → ((i : ℕ) → i < n → t i ≡ false) → count_if n t ≡ 0
unfolding count_if
count_none zero t h = refl
count_none (suc n) t h = rw (count_none n t (λ i k. h i (omega arith)), h n (omega arith))

pub count-all : (n : ℕ) (t : ℕ → Bool) → ((i : ℕ) → i < n → t i ≡ true) → count_if n t ≡ n
unfolding count_if
count-all zero t h = refl
count-all (suc n) t h = let e : count_if n t ≡ n = count-all n t (λ i k. h i (omega arith)) in rw (h n (omega arith)) (omega arith)

pub count-le : (n : ℕ) (t : ℕ → Bool) → count_if n t ≤ n
unfolding count_if
count-le zero t = omega arith
count-le (suc n) t = elim (case (t n)) [
  | on e ↦ rw e (omega (arith, count-le n t))
  | off e ↦ rw e (omega (arith, count-le n t))
]

-- where each number that passes t passes u or v, and one of the two alone
pub count-split : (n : ℕ) (t u v : ℕ → Bool) → ((i : ℕ) → i < n → bool_byte (t i) ≡ bool_byte (u i) + bool_byte (v i)) → count_if n t ≡ count_if n u + count_if n v
unfolding count_if
count-split zero t u v h = refl
count-split (suc n) t u v h = omega (arith, count-split n t u v (λ i l. h i (omega arith)), h n (omega arith))

-- it is the tally of those that pass
pub count-tally : (n : ℕ) (t : ℕ → Bool) → count_if n t ≡ tally n t
unfolding count_if
count-tally zero t = sym (tally-zero t)
count-tally (suc n) t = elim (case (t n)) [
  | on e ↦ let q : count_if n t ≡ tally n t = count-tally n t in rw e (omega (arith, tally-on n t e))
  | off e ↦ let q : count_if n t ≡ tally n t = count-tally n t in rw e (omega (arith, tally-off n t e))
]

-- the test with one number taken out
unfoldable without : ℕ → (ℕ → Bool) → ℕ → Bool
without x t i = t i and not (eqb i x)

without-same : (x : ℕ) (t : ℕ → Bool) → without x t x ≡ false
unfolding without
without-same x t = rw (eq-eqb x x refl) (and-off (t x))

without_other : (x : ℕ) (t : ℕ → Bool) (i : ℕ) → i ≢ x → without x t i ≡ t i
unfolding without
without_other x t i n = same (t i and not (eqb i x)) (t i) (and_left (t i) _) (λ e. both _ _ e (ap not (ne_eqb i x n)))

count-without : (n x : ℕ) (t : ℕ → Bool) → x < n → t x ≡ true → count_if n t ≡ count_if n (without x t) + 1
unfolding count_if
count-without zero x t l e = absurd (omega arith)
count-without (suc n) x t l e = elim (ℕ_discrete x n) [
  | yes q ↦
      let a : count_if n t ≡ count_if n (without x t) = count-ext n t (without x t) (λ i h. sym (without_other x t i (λ z. omega arith))) in
      let b : t n ≡ true = rw q at e in
      let c : without x t n ≡ false = rw q (without-same n t) in
      rw (b, c, a) (omega arith)
  | no q ↦
      let a : count_if n t ≡ count_if n (without x t) + 1 = count-without n x t (omega arith) e in
      let b : without x t n ≡ t n = without_other x t n (λ z. q (sym z)) in
      rw (b, a) (omega arith)
]

-- the test from T on
unfoldable pub beyond : ℕ → (ℕ → Bool) → ℕ → Bool
beyond T t i = t i and not (ltb i T)

pub beyond-of : (T : ℕ) (t : ℕ → Bool) (i : ℕ) → beyond T t i ≡ true → (T ≤ i) × (t i ≡ true)
unfolding beyond
beyond-of T t i e = let a = and-true (t i) (not (ltb i T)) e in (ltb-false i T (not-true _ a.1), a.0)

pub of-beyond : (T : ℕ) (t : ℕ → Bool) (i : ℕ) → T ≤ i → t i ≡ true → beyond T t i ≡ true
unfolding beyond
of-beyond T t i l e = both _ _ e (ap not (le-ltb i T l))

-- where all below T pass, they are T more
pub count-beyond : (n T : ℕ) (t : ℕ → Bool) → T ≤ n → ((i : ℕ) → i < T → t i ≡ true) → count_if n t ≡ count_if n (beyond T t) + T
count-beyond n T t l h =
    let e : T + (n - T) ≡ n = omega arith in
    let a : count_if (T + (n - T)) t ≡ count_if T t + count_if (n - T) (λ i. t (T + i)) = count_add T (n - T) t in
    let b : count_if (T + (n - T)) (beyond T t) ≡ count_if T (beyond T t) + count_if (n - T) (λ i. beyond T t (T + i)) = count_add T (n - T) (beyond T t) in
    let c : count_if T t ≡ T = count-all T t h in
    let d : count_if T (beyond T t) ≡ 0 = count_none T (beyond T t) (λ i m. is-off _ (λ z. omega (arith, (beyond-of T t i z).0))) in
    let f : count_if (n - T) (λ i. t (T + i)) ≡ count_if (n - T) (λ i. beyond T t (T + i)) =
    count-ext (n - T) _ _ (λ i m. same (t (T + i)) (beyond T t (T + i)) (of-beyond T t (T + i) (omega arith)) (λ z. (beyond-of T t (T + i) z).1)) in
    rw (← e) (omega arith)

pub none_passes : (n : ℕ) (t : ℕ → Bool) → count_if n t ≡ 0 → (i : ℕ) → i < n → t i ≡ false
none_passes n t z i l = is-off (t i) (λ e. omega (arith, count-without n i t l e))

-- a map that takes the numbers below F that pass t, each to another, to numbers below n that pass u
pub record Into (F n : ℕ) (t u : ℕ → Bool) (to : ℕ → ℕ) : Type 0 where
  pub below : (f : ℕ) → f < F → t f ≡ true → to f < n
  pub lands : (f : ℕ) → f < F → t f ≡ true → u (to f) ≡ true
  pub apart : (f g : ℕ) → f < F → g < F → t f ≡ true → t g ≡ true → to f ≡ to g → f ≡ g

-- one number fewer on both sides
into_less : (F n : ℕ) (t u : ℕ → Bool) (to : ℕ → ℕ) → Into (suc F) n t u to → t F ≡ true → Into F n t (without (to F) u) to
into_less F n t u to I e = record {
  below = λ f l a. I.below f (omega arith) a;
  lands = λ f l a. without_other (to F) u (to f) (λ z. omega (arith, I.apart f F (omega arith) (omega arith) a e z)) ∙ I.lands f (omega arith) a;
  apart = λ f g l m a b. I.apart f g (omega arith) (omega arith) a b;
}

pub into-le : (F n : ℕ) (t u : ℕ → Bool) (to : ℕ → ℕ) → Into F n t u to → count_if F t ≤ count_if n u
unfolding count_if
into-le zero n t u to I = omega arith
into-le (suc F) n t u to I = elim (case (t F)) [
  | on e ↦
      let a : count_if F t ≤ count_if n (without (to F) u) = into-le F n t (without (to F) u) to (into_less F n t u to I e) in
      let b : count_if n u ≡ count_if n (without (to F) u) + 1 = count-without n (to F) u (I.below F (omega arith) e) (I.lands F (omega arith) e) in
      rw e (omega arith)
  | off e ↦
      let a : count_if F t ≤ count_if n u = into-le F n t u to (record { below = λ f l b. I.below f (omega arith) b; lands = λ f l b. I.lands f (omega arith) b; apart = λ f g l m b c. I.apart f g (omega arith) (omega arith) b c }) in
      rw e (omega arith)
]

-- where no more pass u than t, each of them is reached
pub into-all : (F n : ℕ) (t u : ℕ → Bool) (to : ℕ → ℕ) → Into F n t u to → count_if n u ≤ count_if F t
    → (j : ℕ) → j < n → u j ≡ true → (f : ℕ) × (f < F) × (t f ≡ true) × (to f ≡ j)
into-all F n t u to I few j l e = elim (case (some F (λ f. t f and eqb (to f) j))) [
  | on s ↦
      let r = some-true F (λ f. t f and eqb (to f) j) s in
      let b = and-true (t r.0) (eqb (to r.0) j) r.2 in
      (r.0, r.1, b.0, eqb-true (to r.0) j b.1)
  | off s ↦
      let I' : Into F n t (without j u) to = record {
        below = I.below;
        lands = λ f m a. without_other j u (to f) (λ z. clash (sym (both (t f) (eqb (to f) j) a (eq-eqb (to f) j z)) ∙ some-false F (λ g. t g and eqb (to g) j) s f m)) ∙ I.lands f m a;
        apart = I.apart;
      } in
      let a : count_if F t ≤ count_if n (without j u) = into-le F n t (without j u) to I' in
      let b : count_if n u ≡ count_if n (without j u) + 1 = count-without n j u l e in
      absurd (omega arith)
]
