-- How each definition of depths and caches goes on by one page. Assumes nothing.
use Rattle.std.specs.Prelude.{ℕ, suc, ◌+◌, ◌≤◌, ◌≡◌, refl, Bool, true, false, length}
use Rattle.std.proofs.Common.{sym, ap, ◌∙◌, arith, eq-eqb, ne_eqb}
use mathlib.Core.List.{List, [], ◌∷◌}
use Rattle.std.proofs.Math.Decide.{ℕ_discrete}
use Rattle.rules.specs.Tests.{pick}
use Rattle.rules.specs.TestLaws.{clash, or_left, or-skip}
use Rattle.depths.specs.Depths.{is_in, since, different, without_page, last_use}

-- a test as a number
abbrev pub bit : Bool → ℕ
bit t = pick t 1 0

pub bit-on : bit true ≡ 1
unfolding pick
bit-on = refl

pub bit-off : bit false ≡ 0
unfolding pick
bit-off = refl

pub bit_le : (t : Bool) → bit t ≤ 1
unfolding pick
bit_le true = omega arith
bit_le false = omega arith

pub bits-join : (t : Bool) → pick t 0 1 + bit t ≡ 1
unfolding pick
bits-join true = refl
bits-join false = refl

module _ {A : Type 0} (a b : A) where
  pub picked : {t : Bool} → t ≡ true → pick t a b ≡ a
  unfolding pick
  picked e = rw e

  pub passed : {t : Bool} → t ≡ false → pick t a b ≡ b
  unfolding pick
  passed e = rw e

module _ (p x : ℕ) (l : List ℕ) where
  pub in-here : x ≡ p → is_in p (x ∷ l) ≡ true
  unfolding is_in
  in-here e = or_left (is_in p l) (eq-eqb x p e)

  pub in-there : (x ≡ p → ⊥) → is_in p (x ∷ l) ≡ is_in p l
  unfolding is_in
  in-there n = or-skip (is_in p l) (ne_eqb x p n)

  pub since-here : x ≡ p → since p (x ∷ l) ≡ []
  unfolding since
  since-here e = picked [] (x ∷ since p l) (eq-eqb x p e)

  pub since-there : (x ≡ p → ⊥) → since p (x ∷ l) ≡ x ∷ since p l
  unfolding since
  since-there n = passed [] (x ∷ since p l) (ne_eqb x p n)

  pub without-here : x ≡ p → without_page p (x ∷ l) ≡ l
  unfolding without_page
  without-here e = picked l (x ∷ without_page p l) (eq-eqb x p e)

  pub without-there : (x ≡ p → ⊥) → without_page p (x ∷ l) ≡ x ∷ without_page p l
  unfolding without_page
  without-there n = passed l (x ∷ without_page p l) (ne_eqb x p n)

  pub last-here : x ≡ p → last_use (x ∷ l) p ≡ suc (length l)
  unfolding last_use
  last-here e = picked (suc (length l)) (last_use l p) (eq-eqb x p e)

  pub last-there : (x ≡ p → ⊥) → last_use (x ∷ l) p ≡ last_use l p
  unfolding last_use
  last-there n = passed (suc (length l)) (last_use l p) (ne_eqb x p n)

pub in-nil : (p : ℕ) → is_in p [] ≡ false
unfolding is_in
in-nil p = refl

pub since-nil : (p : ℕ) → since p [] ≡ []
unfolding since
since-nil p = refl

pub without-nil : (p : ℕ) → without_page p [] ≡ []
unfolding without_page
without-nil p = refl

pub last-nil : (p : ℕ) → last_use [] p ≡ 0
unfolding last_use
last-nil p = refl

pub nothing-in : (p : ℕ) → is_in p [] ≡ true → ⊥
nothing-in p t = clash (sym t ∙ in-nil p)

pub different-nil : different [] ≡ 0
unfolding different
different-nil = refl

pub different-cons : (x : ℕ) (l : List ℕ) → different (x ∷ l) ≡ pick (is_in x l) 0 1 + different l
unfolding different
different-cons x l = refl

-- ---- a list without a page

pub length_without : (p : ℕ) (l : List ℕ) → length (without_page p l) + bit (is_in p l) ≡ length l
length_without p [] = rw (without-nil p, in-nil p, bit-off)
length_without p (x ∷ l) = elim (ℕ_discrete x p) [
  | yes e ↦ rw (without-here p x l e, in-here p x l e, bit-on) (omega arith)
  | no n ↦ rw (without-there p x l n, in-there p x l n) (let ih = length_without p l in omega arith)
]

-- of a page that isn't there
pub without-none : (p : ℕ) (l : List ℕ) → is_in p l ≡ false → without_page p l ≡ l
without-none p [] t = without-nil p
without-none p (x ∷ l) t = elim (ℕ_discrete x p) [
  | yes e ↦ absurd (clash (sym (in-here p x l e) ∙ t))
  | no n ↦ without-there p x l n ∙ ap (λ (k : List ℕ). x ∷ k) (without-none p l (sym (in-there p x l n) ∙ t))
]

-- other pages stay
pub in_without : (p x : ℕ) → (x ≡ p → ⊥) → (l : List ℕ) → is_in p (without_page x l) ≡ is_in p l
in_without p x n [] = rw (without-nil x)
in_without p x n (y ∷ l) = elim (ℕ_discrete y x) [
  | yes e ↦ rw (without-here x y l e, in-there p y l (λ z. n (sym e ∙ z)))
  | no m ↦ rw (without-there x y l m) (elim (ℕ_discrete y p) [
    | yes z ↦ rw (in-here p y (without_page x l) z, in-here p y l z)
    | no z ↦ rw (in-there p y (without_page x l) z, in-there p y l z) (in_without p x n l)
  ])
]

pub since-without : (p x : ℕ) → (x ≡ p → ⊥) → (l : List ℕ) → since p (without_page x l) ≡ without_page x (since p l)
since-without p x n [] = rw (without-nil x, since-nil p, without-nil x)
since-without p x n (y ∷ l) = elim (ℕ_discrete y x) [
  | yes e ↦ rw (without-here x y l e, since-there p y l (λ z. n (sym e ∙ z)), without-here x y (since p l) e)
  | no m ↦ rw (without-there x y l m) (elim (ℕ_discrete y p) [
    | yes z ↦ rw (since-here p y (without_page x l) z, since-here p y l z, without-nil x)
    | no z ↦ rw (since-there p y (without_page x l) z, since-there p y l z, without-there x y (since p l) m) (ap (λ (k : List ℕ). y ∷ k) (since-without p x n l))
  ])
]

-- ---- the time of the last reference

pub last-le : (p : ℕ) (h : List ℕ) → last_use h p ≤ length h
last-le p [] = rw (last-nil p) (omega arith)
last-le p (x ∷ h) = elim (ℕ_discrete x p) [
  | yes e ↦ rw (last-here p x h e) (omega arith)
  | no n ↦ rw (last-there p x h n) (let ih = last-le p h in omega arith)
]
