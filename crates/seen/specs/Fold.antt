-- A value that a loop makes of numbers, one after the other. Assumes nothing.
use Rattle.std.specs.Prelude.{ℕ, zero, suc, ◌<◌, ◌+◌, ◌≡◌, Bool, true, false, ◌&&◌}
use Rattle.std.proofs.Math.Path.{refl, ap}
use Rattle.std.proofs.Common.{sym, ◌∙◌, add-one}
use Rattle.rules.specs.Tests.{◌and◌, ◌or◌, every, some}
use Rattle.rules.specs.TestLaws.{and_yes, and_no, and-off, or_left, or_right, or-skip}

-- the value after n steps
unfoldable pub fold : {A : Type 0} → (ℕ → A → A) → A → ℕ → A
fold step a zero = a
fold step a (suc n) = step n (fold step a n)

module _ {A : Type 0} (step : ℕ → A → A) (a : A) where
  pub fold-none : a ≡ fold step a 0
  unfolding fold
  fold-none = refl

  pub fold_more : (n : ℕ) {x y : A} → x ≡ fold step a n → y ≡ step n x → y ≡ fold step a (n + 1)
  unfolding fold
  fold_more n e f = rw (add-one n) (f ∙ ap (step n) e)

-- ---- flags: whether a test holds of some of the numbers, and of every one

abbrev pub some_of : (ℕ → Bool) → ℕ → Bool → Bool
some_of t k b = b or t k

abbrev pub every_of : (ℕ → Bool) → ℕ → Bool → Bool
every_of t k b = b and t k

pub some-fold : (t : ℕ → Bool) (n : ℕ) → fold (some_of t) false n ≡ some n t
unfolding fold some
some-fold t zero = refl
some-fold t (suc n) = ap (λ (b : Bool). b or t n) (some-fold t n)

pub every-fold : (t : ℕ → Bool) (n : ℕ) → fold (every_of t) true n ≡ every n t
unfolding fold every
every-fold t zero = refl
every-fold t (suc n) = ap (λ (b : Bool). b and t n) (every-fold t n)

-- what a test tells of the first n numbers is the flag's
abbrev pub Tests : (ℕ → Bool → Type 0) → ℕ → (ℕ → Bool) → Type 0
Tests test n t = (k : ℕ) (b : Bool) → k < n → test k b → b ≡ t k

-- a flag that is set where the test holds, and one that is cleared where it doesn't
pub or_same : (a : Bool) {b : Bool} → b ≡ false → (a or b) ≡ a
or_same true {b} h = or_left b refl
or_same false {b} h = or-skip b refl ∙ h

pub flag-set : (a : Bool) {b c : Bool} → b ≡ true → c ≡ true → c ≡ (a or b)
flag-set a h e = e ∙ sym (or_right a h)

pub flag-unset : (a : Bool) {b c : Bool} → b ≡ false → c ≡ a → c ≡ (a or b)
flag-unset a h e = e ∙ sym (or_same a h)

pub flag_cleared : (a : Bool) {b c : Bool} → b ≡ false → c ≡ false → c ≡ (a and b)
flag_cleared a h e = e ∙ sym (ap (λ (x : Bool). a and x) h ∙ and-off a)

pub flag-kept : (a : Bool) {b c : Bool} → b ≡ true → c ≡ a → c ≡ (a and b)
flag-kept true {b} h e = e ∙ and_yes refl (sym h)
flag-kept false {b} h e = e ∙ and_no b refl

-- a flag and-ed with the test
pub flag-and : (a b : Bool) → (a && b) ≡ (a and b)
unfolding ◌and◌
flag-and a b = refl
