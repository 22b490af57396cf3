-- The laws of the tests and of rules in checking order. Assumes nothing.
use Rattle.std.specs.Prelude.{ℕ, zero, suc, ◌+◌, ◌<◌, Bool, true, false, not, ◌&&◌, ◌≡◌, refl, List, [], ◌∷◌, ◌++◌, eqb}
use Rattle.std.proofs.Common.{sym, ◌∙◌, eq-eqb, ne_eqb, arith, add-one}
use Rattle.std.proofs.lemmas.Bool.{not-true, not-false, eqb-false}
use Rattle.std.proofs.Math.Decide.{ℕ_discrete}
use Rattle.rules.specs.Tests.{pick, ◌and◌, ◌or◌, ◌⇒◌, every, some, Rule, first_broken, verdict}

pub clash : true ≡ false → ⊥
clash e = let y : ◌≡◌ {A = ℕ} 0 1 = cc in omega arith

-- ---- a test is true or false

pub data OnOff (b : Bool) : Type 0 where
  on : b ≡ true → OnOff b
  off : b ≡ false → OnOff b

pub case : (b : Bool) → OnOff b
case true = on refl
case false = off refl

pub is-off : (b : Bool) → (b ≡ true → ⊥) → b ≡ false
is-off true h = absurd (h refl)
is-off false h = refl

-- two tests that hold in the same cases are equal
pub same : (a b : Bool) → (a ≡ true → b ≡ true) → (b ≡ true → a ≡ true) → a ≡ b
same true b f g = sym (f refl)
same false true f g = g refl
same false false f g = refl

-- what a call that tests says, where the code branches on `!call(..)`
pub call-no : {r b : Bool} → r ≡ b → not r ≡ true → b ≡ false
call-no {r} {b} e h = sym e ∙ not-true r h

pub call-yes : {r b : Bool} → r ≡ b → not r ≡ false → b ≡ true
call-yes {r} {b} e h = sym e ∙ not-false r h

-- ---- and, or, ⇒

pub and_yes : {a b x : Bool} → a ≡ true → x ≡ b → x ≡ (a and b)
unfolding ◌and◌
and_yes {a} {b} {x} h e = rw h e

pub and_no : {a : Bool} (b : Bool) → a ≡ false → false ≡ (a and b)
unfolding ◌and◌
and_no b h = rw h

pub and_left : (a b : Bool) → (a and b) ≡ true → a ≡ true
unfolding ◌and◌
and_left true b h = refl
and_left false b h = h

pub and_right : (a b : Bool) → (a and b) ≡ true → b ≡ true
unfolding ◌and◌
and_right true b h = h
and_right false b h = absurd (clash (sym h))

pub and-true : (a b : Bool) → (a and b) ≡ true → (a ≡ true) × (b ≡ true)
and-true a b h = (and_left a b h, and_right a b h)

pub both : (a b : Bool) → a ≡ true → b ≡ true → (a and b) ≡ true
unfolding ◌and◌
both true b p q = q
both false b p q = absurd (clash (sym p))

pub and-off : (a : Bool) → (a and false) ≡ false
unfolding ◌and◌
and-off true = refl
and-off false = refl

pub or_left : {a : Bool} (b : Bool) → a ≡ true → (a or b) ≡ true
unfolding ◌or◌
or_left b h = rw h

pub or_right : (a : Bool) {b : Bool} → b ≡ true → (a or b) ≡ true
unfolding ◌or◌
or_right true h = refl
or_right false h = h

-- one of the two, where the first doesn't hold
pub or-second : (a b : Bool) → (a or b) ≡ true → a ≡ false → b ≡ true
unfolding ◌or◌
or-second true b e f = absurd (clash f)
or-second false b e f = e

pub or-none : (a b : Bool) → (a or b) ≡ false → (a ≡ false) × (b ≡ false)
unfolding ◌or◌
or-none true b e = absurd (clash e)
or-none false b e = (refl, e)

pub or_off : {a b : Bool} → a ≡ false → b ≡ false → (a or b) ≡ false
unfolding ◌or◌
or_off {a} {b} h k = rw (h, k)

-- the second, where the first doesn't hold
pub or-skip : {a : Bool} (b : Bool) → a ≡ false → (a or b) ≡ b
unfolding ◌or◌
or-skip b h = rw h

pub use⇒ : (a b : Bool) → (a ⇒ b) ≡ true → a ≡ true → b ≡ true
unfolding ◌⇒◌
use⇒ true b e f = e
use⇒ false b e f = absurd (clash (sym f))

pub make⇒ : (a b : Bool) → (a ≡ true → b ≡ true) → (a ⇒ b) ≡ true
unfolding ◌⇒◌
make⇒ true b h = h refl
make⇒ false b h = refl

-- ---- every and some number below n

pub every-zero : (t : ℕ → Bool) → every 0 t ≡ true
unfolding every
every-zero t = refl

pub every_true : (n : ℕ) (t : ℕ → Bool) → every n t ≡ true → (i : ℕ) → i < n → t i ≡ true
unfolding every
every_true zero t e i h = absurd (omega arith)
every_true (suc n) t e i h = elim (ℕ_discrete i n) [
  | yes q ↦ rw q (and_right (every n t) (t n) e)
  | no q ↦ every_true n t (and_left (every n t) (t n) e) i (omega arith)
]

pub true-every : (n : ℕ) (t : ℕ → Bool) → ((i : ℕ) → i < n → t i ≡ true) → every n t ≡ true
unfolding every
true-every zero t h = refl
true-every (suc n) t h = both (every n t) (t n) (true-every n t (λ i k. h i (omega arith))) (h n (omega arith))

pub every-false : (n : ℕ) (t : ℕ → Bool) (i : ℕ) → i < n → t i ≡ false → every n t ≡ false
every-false n t i h e = is-off (every n t) (λ a. clash (sym (every_true n t a i h) ∙ e))

-- a test that fails of some number
pub false-every : (n : ℕ) (t : ℕ → Bool) → every n t ≡ false → (i : ℕ) × (i < n) × (t i ≡ false)
unfolding every
false-every zero t e = absurd (clash e)
false-every (suc n) t e = elim (case (t n)) [
  | off q ↦ (n, omega arith, q)
  | on q ↦
      let r = false-every n t (is-off (every n t) (λ a. clash (sym (both (every n t) (t n) a q) ∙ e))) in
      let l : r.0 < n = r.1 in
      (r.0, omega arith, r.2)
]

-- how a loop's `ok` goes on by one number
pub every-keep : (n : ℕ) (t : ℕ → Bool) → t n ≡ true → every n t ≡ every (n + 1) t
unfolding every ◌and◌
every-keep n t e = rw (add-one n, e) (right (every n t))
  where
    right : (b : Bool) → b ≡ (b && true)
    right true = refl
    right false = refl

pub every_drop : (n : ℕ) (t : ℕ → Bool) → t n ≡ false → false ≡ every (n + 1) t
every_drop n t e = sym (every-false (n + 1) t n (omega arith) e)

pub every-step : (n : ℕ) (t : ℕ → Bool) → every n t ≡ true → t n ≡ true → every (n + 1) t ≡ true
every-step n t a b = sym (every-keep n t b) ∙ a

pub every-ext : (n : ℕ) (t u : ℕ → Bool) → ((i : ℕ) → i < n → t i ≡ u i) → every n t ≡ every n u
unfolding every
every-ext zero t u h = refl
every-ext (suc n) t u h = rw (every-ext n t u (λ i k. h i (omega arith)), h n (omega arith))

pub some-zero : (t : ℕ → Bool) → some 0 t ≡ false
unfolding some
some-zero t = refl

pub some-suc : (n : ℕ) (t : ℕ → Bool) → some (suc n) t ≡ (some n t or t n)
unfolding some
some-suc n t = refl

pub true-some : (n : ℕ) (t : ℕ → Bool) (i : ℕ) → i < n → t i ≡ true → some n t ≡ true
unfolding some
true-some zero t i h e = absurd (omega arith)
true-some (suc n) t i h e = elim (ℕ_discrete i n) [
  | yes q ↦ or_right (some n t) (rw q at e)
  | no q ↦ or_left (t n) (true-some n t i (omega arith) e)
]

pub some-true : (n : ℕ) (t : ℕ → Bool) → some n t ≡ true → (i : ℕ) × (i < n) × (t i ≡ true)
unfolding some
some-true zero t e = absurd (clash (sym e))
some-true (suc n) t e = elim (case (t n)) [
  | on q ↦ (n, omega arith, q)
  | off q ↦
      let r = some-true n t (elim (case (some n t)) [ on a ↦ a | off a ↦ absurd (clash (sym e ∙ or_off a q)) ]) in
      let l : r.0 < n = r.1 in
      (r.0, omega arith, r.2)
]

pub some-false : (n : ℕ) (t : ℕ → Bool) → some n t ≡ false → (i : ℕ) → i < n → t i ≡ false
some-false n t e i h = is-off (t i) (λ a. clash (sym (true-some n t i h a) ∙ e))

pub false-some : (n : ℕ) (t : ℕ → Bool) → ((i : ℕ) → i < n → t i ≡ false) → some n t ≡ false
false-some n t h = is-off (some n t) (λ a. let r = some-true n t a in clash (sym r.2 ∙ h r.0 r.1))

pub some-ext : (n : ℕ) (t u : ℕ → Bool) → ((i : ℕ) → i < n → t i ≡ u i) → some n t ≡ some n u
unfolding some
some-ext zero t u h = refl
some-ext (suc n) t u h = rw (some-ext n t u (λ i k. h i (omega arith)), h n (omega arith))

-- ---- pick, first broken, verdict

pub pick_yes : {A : Type 0} {t : Bool} {x a : A} (b : A) → t ≡ true → x ≡ a → x ≡ pick t a b
unfolding pick
pick_yes b h e = rw h e

pub pick_no : {A : Type 0} {t : Bool} {x b : A} (a : A) → t ≡ false → x ≡ b → x ≡ pick t a b
unfolding pick
pick_no a h e = rw h e

-- what holds of both values holds of the one that is picked
pub pick-either : {A : Type 0} (P : A → Type 0) (t : Bool) (a b : A) → P a → P b → P (pick t a b)
unfolding pick
pick-either P true a b h k = h
pick-either P false a b h k = k

-- what holds of each value in its case holds of the one that is picked
pub pick-by : {A : Type 0} (P : A → Type 0) (t : Bool) (a b : A) → (t ≡ true → P a) → (t ≡ false → P b) → P (pick t a b)
unfolding pick
pick-by P true a b h k = h refl
pick-by P false a b h k = k refl

-- where two pairs are related, so are the picked ones
pub pick_two : {A B : Type 0} (R : A → B → Type 0) (t : Bool) (a c : A) (b d : B) → R a b → R c d → R (pick t a c) (pick t b d)
unfolding pick
pick_two R true a c b d x y = x
pick_two R false a c b d x y = y

-- n is what the code computed, k what the definition says
pub verdict-no : {A : Type 0} {n k : ℕ} (refused : ℕ → A) (accepted : A) → n ≡ k → (n ≡ 0 → ⊥) → refused n ≡ verdict k refused accepted
unfolding verdict
verdict-no {A} {n} {k} refused accepted e h = rw (← e) (pick_no accepted (ne_eqb n 0 h) refl)

pub verdict-yes : {A : Type 0} {n k : ℕ} (refused : ℕ → A) {x accepted : A} → n ≡ k → n ≡ 0 → x ≡ accepted → x ≡ verdict k refused accepted
unfolding verdict
verdict-yes {A} {n} {k} refused e h i = rw (← e) (pick_yes (refused n) (eq-eqb n 0 h) i)

-- none of the rules is broken: the first is kept, and so are those after it
pub first-kept : (n : ℕ) (t : Bool) (rs : List Rule) → first_broken ((suc n, t) ∷ rs) ≡ 0 → (t ≡ true) × (first_broken rs ≡ 0)
unfolding first_broken pick
first-kept n true rs h = (refl, h)
first-kept n false rs h = absurd (omega arith)

pub kept_then : (n : ℕ) {t : Bool} (rs : List Rule) → t ≡ true → first_broken ((n, t) ∷ rs) ≡ first_broken rs
unfolding first_broken pick
kept_then n rs h = rw h

pub broken-here : (n : ℕ) {t : Bool} (rs : List Rule) → t ≡ false → first_broken ((n, t) ∷ rs) ≡ n
unfolding first_broken pick
broken-here n rs h = rw h

pub none-broken : first_broken [] ≡ 0
unfolding first_broken
none-broken = refl

-- no rule has the number 0
unfoldable pub numbered : List Rule → Bool
numbered [] = true
numbered (r ∷ rs) = not (eqb r.0 0) and numbered rs

-- rules tested in two parts, one after the other
pub broken-then : (xs ys : List Rule) → numbered xs ≡ true → verdict (first_broken xs) (λ n. n) (first_broken ys) ≡ first_broken (xs ++ ys)
unfolding numbered verdict first_broken pick
broken-then [] ys h = refl
broken-then ((n, true) ∷ xs) ys h = broken-then xs ys (and_right (not (eqb n 0)) (numbered xs) h)
broken-then ((n, false) ∷ xs) ys h = sym (pick_no (first_broken ys) (not-true (eqb n 0) (and_left (not (eqb n 0)) (numbered xs) h)) refl)

-- neither part has a broken rule
pub parts-kept : (xs ys : List Rule) → numbered xs ≡ true → first_broken (xs ++ ys) ≡ 0 → (first_broken xs ≡ 0) × (first_broken ys ≡ 0)
unfolding numbered first_broken pick
parts-kept [] ys h e = (refl, e)
parts-kept ((n, true) ∷ xs) ys h e = parts-kept xs ys (and_right (not (eqb n 0)) (numbered xs) h) e
parts-kept ((n, false) ∷ xs) ys h e = absurd (eqb-false n 0 (not-true (eqb n 0) (and_left (not (eqb n 0)) (numbered xs) h)) e)
