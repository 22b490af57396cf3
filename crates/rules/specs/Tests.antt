-- Computed tests, and rules in checking order. Each is opaque, so that a proof goes by its laws.
use Rattle.std.specs.Prelude.{ℕ, zero, suc, Bool, true, false, not, ◌&&◌, ◌||◌, List, [], ◌∷◌, eqb}

-- a value by a test
unfoldable pub pick : {A : Type 0} → Bool → A → A → A
pick true a b = a
pick false a b = b

-- both tests hold; one of them does; where the first holds, so does the second
infixr 30 ◌and◌
unfoldable pub ◌and◌ : Bool → Bool → Bool
a and b = a && b

infixr 28 ◌or◌
unfoldable pub ◌or◌ : Bool → Bool → Bool
a or b = a || b

infixr 25 ◌⇒◌
unfoldable pub ◌⇒◌ : Bool → Bool → Bool
a ⇒ b = not a || b

-- the test holds of every number below n; of some number below n
unfoldable pub every : ℕ → (ℕ → Bool) → Bool
every zero t = true
every (suc n) t = every n t and t n

unfoldable pub some : ℕ → (ℕ → Bool) → Bool
some zero t = false
some (suc n) t = some n t or t n

-- a rule: its number, and the test that holds where it is kept
abbrev pub Rule : Type 0
Rule = ℕ × Bool

-- the number of the first rule that is broken, 0 for none
unfoldable pub first_broken : List Rule → ℕ
first_broken [] = 0
first_broken (r ∷ rs) = pick r.1 (first_broken rs) r.0

-- what is given by a refusal's number: 0 is accepted
unfoldable pub verdict : {A : Type 0} → ℕ → (ℕ → A) → A → A
verdict n refused accepted = pick (eqb n 0) accepted (refused n)
