-- A test in code that decides a fact. Assumes nothing.
use Rattle.std.specs.Prelude.{ℕ, ◌≡◌, refl, Bool, true, false, eqb}
use Rattle.std.proofs.Common.{sym, eq-eqb, ne_eqb}
use Rattle.std.proofs.Math.Decide.{ℕ_discrete}
use Rattle.rules.specs.TestLaws.{clash}

-- the answer is true where the fact holds, and false where it doesn't
abbrev pub Decides : Bool → Type 0 → Type 0
Decides true P = P
Decides false P = P → ⊥

pub decided : (b : Bool) (P : Type 0) → Decides b P → b ≡ true → P
decided true P d e = d
decided false P d e = absurd (clash (sym e))

pub fails : (b : Bool) (P : Type 0) → Decides b P → b ≡ false → P → ⊥
fails true P d e = absurd (clash e)
fails false P d e = d

-- two numbers are compared
pub decide-equal : (a b : ℕ) (P : Type 0) → (a ≡ b → P) → (P → a ≡ b) → Decides (eqb a b) P
decide-equal a b P f g = elim (ℕ_discrete a b) [
  | yes e ↦ rw (eq-eqb a b e) (f e)
  | no e ↦ rw (ne_eqb a b e) (λ q. e (g q))
]

-- the answer is a flag
pub decide-flag : (b : Bool) (P : Type 0) → (b ≡ true → P) → (P → b ≡ true) → Decides b P
decide-flag true P f g = f refl
decide-flag false P f g = λ q. clash (sym (g q))

-- a fact that holds where another does
pub decide_by : (b : Bool) (P Q : Type 0) → (P → Q) → (Q → P) → Decides b P → Decides b Q
decide_by true P Q f g d = f d
decide_by false P Q f g d = λ q. d (g q)
