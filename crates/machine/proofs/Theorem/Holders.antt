-- Which frame holds a page: what `found` says of the view. Assumes nothing.
use Rattle.std.specs.Prelude.{ℕ, ◌≡◌, true, false, ltb}
use Rattle.std.proofs.Common.{ltb-true, ltb-false}
use Rattle.rules.specs.TestLaws.{case, on, off}
use Rattle.machine.specs.Machine.{State, occupied, found}
use Rattle.machine.proofs.Laws.AgreementFacts.{occupied-lt, occupied-used, make-occupied}
use Rattle.machine.proofs.Laws.FoundLaws.{found-holds, found_none}
use Rattle.machine.proofs.Theorem.View.{View, view, Occupied, Absent}

-- ---- the two readings of 'occupied'

pub occupied-of : (s : State) (f : ℕ) → occupied s.pool f ≡ true → Occupied (view s) f
occupied-of s f t = record { lt = occupied-lt s.pool f t; on = occupied-used s.pool f t }

pub of-occupied : (s : State) (f : ℕ) → Occupied (view s) f → occupied s.pool f ≡ true
of-occupied s f o = make-occupied s.pool f o.lt o.on

-- ---- frame f is occupied and holds page p

pub record Holder (v : View) (p f : ℕ) : Type 0 where
  pub at : Occupied v f
  pub page : v.page f ≡ p

pub holder-found : (s : State) (p : ℕ) → ltb (found s.pool p) s.pool.count ≡ true → Holder (view s) p (found s.pool p)
holder-found s p t =
    let h = found-holds s.pool p (ltb-true _ _ t) in
    record { at = occupied-of s _ h.0; page = h.1 }

pub absent-found : (s : State) (p : ℕ) → ltb (found s.pool p) s.pool.count ≡ false → Absent (view s) p
absent-found s p t f o e = found_none s.pool p (ltb-false _ _ t) f (of-occupied s f o) e

-- a page has a holder, or it is in no frame
pub data Place (s : State) (p : ℕ) : Type 0 where
  held : Holder (view s) p (found s.pool p) → Place s p
  unheld : Absent (view s) p → Place s p

pub place : (s : State) (p : ℕ) → Place s p
place s p = elim (case (ltb (found s.pool p) s.pool.count)) [ on t ↦ held (holder-found s p t) | off t ↦ unheld (absent-found s p t) ]
