-- Along a list of calls a record's pins are the balance of its page: accepted roots and fixes less accepted unfixes. Assumes nothing.
use Rattle.std.specs.Prelude.{ℕ, ◌+◌, ◌<◌, ◌≡◌, List}
use Rattle.page.specs.Octets.{Octets}
use Rattle.machine.specs.Machine.{record_at}
use Rattle.machine.specs.Answers.{done}
use Rattle.machine.specs.Calls.{open_call}
use Rattle.machine.specs.History.{Call, Point, start, run, AllBytes}
use Rattle.machine.specs.Demand3.{at, InFrame, Resident}
use Rattle.machine.proofs.Theorem.Invariant.{Invariant}
use Rattle.machine.proofs.Theorem.Residence.{sits-place, sits, absent-of}
use Rattle.machine.proofs.Theorem.Demand3Holds.{invariant-along}

-- the pins of a resident page, and of one that isn't resident
pub record Balanced (x : Point) : Type 0 where
  pub pins : (t p f : ℕ) → InFrame x t p f → x.balance.fixes (at x t p) ≡ x.balance.unfixes (at x t p) + (record_at x.now.pool.records f).pins
  pub none : (t p : ℕ) → p < x.now.pool.pages → (Resident x t p → ⊥) → x.balance.fixes (at x t p) ≡ x.balance.unfixes (at x t p)

balanced : (x : Point) → Invariant x → Balanced x
balanced x I = record {
  pins = λ t p f e. let S = sits x I t p f e in rw (sits-place x.now t p f S) at (I.pins.count f S.at);
  none = λ t p l n. I.pins.none (at x t p) (absent-of x I t p l n);
}

pub pins-balance : (T : ℕ) (ceilings frames store directory : List ℕ) → Octets frames → Octets store → (open_call T ceilings frames store directory).answer ≡ done
    → (cs : List Call) → AllBytes cs → Balanced (run cs (start (open_call T ceilings frames store directory).left))
pins-balance T ceilings frames store directory bf bs e cs b = balanced _ (invariant-along T ceilings frames store directory bf bs e cs b)
