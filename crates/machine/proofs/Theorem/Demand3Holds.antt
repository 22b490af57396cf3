-- Demand 3 holds: the invariant at every point of every list of calls from an accepted open, and what follows from it there. Assumes nothing.
use Rattle.std.specs.Prelude.{ℕ, ◌≡◌, List, [], ◌∷◌}
use Rattle.std.proofs.Common.{sym, ◌∙◌, ap}
use Rattle.page.specs.Octets.{Octets}
use Rattle.rules.specs.TestLaws.{clash}
use Rattle.machine.specs.Answers.{done, Out, out}
use Rattle.machine.specs.Calls.{opened, open_call}
use Rattle.machine.specs.History.{Call, Point, accepted, start, next, run, AllBytes}
use Rattle.machine.specs.Demand3.{Holds, Demand3}
use Rattle.machine.proofs.Theorem.Invariant.{Invariant}
use Rattle.machine.proofs.Theorem.Keeps.{open-keeps}
use Rattle.machine.proofs.Theorem.CallCases.{MayOpen, opens, declines, open-case}
use Rattle.machine.proofs.Theorem.PointHolds.{pages-apart, other-empty, kept_frame, counts-in, root-resident, named_by_lem, named-once, leads-to-root, same-payload, swizzled-whole, number-whole, store-plain}
use Rattle.machine.proofs.Theorem.AnswersHold.{per-store, show-gives, peek-gives, word-gives}
use Rattle.machine.proofs.Theorem.DeniedHolds.{denied-15-exactly, denied-27-exactly, never-15}
use Rattle.machine.proofs.Theorem.NeighboursHold.{spared}
use Rattle.machine.proofs.Theorem.Steps.{step_keeps}
use Rattle.machine.proofs.Theorem.HandlesHold.{fix-gives, root-gives, settle-gives}
use Rattle.machine.proofs.Theorem.NeverRefused.{never-refused}

pub holds : (x : Point) → Invariant x → Holds x
holds x I = record {
  shown = show-gives x I;
  peeked = peek-gives x I;
  worded = word-gives x I;
  fixed = fix-gives x I;
  rooted = root-gives x I;
  apart = pages-apart x I;
  otherwise_empty = other-empty x I;
  kept = kept_frame x I;
  per_store = per-store x I;
  root_resident = root-resident x I;
  named = named_by_lem x I;
  named_once = named-once x I;
  tree = leads-to-root x I;
  payload_bytes = same-payload x I;
  swizzled = swizzled-whole x I;
  unswizzled = number-whole x I;
  store_plain = store-plain x I;
  settled = settle-gives x I;
  denied = denied-15-exactly x I;
  denied_own = denied-27-exactly x I;
  single = λ one h k. never-15 x I h k one;
  counts = counts-in x I;
  ceilings = I.by_store.ceilings;
  neighbours = spared x I;
  never_refused = never-refused x I;
}

-- an open that answers done keeps its rules
pub accepted-open : (T : ℕ) (ceilings frames store directory : List ℕ) → (open_call T ceilings frames store directory).answer ≡ done
    → MayOpen T ceilings frames store × (open_call T ceilings frames store directory ≡ out done (opened T ceilings frames store))
accepted-open T ceilings frames store directory e = elim (open-case T ceilings frames store directory) [
  | opens A q ↦ (A, q)
  | declines n a b q ↦ absurd (clash (sym (ap accepted e) ∙ ap (λ (o : Out). accepted o.answer) q))
]

-- and starts with the invariant
start-keeps : (T : ℕ) (ceilings frames store directory : List ℕ) → Octets frames → Octets store → (open_call T ceilings frames store directory).answer ≡ done
    → Invariant (start (open_call T ceilings frames store directory).left)
start-keeps T ceilings frames store directory bf bs e =
    let o = accepted-open T ceilings frames store directory e in
    rw o.1 (open-keeps T ceilings frames store bf bs o.0.lengths o.0.stores o.0.issound)

run-keeps : (cs : List Call) (x : Point) → AllBytes cs → Invariant x → Invariant (run cs x)
unfolding run AllBytes
run-keeps [] x b I = I
run-keeps (c ∷ cs) x b I = run-keeps cs (next c x) b.1 (step_keeps x I c b.0)

pub invariant-along : (T : ℕ) (ceilings frames store directory : List ℕ) → Octets frames → Octets store → (open_call T ceilings frames store directory).answer ≡ done
    → (cs : List Call) → AllBytes cs → Invariant (run cs (start (open_call T ceilings frames store directory).left))
invariant-along T ceilings frames store directory bf bs e cs b = run-keeps cs (start (open_call T ceilings frames store directory).left) b (start-keeps T ceilings frames store directory bf bs e)

pub demand3 : Demand3
demand3 T ceilings frames store directory bf bs e cs b = holds _ (invariant-along T ceilings frames store directory bf bs e cs b)
