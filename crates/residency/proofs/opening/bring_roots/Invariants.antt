use Rattle.std.proofs.Common.{◌≡◌, length}
use Rattle.machine.specs.Calls.{root_frames}
use Rattle.residency.proofs.opening.bring_roots.Given as goal

abbrev pub invariant-loop-t : goal.invariant-loop-t
invariant-loop-t l = (length l.frames ≡ length l.initial.frames) × (l.frames ≡ root_frames l.pages l.initial.frames l.store l.t)
