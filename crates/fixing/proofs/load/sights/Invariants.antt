use Rattle.machine.specs.Sweep.{kind_for}
use Rattle.scan.specs.Walk.{Sees}
use Rattle.fixing.proofs.load.sights.Given as goal

abbrev pub invariant-loop-f : goal.invariant-loop-f
invariant-loop-f l = Sees (kind_for l.pool l.frames l.of_store.0) l.pool.records l.sights l.f
