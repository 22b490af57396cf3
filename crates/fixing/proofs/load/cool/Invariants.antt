use Rattle.fixing.specs.FixSteps.{Cooling}
use Rattle.fixing.proofs.load.cool.Given as goal

abbrev pub invariant-loop-f : goal.invariant-loop-f
invariant-loop-f l = Cooling l.initial.pool l.pool l.sights l.f
