use Rattle.rules.specs.Deciding.{Decides}
use Rattle.agreement.specs.ParentSteps.{AtRoot, Jumped}
use Rattle.agreement.proofs.steps.jump.Given as goal

abbrev pub invariant-loop-f : goal.invariant-loop-f
invariant-loop-f l = Jumped l.count l.initial.table l.table l.f × Decides l.at_root (AtRoot l.f l.table)
