use Rattle.std.proofs.Common.{◌≤◌}
use Rattle.agreement.specs.ParentSteps.{Late}
use Rattle.agreement.proofs.steps.in_order.Given as goal

abbrev pub invariant-loop-f : goal.invariant-loop-f
invariant-loop-f l = (l.late ≤ l.f) × Late l.parents l.f l.late
