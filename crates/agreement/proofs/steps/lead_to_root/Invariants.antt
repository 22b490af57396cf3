use Rattle.std.proofs.Common.{◌^◌, ◌<◌}
use Rattle.agreement.specs.Fit.{entry}
use Rattle.agreement.specs.ParentSteps.{Below, AtRoot, Steps}
use Rattle.agreement.proofs.steps.lead_to_root.Given as goal

abbrev pub invariant-loop-round : goal.invariant-loop-round
invariant-loop-round l = Steps (entry l.initial.table) l.count (2 ^ l.round) l.table × Below l.count l.table × (0 < l.round → AtRoot l.count l.table → ⊥)
