use Rattle.std.proofs.Common.{◌≡◌, ◌<◌, ◌-◌}
use Rattle.scan.specs.FoundByTable.{empty_by}
use Rattle.scan.proofs.first_empty.Given as goal

abbrev pub invariant-loop-passed : goal.invariant-loop-passed
invariant-loop-passed l = (l.frame.0 < l.count) × (empty_by l.residents l.count l.count l.initial.frame.0 ≡ empty_by l.residents l.count (l.count - l._passed) l.frame.0)
