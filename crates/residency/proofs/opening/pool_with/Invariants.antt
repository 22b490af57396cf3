use Rattle.std.proofs.Common.{◌≡◌}
use Rattle.machine.specs.Machine.{root_records}
use Rattle.residency.proofs.opening.pool_with.Given as goal

abbrev pub invariant-loop-t : goal.invariant-loop-t
invariant-loop-t l = l.records ≡ root_records l.t
