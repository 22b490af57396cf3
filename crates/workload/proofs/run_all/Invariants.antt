-- What `workload::run_all` keeps from block to block: what the records so far leave, and the sum over all of their lines. The records that are left fall with each block.
use Rattle.std.specs.Prelude.{◌-◌, ◌≤◌}
use Rattle.machine.specs.Machine.{state}
use Rattle.workload.specs.Workload.{summed}
use Rattle.workload.proofs.Blocks.{Reached}
use Rattle.workload.proofs.run_all.Given as goal

abbrev pub invariant-loop-left : goal.invariant-loop-left
invariant-loop-left g l = (l.left ≤ l.count) × Reached (state l.initial.run.pool l.initial.frames l.initial.store l.initial.directory) l.initial.run.generator (l.count - l.left) (summed (state l.run.pool l.frames l.store l.directory) l.run.generator l.run.sum)

abbrev pub decreases-loop-left : goal.decreases-loop-left
decreases-loop-left g l = l.left
