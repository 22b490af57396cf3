-- `workload::run_all` meets its contract: block by block. Assumes nothing.
use Rattle.std.specs.Prelude.{◌≤◌}
use Rattle.std.proofs.Common.{arith}
use Rattle.machine.specs.Machine.{state}
use Rattle.workload.proofs.Blocks.{none-reached, block-reached}
use Rattle.workload.proofs.run_all.Goals as goal

pub loop-left-init : goal.loop-left-init
loop-left-init g c = (omega arith, none-reached _ _ c.args.count c.empty.ensures)

pub loop-left-preserved : goal.loop-left-preserved
loop-left-preserved g c =
    let l = c.loop-left in
    let fits : c.min-next.result ≤ l.left = omega arith in
    (omega arith, block-reached _ _ _ l.left _ fits l.invariant.0 c.ranges.count.fits (state l.run.pool l.frames l.store l.directory) l.run.generator l.run.sum l.invariant.1 c.run_next.ensures)
