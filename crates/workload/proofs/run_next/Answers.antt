-- `workload::run_next` meets its contract. Assumes nothing.
use Rattle.machine.specs.Machine.{state}
use Rattle.workload.proofs.WorkloadLaws.{block-summed}
use Rattle.workload.proofs.run_next.Goals as goal

pub returns : goal.returns
returns g c =
    let a = c.args in
    let run = a.run.now in
    let sum = rw c.replace-so_far.ensures.value at c.add-run.ensures in
    block-summed a.count (state run.pool a.frames.now a.store.now a.directory.now) run.generator run.sum c.run_records-end.ensures.generator_after sum
