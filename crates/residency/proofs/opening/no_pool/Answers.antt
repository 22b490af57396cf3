-- `residency::opening::no_pool` meets its contract. Assumes nothing.
use Rattle.std.proofs.Common.{refl}
use Rattle.machine.specs.Machine.{root_records, zero_pool}
use Rattle.residency.proofs.opening.no_pool.Goals as goal

pub returns : goal.returns
unfolding zero_pool root_records
returns c = rw c.pool_with.ensures refl
