-- `workload::run_seed` meets its contract: the pool is the one that open gives, and the generator that of the seed. Assumes nothing.
use Rattle.std.proofs.lemmas.Result.{IfOk-weaker}
use Rattle.workload.proofs.WorkloadLaws.{from-opened}
use Rattle.workload.proofs.run_seed.Goals as goal

pub returns : goal.returns
returns g c = IfOk-weaker _ _ _ (λ sum. from-opened c.args.seed c.args.count _ c.open_listing-opened.result _ _ _ c.unwrap_or-pool.result c.open_listing-opened.ensures (rw c.no_pool.ensures at c.unwrap_or-pool.ensures) c.seeded-generator.ensures) c.run_all.ensures
