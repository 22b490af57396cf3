-- `pagepool::pool_open` meets its contract. Assumes nothing.
use Rattle.pagepool.specs.StructLaws.{opened-out}
use Rattle.pagepool.proofs.pool_open.Goals as goal

pub returns : goal.returns
returns c = opened-out _ _ _ _ c.from_open.ensures c.open.ensures
