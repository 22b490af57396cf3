-- `pagepool::pool_unlink` meets its contract. Assumes nothing.
use Rattle.pagepool.specs.StructLaws.{done-out}
use Rattle.pagepool.proofs.pool_unlink.Goals as goal

pub returns : goal.returns
returns c = done-out _ _ _ _ _ c.from_done.ensures c.unlink-answer.ensures
