-- `pagepool::pool_unfix` meets its contract. Assumes nothing.
use Rattle.pagepool.specs.StructLaws.{done-out}
use Rattle.pagepool.proofs.pool_unfix.Goals as goal

pub returns : goal.returns
returns c = done-out _ _ _ _ _ c.from_done.ensures c.unfix-answer.ensures
