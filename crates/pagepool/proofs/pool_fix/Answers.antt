-- `pagepool::pool_fix` meets its contract. Assumes nothing.
use Rattle.pagepool.specs.StructLaws.{fixed_out_lem}
use Rattle.pagepool.proofs.pool_fix.Goals as goal

pub returns : goal.returns
returns c = fixed_out_lem _ _ _ _ _ c.from_fix.ensures c.fix-answer.ensures
