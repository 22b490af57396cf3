-- `residency::opening::pool_with` meets its contract: the records before that of store t have their roots. Assumes nothing.
use Rattle.residency.specs.Opening.{no-root, records-next}
use Rattle.residency.proofs.opening.pool_with.Goals as goal

pub loop-t-init : goal.loop-t-init
loop-t-init c = no-root c.empty-blank.ensures

pub loop-t-preserved : goal.loop-t-preserved
loop-t-preserved c = let e = c.from.ensures in rw e (records-next c.loop-t.invariant c.root.ensures)
