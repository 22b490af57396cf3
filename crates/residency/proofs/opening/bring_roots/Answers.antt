-- `residency::opening::bring_roots` meets its contract: the frames before that of store t have their roots. Assumes nothing.
use Rattle.std.proofs.Common.{refl, arith}
use Rattle.residency.specs.Opening.{no-root-copied, frames-next}
use Rattle.residency.proofs.opening.bring_roots.Goals as goal

pub loop-t-init : goal.loop-t-init
loop-t-init c = (refl, no-root-copied _ _ _)

pub loop-t-preserved : goal.loop-t-preserved
loop-t-preserved c = (omega arith, frames-next _ _ _ _ c.loop-t.invariant.1 c.of-place.ensures c.to_frame.ensures.0)
