-- `settle_pages` meets its contract: the first f frames are written out and their records clean. Assumes nothing.
use Rattle.std.proofs.Common.{refl, arith}
use Rattle.moves.specs.MoveSteps.{settling-none, settling-writable, settling-more, is-settled}
use Rattle.moves.proofs.settle_pages.Goals as goal

pub loop-f-init : goal.loop-f-init
loop-f-init c = (refl, settling-none _ _ _)

pub write_out-requires : goal.write_out-requires
write_out-requires c = let e = c.from-f-end.ensures in settling-writable c.loop-f.invariant.1 c.requires.0 (omega arith) c.loop-f.invariant.0

pub loop-f-preserved : goal.loop-f-preserved
loop-f-preserved c = (omega arith, settling-more c.loop-f.invariant.1 c.requires.0 (omega arith) c.requires.1 c.write_out.ensures c.cleaned.ensures)

pub returns : goal.returns
returns c = is-settled c.loop-f.invariant.1 (omega arith)
