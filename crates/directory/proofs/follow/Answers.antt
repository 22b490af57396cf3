-- `follow` meets its contract: at each frame, what rule 2 asks is what it still asks from there. Assumes nothing.
use Rattle.std.proofs.Common.{arith}
use Rattle.directory.specs.ChainPasses.{along-end, along-beyond, along-stray, along-step, along-fewer}
use Rattle.directory.proofs.follow.Goals as goal

-- a byte that gives no frame
pub returns-then-f-ge-MOST : goal.returns-then-f-ge-MOST
returns-then-f-ge-MOST c = along-beyond _ _ _ _ _ _ c.requires.2 c.loop-x.invariant _ (omega arith) c.if-f-ge-MOST.true

-- a frame that isn't awaited in the chain
pub returns-then-from-b : goal.returns-then-from-b
returns-then-from-b c = along-stray _ _ _ _ _ _ c.requires.2 c.loop-x.invariant _ (omega arith) c.if-f-ge-MOST.false _ c.from.ensures c.if-from-b.true

pub loop-x-smaller : goal.loop-x-smaller
loop-x-smaller c = along-fewer _ _ _ _ _ _ c.requires.2 c.loop-x.invariant _ (omega arith) c.if-f-ge-MOST.false _ c.from.ensures c.if-from-b.false c.requires.1

-- a frame is met
pub loop-x-preserved : goal.loop-x-preserved
loop-x-preserved c = along-step _ _ _ _ _ _ c.requires.2 c.loop-x.invariant _ (omega arith) c.if-f-ge-MOST.false _ c.from.ensures c.if-from-b.false c.requires.1 _ c.from-x-in-loop-x.ensures

-- the chain ends
pub returns : goal.returns
returns c = along-end _ _ _ _ _ _ c.requires.2 c.loop-x.invariant (omega arith)
