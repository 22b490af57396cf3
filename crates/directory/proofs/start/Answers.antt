-- `start` meets its contract: the roots passed are entered. Assumes nothing.
use Rattle.directory.specs.Start.{rooted_none, rooted_more}
use Rattle.directory.proofs.start.Goals as goal

pub loop-t-init : goal.loop-t-init
loop-t-init c = rooted_none _ _ c.requires.0 (c.fill.ensures.after (λ y e. e))

pub loop-t-preserved : goal.loop-t-preserved
loop-t-preserved c = rooted_more _ _ _ c.loop-t.invariant c.enter.ensures
