-- `fixing::load::cool` meets its contract: the first f frames are left as the sweep left them. Assumes nothing.
use Rattle.fixing.specs.StepLaws.{cooling-next}
use Rattle.fixing.proofs.load.cool.Goals as goal

pub loop-f-preserved : goal.loop-f-preserved
loop-f-preserved c = cooling-next c.loop-f.invariant c.usage_left.ensures
