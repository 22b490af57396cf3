-- `fixing::load::sights` meets its contract: the first f frames are seen. Assumes nothing.
use Rattle.std.proofs.Common.{◌∙◌, arith}
use Rattle.scan.specs.Walk.{sees-next, sight-for}
use Rattle.fixing.proofs.load.sights.Goals as goal

pub loop-f-preserved : goal.loop-f-preserved
loop-f-preserved c =
    let resting = rw c.requires.3 at c.is_spared-resting.ensures in
    let e = c.from-f-end.ensures in
    sees-next c.loop-f.invariant (omega (arith, c.requires.0)) (c.sight.ensures ∙ sight-for c.args.pool.now c.args.frames.now c.args.of_store.0 _ _ _ resting)
