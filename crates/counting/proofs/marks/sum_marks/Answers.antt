-- `counting::marks::sum_marks` meets its contract: the sum is that of the blocks passed. Assumes nothing.
use Rattle.std.proofs.Common.{arith}
use Rattle.counting.specs.Passing.{blocks-none, blocks-goes}
use Rattle.counting.proofs.marks.sum_marks.Goals as goal

pub loop-i-init : goal.loop-i-init
loop-i-init c = (blocks-none _ _, omega arith)

pub loop-i-preserved : goal.loop-i-preserved
loop-i-preserved c =
    let few = c.requires.2.small c.loop-i.i in
    (blocks-goes _ _ _ _ c.loop-i.auto.i c.loop-i.invariant.0, omega arith)
