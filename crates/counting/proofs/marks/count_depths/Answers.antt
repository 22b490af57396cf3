-- `counting::marks::count_depths` meets its contract: the tables tell of the references passed. Assumes nothing.
use Rattle.std.proofs.Common.{arith}
use Rattle.counting.specs.Passing.{going_start, going-depth, going-count, going-move, going_on, going_done}
use Rattle.counting.proofs.marks.count_depths.Goals as goal

pub loop-t-init : goal.loop-t-init
loop-t-init c = rw (c.none-marks.ensures.0, c.none-marks.ensures.1) (going_start _ _ c.requires)

pub depth_of-d-requires : goal.depth_of-d-requires
depth_of-d-requires c = going-depth c.loop-t.invariant c.loop-t-test.true _ c.from-p.ensures _ c.from-s.ensures

pub count-requires : goal.count-requires
count-requires c = going-count c.loop-t.invariant c.loop-t-test.true _ c.from-p.ensures _ _ c.from-s.ensures c.depth_of-d.ensures

pub move_mark-requires : goal.move_mark-requires
move_mark-requires c = going-move c.loop-t.invariant c.loop-t-test.true _ c.from-p.ensures _ c.from-s.ensures

pub loop-t-preserved : goal.loop-t-preserved
loop-t-preserved c = going_on c.loop-t.invariant c.loop-t-test.true _ c.from-p.ensures _ _ _ _ _ c.from-s.ensures c.depth_of-d.ensures c.count.ensures c.move_mark.ensures.0 c.move_mark.ensures.1

pub returns : goal.returns
returns c = going_done c.loop-t.invariant (omega arith)
