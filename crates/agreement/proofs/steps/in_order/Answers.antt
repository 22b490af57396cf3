-- `in_order` meets its contract: `late` counts the parents before f that don't lie before their frames. Assumes nothing.
use Rattle.std.proofs.Common.{◌+◌, ◌≡◌, arith}
use Rattle.agreement.specs.ParentSteps.{late-more, late-same}
use Rattle.agreement.proofs.steps.in_order.Goals as goal
use Rattle.agreement.proofs.steps.in_order.Goals.{then-f-parent, else-f-parent}

pub loop-f-preserved : goal.loop-f-preserved
loop-f-preserved c =
    elim c.if-f-parent.branch [
      | then-f-parent w ↦ let e : c.if-f-parent.late ≡ c.loop-f.late + 1 = w.late-is in (omega arith, rw e (late-more _ c.loop-f.f c.loop-f.late w.if-f-parent.true c.loop-f.invariant.1))
      | else-f-parent w ↦ let e : c.if-f-parent.late ≡ c.loop-f.late = w.late-is in (omega arith, rw e (late-same _ c.loop-f.f c.loop-f.late w.if-f-parent.false c.loop-f.invariant.1))
    ]
