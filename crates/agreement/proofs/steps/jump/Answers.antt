-- `jump` meets its contract: the entries before f made their jump. Assumes nothing.
use Rattle.std.proofs.Common.{◌<◌, ap, arith}
use Rattle.agreement.specs.Fit.{entry}
use Rattle.agreement.specs.ParentSteps.{jumped-none, jumped-more, at-root-more}
use Rattle.agreement.proofs.steps.jump.Goals as goal
use Rattle.agreement.proofs.steps.jump.Goals.{then-x-ne0, else-x-ne0}

pub loop-f-init : goal.loop-f-init
loop-f-init c = (jumped-none _ _ c.requires.1, λ f l. absurd (omega arith))

pub loop-f-preserved : goal.loop-f-preserved
loop-f-preserved c =
    let e = ap (entry c.loop-f.table) c.from.ensures in
    let l : c.loop-f.f < c.args.count = omega arith in (
      jumped-more c.args.count _ c.loop-f.table _ _ l e c.loop-f.invariant.0,
      at-root-more c.args.count c.loop-f.table _ _ l c.loop-f.invariant.0.below.size _ _ c.loop-f.invariant.1
          (λ n. elim c.if-x-ne0.branch [ then-x-ne0 w ↦ w.at_root-is | else-x-ne0 w ↦ absurd (n w.if-x-ne0.false) ])
          (λ z. elim c.if-x-ne0.branch [ then-x-ne0 w ↦ absurd (w.if-x-ne0.true z) | else-x-ne0 w ↦ w.at_root-is ]),
    )
