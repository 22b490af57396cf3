-- `flags::any_below` meets its contract: `hit` tells of the numbers passed. Assumes nothing.
use Rattle.std.proofs.Common.{◌≡◌, sym, ◌∙◌, arith}
use Rattle.seen.specs.Fold.{fold-none, fold_more, some-fold, flag-set, flag-unset}
use Rattle.seen.proofs.flags.any_below.Goals as goal
use Rattle.seen.proofs.flags.any_below.Goals.{then-test, else-test}

pub loop-k-init : goal.loop-k-init
loop-k-init g c = λ t T. fold-none _ _

pub loop-k-preserved : goal.loop-k-preserved
loop-k-preserved g c = λ t T.
    let is = T c.loop-k.k _ c.loop-k-test.true c.test.ensures in
    fold_more _ _ _ (c.loop-k.invariant t T) (elim c.if-test.branch [
      | then-test w ↦ flag-set c.loop-k.hit (sym is ∙ w.if-test.true) w.hit-is
      | else-test w ↦ flag-unset c.loop-k.hit (sym is ∙ w.if-test.false) w.hit-is
    ])

pub returns : goal.returns
returns g c = λ t T.
    let e : c.loop-k.k ≡ c.args.count = omega arith in
    rw e at (c.loop-k.invariant t T) ∙ some-fold t _
