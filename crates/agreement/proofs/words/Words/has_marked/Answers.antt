-- `has_marked` meets its contract: `hit` tells of the words passed. Assumes nothing.
use Rattle.std.proofs.Common.{◌≡◌, sym, ap, ◌∙◌, arith}
use Rattle.page.specs.Figures.{slot_count}
use Rattle.page.specs.Word.{is_marked_number}
use Rattle.rules.specs.TestLaws.{some-false}
use Rattle.seen.specs.Fold.{fold-none, fold_more, some-fold, flag-set, flag-unset}
use Rattle.agreement.proofs.words.Words.has_marked.Goals as goal
use Rattle.agreement.proofs.words.Words.has_marked.Goals.{then-is_marked_number, else-is_marked_number}

pub loop-k-init : goal.loop-k-init
loop-k-init c = fold-none _ _

pub loop-k-preserved : goal.loop-k-preserved
loop-k-preserved c =
    let e = c.is_marked_number.ensures ∙ ap is_marked_number c.at.ensures in
    fold_more _ _ _ c.loop-k.invariant (elim c.if-is_marked_number.branch [
      | then-is_marked_number w ↦ flag-set c.loop-k.hit (sym e ∙ w.if-is_marked_number.true) w.hit-is
      | else-is_marked_number w ↦ flag-unset c.loop-k.hit (sym e ∙ w.if-is_marked_number.false) w.hit-is
    ])

pub returns : goal.returns
returns c =
    let e : c.loop-k.k ≡ 16 = omega arith in
    λ t. some-false slot_count _ (sym (rw e at c.loop-k.invariant ∙ some-fold _ slot_count) ∙ t)
