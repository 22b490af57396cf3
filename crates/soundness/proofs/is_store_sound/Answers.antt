-- `soundness::is_store_sound` meets its contract: the store's pages before p are passed. Assumes nothing.
use Rattle.std.proofs.Common.{◌≡◌, sym, ◌∙◌, arith}
use Rattle.seen.specs.SeenLaws.{within_same, within-then}
use Rattle.soundness.specs.Pages.{passed_none, passed-all, pass-page, pass-over, fail-page}
use Rattle.soundness.proofs.is_store_sound.Goals as goal
use Rattle.soundness.proofs.is_store_sound.Goals.{then-has_word+else-not-mark_page, else-has_word}

pub loop-p-init : goal.loop-p-init
loop-p-init c = (passed_none _ _ _ _ c.requires.3, within_same _ _)

-- a word is out of range, or a number stands twice
pub returns-then-not-mark_page : goal.returns-then-not-mark_page
returns-then-not-mark_page c =
    let marked = rw (c.start-at.ensures, c.of.ensures, c.if-not-mark_page.true, c.from.ensures) at c.mark_page.ensures in
    (fail-page _ _ _ (omega arith) _ _ c.loop-p.invariant.0 _ (omega arith) marked, within-then _ _ _ _ c.loop-p.invariant.1 marked.within)

pub loop-p-preserved : goal.loop-p-preserved
loop-p-preserved c = elim c.if-has_word.branch [
  | then-has_word+else-not-mark_page w ↦
      let marked = rw (c.start-at.ensures, c.of.ensures, w.if-not-mark_page.false, w.from.ensures) at w.mark_page.ensures in
      rw w.seen-is (pass-page _ _ _ (omega arith) _ _ c.loop-p.invariant.0 _ marked, within-then _ _ _ _ c.loop-p.invariant.1 marked.within)
  | else-has_word w ↦ rw w.seen-is (pass-over _ _ _ (omega arith) _ _ c.loop-p.invariant.0 (sym (rw (c.start-at.ensures, c.of.ensures) at c.has_word.ensures) ∙ w.if-has_word.false), c.loop-p.invariant.1)
]

-- every page is passed
pub returns : goal.returns
returns c =
    let e : c.loop-p.p ≡ c.args.n = omega arith in
    (passed-all _ _ _ _ (rw e at c.loop-p.invariant.0), c.loop-p.invariant.1)
