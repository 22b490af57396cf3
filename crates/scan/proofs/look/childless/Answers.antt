-- `scan::look::childless` meets its contract. The loop's invariant: `none` says whether what every word below `k` names is a number, by the word's own bit 31. Assumes nothing.
use Rattle.std.proofs.Common.{ℕ, ◌*◌, ◌≡◌, sym, ap, ◌∙◌, Bool, true, List, arith}
use Rattle.page.specs.Figures.{slot_count}
use Rattle.page.specs.Word.{is_number}
use Rattle.page.proofs.NameLaws.{number-as-word}
use Rattle.page.specs.Page.{slot}
use Rattle.machine.specs.Sweep.{childless}
use Rattle.seen.specs.Fold.{fold, fold-none, fold_more, every_of, every-fold, flag_cleared, flag-kept}
use Rattle.scan.proofs.look.childless.Invariants.{number}
use Rattle.scan.proofs.look.childless.Goals as goal
use Rattle.scan.proofs.look.childless.Goals.{then-not-is_number, else-not-is_number}

over : (fs : List ℕ) (f start k : ℕ) (none : Bool) → start ≡ 256 * f → k ≡ slot_count → none ≡ fold (every_of (number fs start)) true k → none ≡ childless fs f
unfolding childless slot
over fs f start k none s e i = rw (s, e) at i ∙ every-fold _ slot_count

pub loop-k-init : goal.loop-k-init
loop-k-init c = fold-none _ _

pub loop-k-preserved : goal.loop-k-preserved
loop-k-preserved c =
    let e = ap is_number (sym c.word_at-w.ensures) in
    let f = c.is_number.ensures in
    fold_more _ _ _ c.loop-k.invariant (elim c.if-not-is_number.branch [
      | then-not-is_number w ↦ flag_cleared c.loop-k.none (number-as-word _ ∙ e ∙ (sym f ∙ w.if-not-is_number.true)) w.none-is
      | else-not-is_number w ↦ flag-kept c.loop-k.none (number-as-word _ ∙ e ∙ (sym f ∙ w.if-not-is_number.false)) w.none-is
    ])

pub returns : goal.returns
returns c = over _ _ _ _ _ c.start-start.ensures (omega arith) c.loop-k.invariant
