-- `note_marked` meets its contract: the numbers with marks among the words before slot k are noted. Assumes nothing.
use Rattle.std.proofs.Common.{ℕ, ◌≡◌, ◌≤◌, ◌<◌, sym, ap, ◌∙◌, arith}
use Rattle.page.specs.Word.{name_of, is_marked_number}
use Rattle.agreement.specs.Twice.{keyed, keyed-zero}
use Rattle.agreement.specs.MarkedNumbers.{gives_one, gives-large, gives_none, noting-none, noting-over, noting-new, noting-stale}
use Rattle.agreement.proofs.words.Words.note_marked.Goals as goal
use Rattle.agreement.proofs.words.Words.note_marked.Goals.{then-is_marked_number+then-x-self+else-not-note, then-is_marked_number+else-x-self, else-is_marked_number}

-- what the word names
named-below : (w : ℕ) {x N : ℕ} → x ≡ name_of w → x < N → name_of w < N
named-below w e l = rw (← e) l

named-above : (w : ℕ) {x N : ℕ} → x ≡ name_of w → N ≤ x → N ≤ name_of w
named-above w e l = rw (← e) l

pub loop-k-init : goal.loop-k-init
loop-k-init c = noting-none _ _ _

-- one was noted before
pub returns-then-not-note : goal.returns-then-not-note
returns-then-not-note c =
    let x = c.name_of-x.ensures ∙ ap name_of c.at-w.ensures in
    let g = gives_one _ _ (sym (c.is_marked_number.ensures ∙ ap is_marked_number c.at-w.ensures) ∙ c.if-is_marked_number.true) (named-below _ x c.if-x-self.true) in
    noting-stale _ _ c.loop-k.k _ c.loop-k.seen c.loop-k.count c.loop-k.invariant _ _ (ap (keyed _) (g.1 ∙ sym x)) c.args.self.now.in_range.0 (omega arith) _ _ c.note.ensures _ (omega arith) c.if-not-note.true

pub loop-k-preserved : goal.loop-k-preserved
loop-k-preserved c =
    let t = c.is_marked_number.ensures ∙ ap is_marked_number c.at-w.ensures in
    elim c.if-is_marked_number.branch [
      | then-is_marked_number+then-x-self+else-not-note w ↦
          let x = w.name_of-x.ensures ∙ ap name_of c.at-w.ensures in
          let g = gives_one _ _ (sym t ∙ w.if-is_marked_number.true) (named-below _ x w.if-x-self.true) in
          rw (w.seen-is, w.count-is) (noting-new _ _ c.loop-k.k _ c.loop-k.seen c.loop-k.count c.loop-k.invariant _ _ (ap (keyed _) (g.1 ∙ sym x)) c.args.self.now.in_range.0 (omega (arith, w.if-x-self.true)) _ _ w.note.ensures g.0 w.if-not-note.false)
      | then-is_marked_number+else-x-self w ↦
          let g = gives-large _ _ (named-above _ (w.name_of-x.ensures ∙ ap name_of c.at-w.ensures) w.if-x-self.false) in
          rw (w.seen-is, w.count-is) (noting-over _ _ c.loop-k.k _ c.loop-k.seen c.loop-k.count c.loop-k.invariant g.0 (keyed-zero _ _ g.1))
      | else-is_marked_number w ↦
          let g = gives_none _ _ c.args.self.now.in_range.2 (sym t ∙ w.if-is_marked_number.false) in
          rw (w.seen-is, w.count-is) (noting-over _ _ c.loop-k.k _ c.loop-k.seen c.loop-k.count c.loop-k.invariant g.0 (keyed-zero _ _ g.1))
    ]
