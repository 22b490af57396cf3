-- Where no word is marked and no link takes a mark, no page is ever locked: from the invariant. Assumes nothing.
use Rattle.std.specs.Prelude.{ℕ, ◌<◌, ◌≡◌, refl, ◌≢◌, true, false, List, [], ◌∷◌}
use Rattle.std.proofs.Common.{sym, ◌∙◌, arith}
use Rattle.std.proofs.Math.Path.{ap}
use borrow.Author.Tests.{not-true}
use Rattle.page.specs.Figures.{slot_count, most_pages, word_radix}
use Rattle.page.specs.Word.{is_marked}
use Rattle.page.proofs.NameLaws.{mark-number, mark-marked, marked-lt}
use Rattle.page.specs.Page.{put_slot, slot-put_payload}
use Rattle.machine.specs.declared.Handle.{Handle}
use Rattle.rules.specs.Tests.{pick}
use Rattle.rules.specs.TestLaws.{clash, pick-by, pick-either}
use Rattle.machine.specs.Answers.{refused, Out}
use Rattle.machine.specs.Calls.{open_call}
use Rattle.machine.specs.History.{Call, reopen, root, fix, unfix, show, peek, word, write, link, unlink, evict, settle, find, Row, row, Point, accepted, continued, next, start, run, AllBytes}
use Rattle.machine.specs.LockedPages.{Locked, Unmarked, without_mark, WithoutMarks, NoneLocked, NeverLocked}
use Rattle.machine.specs.Demand3.{at, of_handle}
use Rattle.machine.proofs.Laws.Outcomes.{Cases, granted-of}
use Rattle.machine.proofs.Theorem.View.{view}
use Rattle.machine.proofs.Theorem.Invariant.{fit_of, Invariant}
use Rattle.machine.proofs.Theorem.FrameReads.{placed_below}
use Rattle.machine.proofs.Theorem.TestReads.{Handled, handled-place}
use Rattle.machine.proofs.Theorem.SlotChange.{put_here, elsewhere, slot-case}
use Rattle.machine.proofs.Theorem.CallCases.{write-case, link-case, unlink-case}
use Rattle.machine.proofs.Theorem.Steps.{step_keeps}
use Rattle.machine.proofs.Theorem.Demand3Holds.{accepted-open, invariant-along}
use Rattle.machine.proofs.Theorem.LockedHolds.{write-26, link-26, unlink-26, others-26}

module _ (x : Point) (I : Invariant x) (U : Unmarked x.map) where
  -- ---- no page is locked, and no call answers 26

  none-locked : (t p : ℕ) → Locked x t p → ⊥
  none-locked t p (q, k, L) = clash (sym L.marked ∙ U (at x t q) k L.names.in_page)

  never-26 : (c : Call) → ((row c).out x.now).answer ≢ refused 26
  never-26 (reopen T ceilings) = others-26 x I (reopen T ceilings) refl
  never-26 (root t) = others-26 x I (root t) refl
  never-26 (fix h k) = others-26 x I (fix h k) refl
  never-26 (unfix h) = others-26 x I (unfix h) refl
  never-26 (show h) = others-26 x I (show h) refl
  never-26 (peek t q) = others-26 x I (peek t q) refl
  never-26 (word h k) = others-26 x I (word h k) refl
  never-26 (write h offset d) = λ e. none-locked _ _ ((write-26 x I h offset d).0 e).1
  never-26 (link h k q l) = λ e. none-locked _ _ ((link-26 x I h k q l).0 e).1
  never-26 (unlink h k) = λ e. none-locked _ _ ((unlink-26 x I h k).0 e).1
  never-26 (evict t q) = others-26 x I (evict t q) refl
  never-26 settle = others-26 x I settle refl
  never-26 (find t q) = others-26 x I (find t q) refl

  pub unmarked-locks : NoneLocked x
  unmarked-locks = record { none = none-locked; never26 = never-26 }

  -- ---- a call without a mark leaves none

  quiet-leaves : (r : Row) → Unmarked (r.on_map x.now.pool.pages x.map) → Unmarked (continued r (r.out x.now) x).map
  quiet-leaves r e = pick-either Unmarked (accepted (r.out x.now).answer) (r.on_map x.now.pool.pages x.map) x.map e U

  change-leaves : (r : Row) (Facts : Type 0) (a o : Out) → Cases x.now Facts a o → (Facts → Unmarked (r.on_map x.now.pool.pages x.map)) → Unmarked (continued r o x).map
  change-leaves r Facts a o C f = pick-by Unmarked (accepted o.answer) (r.on_map x.now.pool.pages x.map) x.map (λ t. f (granted-of _ Facts a o C t).0) (λ t. U)

  page-lt : (h : Handle) → Handled x.now h → of_handle x h < (view x.now).N
  page-lt h H = rw (handled-place x.now h H) at (placed_below x.now (fit_of x I) h.frame.0)

  put-leaves : (h : Handle) (k w : ℕ) → Handled x.now h → k < slot_count → w < word_radix → is_marked w ≡ false → Unmarked (put_slot x.map (of_handle x h) k w)
  put-leaves h k w H hk hw e q j hj = elim (slot-case x.map (of_handle x h) k w _ I.map_length (page-lt h H) hk hw q j hj) [ put_here a b s ↦ ap is_marked s ∙ e | elsewhere d s ↦ ap is_marked s ∙ U q j hj ]

  pub step-leaves : (c : Call) → without_mark c ≡ true → Unmarked (next c x).map
  unfolding next pick
  step-leaves (reopen T ceilings) e = absurd (clash (sym e))
  step-leaves (root t) e = quiet-leaves (row (root t)) U
  step-leaves (fix h k) e = quiet-leaves (row (fix h k)) U
  step-leaves (unfix h) e = quiet-leaves (row (unfix h)) U
  step-leaves (show h) e = quiet-leaves (row (show h)) U
  step-leaves (peek t q) e = quiet-leaves (row (peek t q)) U
  step-leaves (word h k) e = quiet-leaves (row (word h k)) U
  step-leaves (write h offset d) e = change-leaves (row (write h offset d)) _ _ _ (write-case x I h offset d)
      (λ A q k hk. ap is_marked (slot-put_payload x.map (of_handle x h) offset d _ I.map_length (page-lt h A.handle) A.fits q k hk) ∙ U q k hk)
  step-leaves (link h k q l) e = change-leaves (row (link h k q l)) _ _ _ (link-case x I h k q l) (λ A.
      let small : q.0 < most_pages = omega (arith, A.below, I.sized.pages) in
      put-leaves h k _ A.handle A.in_page (marked-lt l q.0 (omega (arith, small))) (mark-marked l q.0 (omega (arith, small)) (λ m. A.some) ∙ not-true l e))
  step-leaves (unlink h k) e = change-leaves (row (unlink h k)) _ _ _ (unlink-case x I h k) (λ A. put-leaves h k 0 A.handle A.in_page (omega arith) (mark-number 0 (omega arith)))
  step-leaves (evict t q) e = quiet-leaves (row (evict t q)) U
  step-leaves settle e = quiet-leaves (row settle) U
  step-leaves (find t q) e = quiet-leaves (row (find t q)) U

-- ---- along a list

none-along : (cs : List Call) (x : Point) → Invariant x → Unmarked x.map → AllBytes cs → WithoutMarks cs → NoneLocked (run cs x)
unfolding run AllBytes WithoutMarks
none-along [] x I U b w = unmarked-locks x I U
none-along (c ∷ cs) x I U b w = none-along cs (next c x) (step_keeps x I c b.0) (step-leaves x I U c w.0) b.1 w.1

pub never-locked : NeverLocked
unfolding AllBytes run
never-locked T ceilings frames store directory bf bs e U cs b w =
    none-along cs (start (open_call T ceilings frames store directory).left) (invariant-along T ceilings frames store directory bf bs e [] tt) (rw (accepted-open T ceilings frames store directory e).1 U) b w
