-- A call that is granted or denied keeps the invariant: fix, open and those that change nothing; and the points after root, fix and unfix. Assumes nothing.
use Rattle.std.specs.Prelude.{ℕ, ◌<◌, ◌≡◌, List, ltb}
use Rattle.std.proofs.Math.Path.{refl}
use Rattle.std.proofs.Math.Bool.{false}
use borrow.Author.Tests.{leb-false}
use Rattle.page.specs.declared.PageNumber.{PageNumber}
use Rattle.page.specs.Figures.{payload_size}
use Rattle.page.specs.Page.{payload_at}
use Rattle.machine.specs.declared.Handle.{Handle}
use Rattle.rules.specs.Tests.{pick}
use Rattle.rules.specs.TestLaws.{pick-either}
use Rattle.machine.specs.declared.Pool.{Pool}
use Rattle.machine.specs.Machine.{held, ceiling_of, at_ceiling}
use Rattle.machine.specs.Sweep.{first_empty}
use Rattle.machine.specs.Answers.{Answer, refused, payload, in_frames, in_store, Out, out}
use Rattle.machine.specs.Calls.{show_call, fix_call, sought, payload_place, found_answer}
use Rattle.machine.specs.History.{root, fix, unfix, show, peek, find, Row, row, Point, continued, reopened, next}
use Rattle.machine.specs.Demand3.{at}
use Rattle.machine.proofs.Theorem.Invariant.{fit_of, Invariant}
use Rattle.machine.proofs.Theorem.FrameReads.{child-of}
use Rattle.machine.proofs.Theorem.TestReads.{handled-place}
use Rattle.machine.proofs.Theorem.Keeps.{pin-keeps, unpin-keeps, load-keeps, open-keeps}
use Rattle.machine.proofs.Theorem.SweepStep.{swept_keeps}
use Rattle.machine.proofs.Laws.Outcomes.{Cases, granted, denied}
use Rattle.machine.proofs.Theorem.CallCases.{root-case, unfix-case, handle-case, OpenCase, opens, declines}
use Rattle.machine.proofs.Theorem.FixCases.{pins, fills, sweeps, refuses, fix-case}

module _ (x : Point) (I : Invariant x) where
  -- a call that begins no new history: what its accepted case keeps, it keeps
  refused-keeps : (r : Row) (n : ℕ) (o : Out) → o ≡ out (refused n) x.now → Invariant (continued r o x)
  unfolding pick
  refused-keeps r n o e = rw e I

  pub call-keeps : (r : Row) (Facts : Type 0) (a o : Out) → Cases x.now Facts a o → (Facts → Invariant (continued r a x)) → Invariant (continued r o x)
  call-keeps r Facts a o (granted k e) keeps = rw e (keeps k)
  call-keeps r Facts a o (denied n u e) keeps = refused-keeps r n o e

  -- ---- the calls that change nothing: show, peek, word, find
  pub show-keeps : (h : Handle) → Invariant (continued (row (show h)) (show_call x.now h) x)
  unfolding show_call pick
  show-keeps h = call-keeps (row (show h)) _ _ _ (handle-case x I h _) (λ H. I)

  pub peek-keeps : (t : ℕ) (q : PageNumber) → Invariant (continued (row (peek t q)) (out (payload_place x.now t q.0) x.now) x)
  unfolding pick payload_place
  peek-keeps t q = pick-either (λ (a : Answer). Invariant (continued (row (peek t q)) (out a x.now) x)) (ltb (sought x.now t q.0).frame x.now.pool.count)
      (payload in_frames (payload_at (sought x.now t q.0).frame) payload_size) (payload in_store (payload_at (at x t q.0)) payload_size) I I

  pub find-keeps : (t : ℕ) (q : PageNumber) → Invariant (continued (row (find t q)) (out (found_answer x.now t q.0) x.now) x)
  unfolding pick found_answer
  find-keeps t q = pick-either (λ (a : Answer). Invariant (continued (row (find t q)) (out a x.now) x)) (ltb (sought x.now t q.0).frame x.now.pool.count) _ _ I I

  -- ---- fix
  pub fix-keeps : (h : Handle) (k : ℕ) → Invariant (continued (row (fix h k)) (fix_call x.now h k) x)
  unfolding pick
  fix-keeps h k = elim (fix-case x I h k) [
    | pins A g w few e ↦ rw e (pin-keeps x I g (child-of x.now (fit_of x I) h.frame.0 k A.handle.at A.in_page g w).occupied few)
    | fills A low c l free e ↦ rw e (load-keeps x I h.frame.0 k (first_empty x.now.pool) h.store.0 _ A.handle.at A.in_page l free A.handle.store refl low A.filled (below-ceiling x.now.pool h.store.0 c))
    | sweeps A low full t e ↦ rw e (swept_keeps x I h.store.0 A.store full t h.frame.0 k A.handle.at A.handle.pinned A.handle.store A.in_page low A.filled)
    | refuses n u e ↦ refused-keeps (row (fix h k)) n _ e
  ]
    where
      below-ceiling : (p : Pool) (t : ℕ) → at_ceiling p t ≡ false → held p t < ceiling_of p t
      below-ceiling p t c = unfold at_ceiling in leb-false (ceiling_of p t) (held p t) c

  -- ---- open: accepted, it begins a new history; refused, the records from before it stay
  pub open_step : (T : ℕ) (ceilings : List ℕ) (o : Out) → OpenCase T ceilings x.now.frames x.now.store x.now.directory o → Invariant (reopened o x)
  unfolding pick
  open_step T ceilings o (opens A e) = rw e (open-keeps T ceilings x.now.frames x.now.store I.frame_octets I.store_octets A.lengths A.stores A.issound)
  open_step T ceilings o (declines n a b e) = rw e I

  -- ---- the points after root, fix and unfix
  pub root-next : (t : ℕ) → Invariant (next (root t) x)
  unfolding next pick
  root-next t = call-keeps (row (root t)) _ _ _ (root-case x I t) (λ A. pin-keeps x I t (I.shape.root t A.0) A.1)

  pub fix-next : (h : Handle) (k : ℕ) → Invariant (next (fix h k) x)
  unfolding next pick
  fix-next h k = fix-keeps h k

  pub unfix-next : (h : Handle) → Invariant (next (unfix h) x)
  unfolding next pick
  unfix-next h = call-keeps (row (unfix h)) _ _ _ (unfix-case x I h) (λ H. rw (handled-place x.now h H) at (unpin-keeps x I h.frame.0 H.at H.pinned))
