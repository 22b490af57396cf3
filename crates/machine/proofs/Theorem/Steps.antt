-- Every call keeps the invariant, accepted or refused. Assumes nothing.
use Rattle.std.specs.Prelude.{refl, ◌<◌}
use Rattle.std.proofs.Common.{arith}
use Rattle.std.proofs.Math.Bool.{false}
use Rattle.page.specs.Figures.{most_pages}
use Rattle.page.specs.Word.{marked, number_word}
use Rattle.page.proofs.NameLaws.{name-number, mark-number, name-marked, mark-marked, marked-lt}
use Rattle.page.specs.Octets.{Octets}
use Rattle.rules.specs.Tests.{pick}
use Rattle.machine.specs.Machine.{found_in}
use Rattle.machine.specs.History.{Call, reopen, root, fix, unfix, show, peek, word, write, link, unlink, evict, settle, find, row, Point, next}
use Rattle.machine.proofs.Theorem.Invariant.{Invariant}
use Rattle.machine.proofs.Theorem.Keeps.{write_keeps, relink-keeps, evict-keeps, settle-keeps}
use Rattle.machine.proofs.Theorem.CallCases.{open-case, word-case, write-case, peek-case, find-case, link-case, unlink-case, evict-case, settle-case}
use Rattle.machine.proofs.Theorem.TestReads.{handled-place}
use Rattle.machine.proofs.Theorem.LockReads.{unlocked-free}
use Rattle.machine.proofs.Theorem.CallSteps.{call-keeps, show-keeps, peek-keeps, find-keeps, open_step, root-next, fix-next, unfix-next}

module _ (x : Point) (I : Invariant x) where
  pub step_keeps : (c : Call) → Octets (row c).bytes → Invariant (next c x)
  unfolding next pick
  step_keeps (reopen T ceilings) b = open_step x I T ceilings _ (open-case T ceilings x.now.frames x.now.store x.now.directory)
  step_keeps (root t) b = root-next x I t
  step_keeps (fix h k) b = fix-next x I h k
  step_keeps (unfix h) b = unfix-next x I h
  step_keeps (show h) b = show-keeps x I h
  step_keeps (peek t q) b = call-keeps x I (row (peek t q)) _ _ _ (peek-case x I t q) (λ l. peek-keeps x I t q)
  step_keeps (word h k) b = call-keeps x I (row (word h k)) _ _ _ (word-case x I h k) (λ A. I)
  step_keeps (write h offset d) b = call-keeps x I (row (write h offset d)) _ _ _ (write-case x I h offset d)
      (λ A. rw (handled-place x.now h A.handle) at (write_keeps x I h.frame.0 A.handle.at offset d A.fits b (unlocked-free x I h.frame.0 A.handle.at A.free)))
  step_keeps (link h k q l) b = call-keeps x I (row (link h k q l)) _ _ _ (link-case x I h k q l)
      (λ A.
      let small : q.0 < most_pages = omega (arith, A.below, I.sized.pages) in
      rw (handled-place x.now h A.handle) at (relink-keeps x I h.frame.0 A.handle.at k (marked l (number_word q.0)) q.0 l A.in_page (rw A.vacant (omega arith))
      (name-marked l q.0 (omega (arith, small)) (λ m. A.some)) (mark-marked l q.0 (omega (arith, small)) (λ m. A.some)) (λ z. absurd (A.some z)) (marked-lt l q.0 (omega (arith, small))) A.below
      (rw A.handle.store (λ n. A.fresh)) (unlocked-free x I h.frame.0 A.handle.at A.free)))
  step_keeps (unlink h k) b = call-keeps x I (row (unlink h k)) _ _ _ (unlink-case x I h k)
      (λ A. rw (handled-place x.now h A.handle) at (relink-keeps x I h.frame.0 A.handle.at k 0 0 false A.in_page A.number (name-number 0 (omega arith)) (mark-number 0 (omega arith)) (λ z. refl) (omega arith) I.sized.some (λ n. absurd (n refl))
      (unlocked-free x I h.frame.0 A.handle.at A.free)))
  step_keeps (evict t q) b = call-keeps x I (row (evict t q)) _ _ _ (evict-case x I t q)
      (λ A. evict-keeps x I (found_in x.now.pool t q.0) A.holder.at A.isopen.not_root A.isopen.leaf A.isopen.unpinned)
  step_keeps settle b = call-keeps x I (row settle) _ _ _ (settle-case x I) (λ a. settle-keeps x I)
  step_keeps (find t q) b = call-keeps x I (row (find t q)) _ _ _ (find-case x I t q) (λ l. find-keeps x I t q)
