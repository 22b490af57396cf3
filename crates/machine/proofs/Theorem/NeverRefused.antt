-- 1, but by an open, 2 and 14 are never answered, from the invariant. Assumes nothing.
use Rattle.std.specs.Prelude.{ℕ, ◌≡◌, refl, ◌≢◌, false, List}
use Rattle.std.proofs.Common.{◌∙◌}
use Rattle.rules.specs.TestLaws.{clash}
use Rattle.machine.specs.Answers.{refused}
use Rattle.machine.specs.Calls.{open_call}
use Rattle.machine.specs.History.{Call, reopen, root, fix, unfix, show, peek, word, write, link, unlink, evict, settle, find, Point, row}
use Rattle.machine.proofs.Theorem.Invariant.{Invariant}
use Rattle.machine.proofs.Laws.Outcomes.{Usual, no-refusal, one-refusal, denied-of, place-accepted, found-accepted}
use Rattle.machine.proofs.Theorem.CallCases.{opens, declines, open-case, root-case, unfix-case, word-case, write-case, peek-case, find-case, link-case, unlink-case, evict-case, settle-case}
use Rattle.machine.proofs.Theorem.AnswersHold.{fix-usual, show-usual}

module _ (x : Point) (I : Invariant x) where
  -- open may be refused by 1, with T or ceilings that don't fit
  open-refusal : (T : ℕ) (ceilings : List ℕ) (n : ℕ) → (open_call T ceilings x.now.frames x.now.store x.now.directory).answer ≡ refused n → (n ≢ 2) × (n ≢ 14)
  open-refusal T ceilings n e = elim (open-case T ceilings x.now.frames x.now.store x.now.directory) [
    | opens A q ↦ absurd (no-refusal _ _ n q refl e)
    | declines m a b q ↦ let i : m ≡ n = one-refusal _ _ m n q e in (λ y. a (i ∙ y), λ y. b (i ∙ y))
  ]

  -- what is said of every refusal, by that of a usual one
  abbrev Said : Call → ℕ → Type 0
  Said c n = ((row c).anew ≡ false → n ≢ 1) × (n ≢ 2) × (n ≢ 14)

  usually : (c : Call) (n : ℕ) → Usual n → Said c n
  usually c n u = (λ e. u.not1, u.not2, u.not14)

  pub never-refused : (c : Call) (n : ℕ) → ((row c).out x.now).answer ≡ refused n → Said c n
  never-refused (reopen T ceilings) n e = let r = open-refusal T ceilings n e in (λ z. absurd (clash z), r.0, r.1)
  never-refused (root t) n e = usually (root t) n (denied-of _ _ _ _ (root-case x I t) refl n e)
  never-refused (fix h k) n e = usually (fix h k) n (fix-usual x I h k n e)
  never-refused (unfix h) n e = usually (unfix h) n (denied-of _ _ _ _ (unfix-case x I h) refl n e)
  never-refused (show h) n e = usually (show h) n (show-usual x I h n e)
  never-refused (peek t q) n e = usually (peek t q) n (denied-of _ _ _ _ (peek-case x I t q) (place-accepted x.now t q.0) n e)
  never-refused (word h k) n e = usually (word h k) n (denied-of _ _ _ _ (word-case x I h k) refl n e)
  never-refused (write h offset d) n e = usually (write h offset d) n (denied-of _ _ _ _ (write-case x I h offset d) refl n e)
  never-refused (link h k q l) n e = usually (link h k q l) n (denied-of _ _ _ _ (link-case x I h k q l) refl n e)
  never-refused (unlink h k) n e = usually (unlink h k) n (denied-of _ _ _ _ (unlink-case x I h k) refl n e)
  never-refused (evict t q) n e = usually (evict t q) n (denied-of _ _ _ _ (evict-case x I t q) refl n e)
  never-refused settle n e = usually settle n (denied-of _ _ _ _ (settle-case x I) refl n e)
  never-refused (find t q) n e = usually (find t q) n (denied-of _ _ _ _ (find-case x I t q) (found-accepted x.now t q.0) n e)
