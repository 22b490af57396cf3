-- What demand 3 says of the handles that root and fix answer, and of the store after settle, from the invariant. Assumes nothing.
use Rattle.std.specs.Prelude.{ℕ, ◌<◌, ◌≡◌, true, length}
use Rattle.std.proofs.Math.Path.{refl}
use Rattle.std.proofs.Common.{sym, ◌∙◌, ap, length-set}
use Rattle.page.specs.Word.{Number}
use Rattle.page.specs.Page.{name}
use Rattle.machine.specs.declared.FrameRecord.{FrameRecord}
use Rattle.machine.specs.declared.Handle.{Handle}
use Rattle.rules.specs.Tests.{pick}
use Rattle.rules.specs.TestLaws.{clash}
use Rattle.machine.specs.Machine.{State, blank, is_used, record_at, page_in, store_in, pinned, loaded_record}
use Rattle.machine.specs.Moves.{plain, evicted, loaded}
use Rattle.machine.specs.Sweep.{sweep}
use Rattle.machine.specs.Rules.{word_of}
use Rattle.machine.specs.Answers.{Answer, handle, Out}
use Rattle.machine.specs.Calls.{change_record, root_call, fix_call, swept_out, settle_call}
use Rattle.machine.specs.History.{Point, root, fix, next, accepted}
use Rattle.machine.specs.Demand3.{of_handle, GivesHandle}
use Rattle.machine.proofs.Laws.PlainLaws.{plain-low, plain-high}
use Rattle.machine.proofs.Theorem.View.{view, Occupied, Child}
use Rattle.machine.proofs.Theorem.Invariant.{fit_of, Invariant}
use Rattle.machine.proofs.Theorem.FrameReads.{root-store, root-number, child-of, child-store}
use Rattle.machine.proofs.Theorem.RecordChange.{change-here, record-lt}
use Rattle.machine.proofs.Theorem.Keeps.{settle-store}
use Rattle.machine.proofs.Laws.SweepLaws.{sweep-cooled, sweep_sound}
use Rattle.machine.proofs.Laws.Outcomes.{granted-of}
use Rattle.machine.proofs.Theorem.CallCases.{AtName, root-case, settle-case}
use Rattle.machine.proofs.Theorem.FixCases.{pins, fills, sweeps, refuses, fix-case}
use Rattle.machine.proofs.Theorem.Residence.{Sits, sits-handled, in_frame}
use Rattle.machine.proofs.Theorem.PointHolds.{root-resident, sits-word}
use Rattle.machine.proofs.Theorem.CallSteps.{root-next, fix-next}

abbrev answer_of : Out → Answer
answer_of o = o.answer

-- ---- which page a frame holds once its record was put

pinned-sits-there : (s : State) (g : ℕ) → g < length s.pool.records → Occupied (view s) g → Sits (change_record s g pinned) (store_in s.pool.records g) (page_in s.pool.records g) g
pinned-sits-there s g l o =
    let e = change-here s.pool.records g (pinned (record_at s.pool.records g)) l in
    record { at = record { lt = o.lt; on = ap is_used e ∙ o.on }; store = ap (λ (r : FrameRecord). r.store.0) e; page = ap (λ (r : FrameRecord). r.page.0) e }

loaded-sits : (s : State) (f k e t q : ℕ) → e < s.pool.count → e < length s.pool.records → Sits (loaded s f k e t q) t q e
unfolding loaded
loaded-sits s f k e t q l m =
    let r = change-here s.pool.records e (loaded_record t q f k) m in
    record { at = record { lt = l; on = ap is_used r }; store = ap (λ (u : FrameRecord). u.store.0) r; page = ap (λ (u : FrameRecord). u.page.0) r }

evicted-records : (s : State) (g : ℕ) → length (evicted s g).pool.records ≡ length s.pool.records
unfolding evicted
evicted-records s g = length-set s.pool.records g blank

evicted-count : (s : State) (g : ℕ) → (evicted s g).pool.count ≡ s.pool.count
unfolding evicted
evicted-count s g = refl

module _ (x : Point) (I : Invariant x) where
  swept-sits : (f k t q : ℕ) → (sweep x.now.pool x.now.frames t).taken ≡ true
      → Sits (swept_out x.now f k t q (sweep x.now.pool x.now.frames t)).left t q (sweep x.now.pool x.now.frames t).frame.0
  swept-sits f k t q e =
      let l = (sweep_sound x.now.pool x.now.frames t I.neat.hand e).0 in
      let c = sweep-cooled x.now.pool x.now.frames t I.neat.hand in
      loaded-sits _ f k (sweep x.now.pool x.now.frames t).frame.0 t q (rw (evicted-count _ _) l) (rw (evicted-records _ _, c.size) (record-lt x I _ l))

  -- the point after a call that begins no new history has the state that the call leaves
  fix-state : (h : Handle) (k : ℕ) → (next (fix h k) x).now ≡ (fix_call x.now h k).left
  unfolding next pick
  fix-state h k = refl

  gives : (h : Handle) (k f t p u q looks : ℕ) (o : Out) → fix_call x.now h k ≡ o → o.answer ≡ handle f t p looks → Sits o.left t p f → t ≡ u → p ≡ q → GivesHandle x (fix h k) u q
  gives h k f t p u q looks o e a S n m =
      let y : Point = next (fix h k) x in
      let s : y.now ≡ o.left = fix-state h k ∙ ap (λ (z : Out). z.left) e in
      (f, looks, rw (← n, ← m) (ap answer_of e ∙ a), rw (← n, ← m) (in_frame y (fix-next x I h k) t p f (rw s S)))

  pub fix-gives : (h : Handle) (k : ℕ) → accepted (fix_call x.now h k).answer ≡ true → GivesHandle x (fix h k) h.store.0 (name x.map (of_handle x h) k)
  fix-gives h k y = elim (fix-case x I h k) [
    | pins A g w few e ↦
        let C : Child (view x.now) h.frame.0 k g = child-of x.now (fit_of x I) h.frame.0 k A.handle.at A.in_page g w in
        gives h k g _ _ _ _ 0 _ e refl (pinned-sits-there x.now g (record-lt x I g C.occupied.lt) C.occupied)
        (child-store x.now (fit_of x I) h.frame.0 k A.handle.at A.in_page g w ∙ A.handle.store)
        (sym (plain-high (page_in x.now.pool.records) g) ∙ ap (plain (page_in x.now.pool.records)) (sym w) ∙ handle-word A)
    | fills A low c l free e ↦ gives h k _ h.store.0 (word_of x.now h k) _ _ 0 _ e refl (loaded-sits x.now _ k _ _ _ l (record-lt x I _ l)) refl (number_word_lem A low)
    | sweeps A low full u e ↦ gives h k _ h.store.0 (word_of x.now h k) _ _ _ _ e refl (swept-sits h.frame.0 k _ _ u) refl (number_word_lem A low)
    | refuses n u e ↦ absurd (clash (sym y ∙ ap (λ (o : Out). accepted o.answer) e))
  ]
    where
      handle-word : AtName x.now h k → plain (page_in x.now.pool.records) (word_of x.now h k) ≡ name x.map (of_handle x h) k
      handle-word A = sits-word x I h.store.0 h.page.0 h.frame.0 k (sits-handled x.now h A.handle) A.in_page

      number_word_lem : AtName x.now h k → Number (word_of x.now h k) → word_of x.now h k ≡ name x.map (of_handle x h) k
      number_word_lem A low = sym (plain-low (page_in x.now.pool.records) (word_of x.now h k) low) ∙ handle-word A

  -- the figures stay, and so does the root's place
  root-figures : (t : ℕ) → accepted (root_call x.now t).answer ≡ true → t < (next (root t) x).now.pool.stores
  unfolding next pick
  root-figures t y = let r = granted-of _ _ _ _ (root-case x I t) y in rw r.1 r.0.0

  pub root-gives : (t : ℕ) → accepted (root_call x.now t).answer ≡ true → GivesHandle x (root t) t 0
  root-gives t y =
      let r = granted-of _ _ _ _ (root-case x I t) y in
      let l = r.0.0 in (
        t,
        0,
        ap answer_of r.1 ∙ ap (λ (u : ℕ). handle t u (page_in x.now.pool.records t) 0) (root-store x.now (fit_of x I) t l) ∙ ap (λ (p : ℕ). handle t t p 0) (root-number x.now (fit_of x I) t l),
        root-resident (next (root t) x) (root-next x I t) t (root-figures t y),
      )

  pub settle-gives : accepted (settle_call x.now).answer ≡ true → (settle_call x.now).left.store ≡ x.map
  settle-gives t = let r = granted-of _ _ _ _ (settle-case x I) t in ap (λ (o : Out). o.left.store) r.1 ∙ settle-store x I
