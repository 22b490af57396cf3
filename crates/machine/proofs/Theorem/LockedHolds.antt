-- What is said of locked pages, from the invariant: at a point, and over the calls from there on. Assumes nothing.
use Prim.Native.Nat.{ℕ, ◌<◌, ◌≤◌}
use Rattle.std.specs.Prelude.{◌≡◌, ◌≢◌, ◌↔◌, Bool, true, false, not, length}
use Rattle.std.proofs.Math.Path.{refl, sym, ap}
use Rattle.std.proofs.Common.{◌∙◌, arith}
use mathlib.Core.List.{List, [], ◌∷◌, ◌++◌}
use Rattle.std.proofs.Math.Decide.{dec_lt}
use Rattle.std.proofs.lemmas.Bool.{not-false}
use Rattle.page.specs.declared.PageNumber.{PageNumber}
use Rattle.page.specs.Figures.{page_size, slot_count, payload_start, most_pages, word_radix}
use Rattle.page.specs.Word.{is_marked, name_of, marked, number_word}
use Rattle.page.proofs.NameLaws.{mark-number, name-marked, mark-marked, marked-lt, mark-names, word-ext}
use Rattle.page.specs.Page.{slot, name, lock, byte, page_of, put_slot, slot-put_slot-same, page_of-put_payload-other}
use Rattle.page.specs.StorePlaces.{store_place}
use Rattle.page.proofs.StorePlaceLaws.{place-lt, place-store, place-inj}
use Rattle.page.specs.Octets.{page-ext}
use Rattle.machine.specs.declared.Handle.{Handle}
use Rattle.rules.specs.Tests.{◌and◌, pick, first_broken}
use Rattle.rules.specs.TestLaws.{clash, case, on, off, is-off, pick-by, pick-either, numbered, parts-kept}
use Rattle.machine.specs.Machine.{page_in}
use Rattle.machine.specs.Answers.{refused, done, Out, out}
use Rattle.machine.specs.Rules.{word_of, locked, rule5, rule6-link, rule7, rule8, rule9, rule10}
use Rattle.machine.specs.Calls.{handle_rules, word_rules, open_call, root_call, unfix_call, show_call, peek_call, word_call, relinked, write_call, link_call, unlink_call, evict_call, settle_call, find_call}
use Rattle.machine.specs.History.{Call, reopen, root, fix, unfix, show, peek, word, write, link, unlink, evict, settle, find, Row, row, Point, accepted, continued, reopened, next, run, AllBytes}
use Rattle.machine.specs.Demand3.{at, of_handle}
use Rattle.machine.specs.LockedPages.{LockedBy, Locked, LockedPage, LockedWhile, edits, LocksHold, LockedPages}
use Rattle.machine.proofs.Laws.MoveLaws.{page_of-put_slot-other}
use Rattle.machine.proofs.Laws.RuleLaws.{HandleHeld, handle-kept, slot_kept}
use Rattle.machine.proofs.Laws.Outcomes.{Cases, granted-of, refused-of, never-by, refuses-exactly, fix-lacks, place-accepted, found-accepted, lacks}
use Rattle.machine.proofs.Theorem.View.{View, view, Free}
use Rattle.machine.proofs.Theorem.Lift.{lift-same, lift-number}
use Rattle.machine.proofs.Theorem.Invariant.{map_view, Fit, fit_of, Invariant}
use Rattle.machine.proofs.Theorem.Holders.{Holder, place, held, unheld}
use Rattle.machine.proofs.Theorem.TestReads.{Handled, handled-place}
use Rattle.machine.proofs.Theorem.FrameReads.{paged-below, placed_below, up-store}
use Rattle.machine.proofs.Theorem.Reads.{map_below, map-once, parent-word, unheld-word, unheld-byte, clean-word}
use Rattle.machine.proofs.Theorem.LockReads.{nothing-unmarked, root-unlocked, parent-mark, unlocked-free}
use Rattle.machine.proofs.Theorem.SlotChange.{SlotCase, put_here, elsewhere, slot-case}
use Rattle.machine.proofs.Theorem.CallCases.{MayLink, MayUnlink, OpenCase, opens, declines, open-case, write-case, link-case, unlink-case}
use Rattle.machine.proofs.Theorem.Residence.{Sits, sits-place, sits-handled, sits-store, holder-sits, sits}
use Rattle.machine.proofs.Theorem.Steps.{step_keeps}
use Rattle.machine.proofs.Theorem.LocksLast.{lock-lasts, lock-begins}
use Rattle.machine.proofs.Theorem.Demand3Holds.{invariant-along}

module _ (x : Point) (I : Invariant x) where
  abbrev v : View
  v = view x.now

  abbrev m : List ℕ
  m = x.map

  abbrev N : ℕ
  N = x.now.pool.pages

  abbrev J : Fit x.now
  J = fit_of x I

  -- ---- a handle's page

  page-below : (h : Handle) → Handled x.now h → h.page.0 < N
  page-below h H = rw H.page at (paged-below x.now J h.frame.0)

  place-below : (h : Handle) → Handled x.now h → of_handle x h < v.N
  place-below h H = rw (handled-place x.now h H) at (placed_below x.now J h.frame.0)

  -- ---- what it is to be locked

  locked-below : (t p : ℕ) → Locked x t p → p < N
  locked-below t p (q, k, L) = rw L.names.word at (map_below x I (at x t q) k (place-lt N t _ q L.store L.below) L.names.in_page)

  locked-place : (t p : ℕ) → Locked x t p → at x t p < v.N
  locked-place t p (q, k, L) = place-lt N t _ p L.store (locked-below t p (q, k, L))

  -- the marked word, read over all stores, names the page's place
  lifted-name : (t p q k : ℕ) → LockedBy x t p q k → (map_view N m).map_word (at x t q) k ≡ at x t p
  lifted-name t p q k L =
      let nz : p ≢ 0 = λ z. mark-names (slot m (at x t q) k) L.marked (L.names.word ∙ z) in
      lift-same N _ t _ p (place-store N t q L.below) L.names.word ∙ lift-number N t p nz (locked-below t p (q, k, L))

  not_free : (t p : ℕ) → Locked x t p → Free (map_view N m) v.N (at x t p) → ⊥
  not_free t p (q, k, L) F = clash (sym L.marked ∙ F (at x t q) k (place-lt N t _ q L.store L.below) L.names.in_page (lifted-name t p q k L))

  root-free : (t : ℕ) → Locked x t 0 → ⊥
  root-free t (q, k, L) = clash (sym L.marked ∙ nothing-unmarked m (at x t q) k L.names.word)

  -- a resident page is locked exactly where its parent's word is marked in the frames
  locked-then : (t p f : ℕ) → Sits x.now t p f → locked x.now f ≡ true → Locked x t p
  locked-then t p f S e = elim (dec_lt f x.now.pool.stores) [
    | yes l ↦ absurd (clash (sym e ∙ root-unlocked x I f S.at l))
    | no l ↦ by-parent (omega arith)
  ]
    where
      by-parent : x.now.pool.stores ≤ f → Locked x t p
      by-parent n =
          let P = I.shape.parent f S.at n in
          let q : ℕ = page_in x.now.pool.records (v.up f) in
          let place : v.page (v.up f) ≡ at x t q = ap (λ (u : ℕ). at x u q) (sym (up-store x.now J f S.at n) ∙ S.store) in (
            q,
            v.up_slot f,
            record {
              store = sits-store x I t p f S;
              below = paged-below x.now J (v.up f);
              names = record { in_page = P.in_page; word = ap (λ (a : ℕ). name m a (v.up_slot f)) (sym place) ∙ parent-word x I f P ∙ S.page };
              marked = ap (λ (a : ℕ). lock m a (v.up_slot f)) (sym place) ∙ sym (parent-mark x I f S.at n) ∙ e;
            },
          )

  then-locked : (t p f : ℕ) → Sits x.now t p f → Locked x t p → locked x.now f ≡ true
  then-locked t p f S L = elim (case (locked x.now f)) [
    | on e ↦ e
    | off e ↦ absurd (not_free t p L (rw (sits-place x.now t p f S) at (unlocked-free x I f S.at e)))
  ]

  -- ---- who edits it is refused

  handle-free : (h : Handle) → LockedPage x h → Handled x.now h → locked x.now h.frame.0 ≡ false → ⊥
  handle-free h L H u = clash (sym (then-locked _ _ _ (sits-handled x.now h H) L) ∙ u)

  no_write_lem : (h : Handle) (offset : ℕ) (d : List ℕ) → LockedPage x h → accepted (write_call x.now h offset d).answer ≡ false
  no_write_lem h offset d L = refused-of _ _ _ _ (write-case x I h offset d) (λ A. handle-free h L A.handle A.free)

  no-link : (h : Handle) (k : ℕ) (q : PageNumber) (l : Bool) → LockedPage x h → accepted (link_call x.now h k q l).answer ≡ false
  no-link h k q l L = refused-of _ _ _ _ (link-case x I h k q l) (λ A. handle-free h L A.handle A.free)

  no-unlink : (h : Handle) (k : ℕ) → LockedPage x h → accepted (unlink_call x.now h k).answer ≡ false
  no-unlink h k L = refused-of _ _ _ _ (unlink-case x I h k) (λ A. handle-free h L A.handle A.free)

  -- ---- 26, exactly

  held-sits : (h : Handle) → HandleHeld x.now.pool h → Sits x.now h.store.0 h.page.0 h.frame.0
  held-sits h H = record { at = record { lt = H.below; on = H.used }; store = H.store; page = H.page }

  -- the rule is broken exactly where the page is locked, once the handle is held
  breaks-26 : (h : Handle) → HandleHeld x.now.pool h → (not (locked x.now h.frame.0) ≡ false) ↔ LockedPage x h
  breaks-26 h H = (
    λ e. locked-then _ _ _ (held-sits h H) (not-false _ e),
    λ L. ap not (then-locked _ _ _ (held-sits h H) L),
  )

  both_ways : {A B C D : Type 0} → A ↔ (B × C) → (B → C ↔ D) → A ↔ (B × D)
  both_ways f g = (λ a. let p = f.0 a in (p.0, (g p.0).0 p.1), λ p. f.1 (p.0, (g p.0).1 p.1))

  pub write-26 : (h : Handle) (offset : ℕ) (d : List ℕ)
      → ((write_call x.now h offset d).answer ≡ refused 26) ↔ ((first_broken (handle_rules x.now h ++ (rule5 offset (length d) ∷ [])) ≡ 0) × LockedPage x h)
  unfolding write_call numbered lacks ◌and◌
  write-26 h offset d = both_ways (refuses-exactly x.now (handle_rules x.now h ++ (rule5 offset (length d) ∷ [])) [] 26 _ _ refl (omega arith) refl refl refl)
      (λ b. breaks-26 h (handle-kept x.now h (parts-kept (handle_rules x.now h) (rule5 offset (length d) ∷ []) refl b).0).held)

  pub link-26 : (h : Handle) (k : ℕ) (q : PageNumber) (l : Bool) → ((link_call x.now h k q l).answer ≡ refused 26) ↔ ((first_broken (word_rules x.now h k) ≡ 0) × LockedPage x h)
  unfolding link_call numbered lacks ◌and◌
  link-26 h k q l = both_ways (refuses-exactly x.now (word_rules x.now h k) (rule6-link x.now q.0 ∷ rule9 x.now h.store.0 q.0 ∷ rule8 (word_of x.now h k) ∷ []) 26 _ _ refl (omega arith) refl refl refl)
      (λ b. breaks-26 h (slot_kept x.now h k b).held)

  pub unlink-26 : (h : Handle) (k : ℕ) → ((unlink_call x.now h k).answer ≡ refused 26) ↔ ((first_broken (word_rules x.now h k) ≡ 0) × LockedPage x h)
  unfolding unlink_call numbered lacks ◌and◌
  unlink-26 h k = both_ways (refuses-exactly x.now (word_rules x.now h k) (rule7 (word_of x.now h k) ∷ rule10 (word_of x.now h k) ∷ []) 26 _ _ refl (omega arith) refl refl refl)
      (λ b. breaks-26 h (slot_kept x.now h k b).held)

  -- no other call has the rule
  pub others-26 : (c : Call) → edits c ≡ false → ((row c).out x.now).answer ≢ refused 26
  unfolding open_call root_call unfix_call show_call peek_call word_call evict_call settle_call find_call lacks ◌and◌
  others-26 (reopen T ceilings) e = never-by _ _ _ refl 26 (omega arith) refl
  others-26 (root t) e = never-by _ _ _ refl 26 (omega arith) refl
  others-26 (fix h k) e = fix-lacks x.now h k 26 (omega arith) refl refl
  others-26 (unfix h) e = never-by _ _ _ refl 26 (omega arith) refl
  others-26 (show h) e = never-by _ _ _ refl 26 (omega arith) refl
  others-26 (peek t q) e = never-by _ _ _ (place-accepted x.now t q.0) 26 (omega arith) refl
  others-26 (word h k) e = never-by _ _ _ refl 26 (omega arith) refl
  others-26 (write h offset d) e = absurd (clash e)
  others-26 (link h k q l) e = absurd (clash e)
  others-26 (unlink h k) e = absurd (clash e)
  others-26 (evict t q) e = never-by _ _ _ refl 26 (omega arith) refl
  others-26 settle e = never-by _ _ _ refl 26 (omega arith) refl
  others-26 (find t q) e = never-by _ _ _ (found-accepted x.now t q.0) 26 (omega arith) refl

  -- ---- it is never dirty, and the store has it

  locked-clean : (t p f : ℕ) → Locked x t p → Sits x.now t p f → v.dirty f ≡ false
  locked-clean t p f L S = is-off _ (λ d. not_free t p L (rw (sits-place x.now t p f S) at (I.content.dirty_free f S.at d)))

  -- by its place
  same-page : (p : ℕ) → p < v.N → ((k : ℕ) → k < slot_count → name x.now.store p k ≡ name m p k) → ((k : ℕ) → k < slot_count → lock x.now.store p k ≡ lock m p k)
      → ((i : ℕ) → payload_start ≤ i → i < page_size → byte x.now.store p i ≡ byte m p i) → page_of x.now.store p ≡ page_of m p
  same-page p hp n k b = page-ext x.now.store m p p v.N v.N I.store_octets I.map_octets I.sized.store hp I.map_length hp (λ j hj. word-ext _ _ (n j hj) (k j hj)) b

  locked-stored : (t p : ℕ) → Locked x t p → page_of x.now.store (at x t p) ≡ page_of m (at x t p)
  locked-stored t p L = let hp = locked-place t p L in elim (place x.now (at x t p)) [
    | held h ↦ by-frame _ h
    | unheld a ↦ same-page (at x t p) hp (λ k hk. unheld-word x I (at x t p) k hp a hk) (λ k hk. I.content.absent_mark (at x t p) k hp a hk) (λ i lo hi. unheld-byte x I (at x t p) i hp a lo hi)
  ]
    where
      by-frame : (f : ℕ) → Holder v (at x t p) f → page_of x.now.store (at x t p) ≡ page_of m (at x t p)
      by-frame f h =
          let d = locked-clean t p f L (holder-sits x I t p f (locked-below t p L) h) in
          rw h.page at (same-page (v.page f) (I.shape.page_lt f h.at) (λ k hk. clean-word x I f k h.at d hk) (λ k hk. I.content.clean_mark f k h.at d hk) (λ i lo hi. I.content.clean_byte f i h.at d lo hi))

  -- ---- how it gets locked, and free again

  -- the map with a word in a slot of the handle's page
  map-case : (h : Handle) (k w : ℕ) → Handled x.now h → k < slot_count → w < word_radix → (q j : ℕ) → j < slot_count → SlotCase m (of_handle x h) k w q j
  map-case h k w H hk hw = slot-case m (of_handle x h) k w v.N I.map_length (place-below h H) hk hw

  slot-here : (h : Handle) (k w : ℕ) → Handled x.now h → k < slot_count → w < word_radix → slot (put_slot m (of_handle x h) k w) (of_handle x h) k ≡ w
  slot-here h k w H hk hw = slot-put_slot-same m (of_handle x h) k w v.N I.map_length (place-below h H) hk hw

  linked-exactly : (h : Handle) (k : ℕ) (q : PageNumber) (l : Bool) → accepted (link_call x.now h k q l).answer ≡ true → Locked (next (link h k q l) x) h.store.0 q.0 ↔ (l ≡ true)
  unfolding next pick
  linked-exactly h k q l e = let r = granted-of _ _ _ _ (link-case x I h k q l) e in rw r.1 (after r.0)
    where
      after : MayLink x h k q.0 → Locked (continued (row (link h k q l)) (out done (relinked x.now h.frame.0 k (marked l (number_word q.0)))) x) h.store.0 q.0 ↔ (l ≡ true)
      after A =
          let w : ℕ = marked l (number_word q.0) in
          let small : q.0 < most_pages = omega (arith, A.below, I.sized.pages) in
          let names : name_of w ≡ q.0 = name-marked l q.0 (omega (arith, small)) (λ y. A.some) in
          let marks : is_marked w ≡ l = mark-marked l q.0 (omega (arith, small)) (λ y. A.some) in
          let cases = map-case h k w A.handle A.in_page (marked-lt l q.0 (omega (arith, small))) in
          let here = slot-here h k w A.handle A.in_page (marked-lt l q.0 (omega (arith, small))) in (
            λ L. elim (cases (at x h.store.0 L.0) L.1 L.2.names.in_page) [
              | put_here a b s ↦ sym (ap is_marked s ∙ marks) ∙ L.2.marked
              | elsewhere d s ↦ absurd (A.fresh L.0 L.1 L.2.below L.2.names.in_page (sym (ap name_of s) ∙ L.2.names.word))
            ],
            λ y. (h.page.0, k, record { store = A.store; below = page-below h A.handle; names = record { in_page = A.in_page; word = ap name_of here ∙ names }; marked = ap is_marked here ∙ marks ∙ y }),
          )

  unlinked-free : (h : Handle) (k : ℕ) → accepted (unlink_call x.now h k).answer ≡ true → Locked (next (unlink h k) x) h.store.0 (name m (of_handle x h) k) → ⊥
  unfolding next pick
  unlinked-free h k e = let r = granted-of _ _ _ _ (unlink-case x I h k) e in rw r.1 (after r.0)
    where
      after : MayUnlink x.now h k → Locked (continued (row (unlink h k)) (out done (relinked x.now h.frame.0 k 0)) x) h.store.0 (name m (of_handle x h) k) → ⊥
      after A L = elim (map-case h k 0 A.handle A.in_page (omega arith) (at x h.store.0 L.0) L.1 L.2.names.in_page) [
        | put_here a b s ↦ clash (sym L.2.marked ∙ ap is_marked s ∙ mark-number 0 (omega arith))
        | elsewhere d s ↦
            let q : ℕ = at x h.store.0 L.0 in
            let i : name m q L.1 ≡ name m (of_handle x h) k = sym (ap name_of s) ∙ L.2.names.word in
            let nz : name m q L.1 ≢ 0 = mark-names (slot m q L.1) (sym (ap is_marked s) ∙ L.2.marked) in
            let same = map-once x I h.store.0 L.0 L.1 h.page.0 k L.2.store L.2.below L.2.names.in_page (page-below h A.handle) A.in_page nz i in
            d (ap (at x h.store.0) same.0) same.1
      ]

  -- ---- no call changes a byte of it, at its place

  abbrev Same : ℕ → List ℕ → Type 0
  Same p b = page_of b p ≡ page_of m p

  -- by what the call does to the map where it is accepted
  map-after : (r : Row) (Facts : Type 0) (a o : Out) → Cases x.now Facts a o → (p : ℕ) → (Facts → Same p (r.on_map N m)) → Same p (continued r o x).map
  map-after r Facts a o C p f = pick-by (Same p) (accepted o.answer) (r.on_map N m) m (λ e. f (granted-of _ Facts a o C e).0) (λ e. refl)

  quiet-after : (r : Row) (p : ℕ) → Same p (r.on_map N m) → Same p (continued r (r.out x.now) x).map
  quiet-after r p e = pick-either (Same p) (accepted (r.out x.now).answer) (r.on_map N m) m e refl

  -- the handle's page, where it isn't locked, is another
  another : (t p : ℕ) (h : Handle) → Locked x t p → Handled x.now h → locked x.now h.frame.0 ≡ false → at x t p ≢ of_handle x h
  another t p h L H u e =
      let same = place-inj N t p h.store.0 h.page.0 (locked-below t p L) (page-below h H) e in
      handle-free h (rw (same.0, same.1) at L) H u

  put-after : (t p : ℕ) (h : Handle) (k w : ℕ) → Locked x t p → Handled x.now h → locked x.now h.frame.0 ≡ false → k < slot_count → Same (at x t p) (put_slot m (of_handle x h) k w)
  put-after t p h k w L H u hk = page_of-put_slot-other m (of_handle x h) k w (at x t p) v.N I.map_length (locked-place t p L) hk (another t p h L H u)

  open_after : (t p : ℕ) → Locked x t p → (T : ℕ) (ceilings : List ℕ) (o : Out) → OpenCase T ceilings x.now.frames x.now.store x.now.directory o → Same (at x t p) (reopened o x).map
  unfolding pick
  open_after t p L T ceilings o (opens A e) = rw e (locked-stored t p L)
  open_after t p L T ceilings o (declines n a b e) = rw e refl

  call-spares : (c : Call) (t p : ℕ) → Locked x t p → page_of (next c x).map (at x t p) ≡ page_of m (at x t p)
  unfolding next pick
  call-spares (reopen T ceilings) t p L = open_after t p L T ceilings _ (open-case T ceilings x.now.frames x.now.store x.now.directory)
  call-spares (root u) t p L = quiet-after (row (root u)) (at x t p) refl
  call-spares (fix h k) t p L = quiet-after (row (fix h k)) (at x t p) refl
  call-spares (unfix h) t p L = quiet-after (row (unfix h)) (at x t p) refl
  call-spares (show h) t p L = quiet-after (row (show h)) (at x t p) refl
  call-spares (peek u q) t p L = quiet-after (row (peek u q)) (at x t p) refl
  call-spares (word h k) t p L = quiet-after (row (word h k)) (at x t p) refl
  call-spares (write h offset d) t p L = map-after (row (write h offset d)) _ _ _ (write-case x I h offset d) (at x t p)
      (λ A. page_of-put_payload-other m (of_handle x h) offset d v.N I.map_length (place-below h A.handle) A.fits (at x t p) (locked-place t p L) (another t p h L A.handle A.free))
  call-spares (link h k q l) t p L = map-after (row (link h k q l)) _ _ _ (link-case x I h k q l) (at x t p) (λ A. put-after t p h k _ L A.handle A.free A.in_page)
  call-spares (unlink h k) t p L = map-after (row (unlink h k)) _ _ _ (unlink-case x I h k) (at x t p) (λ A. put-after t p h k _ L A.handle A.free A.in_page)
  call-spares (evict u q) t p L = quiet-after (row (evict u q)) (at x t p) refl
  call-spares settle t p L = quiet-after (row settle) (at x t p) refl
  call-spares (find u q) t p L = quiet-after (row (find u q)) (at x t p) refl

-- ---- over a stretch of calls

stretch-spares : (cs : List Call) (x : Point) → Invariant x → AllBytes cs → (t p : ℕ) → LockedWhile cs x t p → page_of (run cs x).map (at (run cs x) t p) ≡ page_of x.map (at x t p)
unfolding run AllBytes LockedWhile
stretch-spares [] x I b t p W = refl
stretch-spares (c ∷ cs) x I b t p W =
    stretch-spares cs (next c x) (step_keeps x I c b.0) b.1 t p W.2 ∙ ap (page_of (next c x).map) (ap (λ (n : ℕ). store_place n t p) W.1) ∙ call-spares x I c t p W.0

pub locks-hold : (x : Point) → Invariant x → LocksHold x
locks-hold x I = record {
  no_write = no_write_lem x I;
  no_link = no-link x I;
  no_unlink = no-unlink x I;
  write26 = write-26 x I;
  link26 = link-26 x I;
  unlink26 = unlink-26 x I;
  others26 = others-26 x I;
  stays = λ cs b t p W. stretch-spares cs x I b t p W;
  clean = λ t p f L a. locked-clean x I t p f L (sits x I t p f a);
  stored = locked-stored x I;
  lasts = λ c b e. lock-lasts x I c e;
  begins = λ c b e. lock-begins x I c e;
  linked = linked-exactly x I;
  unlinked = unlinked-free x I;
  root_free = root-free x I;
}

pub locked-pages : LockedPages
locked-pages T ceilings frames store directory bf bs e cs b = locks-hold _ (invariant-along T ceilings frames store directory bf bs e cs b)
