-- "a neighbour's page may be evicted, though its map, pins and shown bytes are the same after it", from the invariant. Assumes nothing.
use Rattle.std.specs.Prelude.{ℕ, ◌<◌, ◌≡◌, ◌≢◌, true, false, ltb}
use Rattle.std.proofs.Math.Path.{refl, sym, ap}
use Rattle.std.proofs.Common.{◌∙◌, arith, lt-ltb, ne_eqb}
use mathlib.Core.List.{List, [], ◌∷◌}
use Rattle.page.specs.Figures.{payload_size}
use Rattle.page.specs.Page.{name, page_of, payload_at, payload_of}
use Rattle.page.specs.StorePlaces.{store_place}
use Rattle.page.proofs.StorePlaceLaws.{place-inj}
use Rattle.machine.specs.declared.Handle.{Handle}
use Rattle.rules.specs.Tests.{pick}
use Rattle.rules.specs.TestLaws.{clash, case, on, off, kept_then, none-broken, pick_no, pick-either}
use Rattle.machine.specs.Rules.{rule3, rule28}
use Rattle.machine.specs.Answers.{Answer, refused, handle, payload, in_frames, Out, out}
use Rattle.machine.specs.Calls.{fix_call, show_call}
use Rattle.machine.specs.History.{Point, Balance, fix, next, counted, update, is_pinned, accepted}
use Rattle.machine.specs.Demand3.{at, of_handle, Pinned, Spared}
use Rattle.machine.proofs.Laws.Outcomes.{kept, broken, granted-of}
use Rattle.machine.proofs.Theorem.Invariant.{fit_of, Invariant}
use Rattle.machine.proofs.Theorem.FrameReads.{store_below}
use Rattle.machine.proofs.Theorem.TestReads.{Handled, of-handled}
use Rattle.machine.proofs.Theorem.CallCases.{after-pool, handle-case}
use Rattle.machine.proofs.Theorem.FixCases.{pins, fills, sweeps, refuses, fix-case}
use Rattle.machine.proofs.Theorem.Residence.{Sits, sits-below, sits-once, sits, pinned-sits, pinned-of}
use Rattle.machine.proofs.Theorem.PointHolds.{kept_frame}
use Rattle.machine.proofs.Theorem.AnswersHold.{show-gives, place-gives}
use Rattle.machine.proofs.Theorem.CallSteps.{fix-next}
use Rattle.machine.proofs.Theorem.FiguresStay.{SameFigures, figures-stay}
use Rattle.machine.proofs.Theorem.HandlesHold.{fix-gives}

-- ---- a handle that fits is shown

shows : (x : Point) → Invariant x → (g : Handle) → Handled x.now g → (show_call x.now g).answer ≡ payload in_frames (payload_at g.frame.0) payload_size
unfolding show_call
shows x I g H = elim (after-pool x I (rule28 x.now g.store.0 ∷ rule3 x.now g ∷ []) (out (payload in_frames (payload_at g.frame.0) payload_size) x.now)) [
  | kept b e ↦ ap (λ (o : Out). o.answer) e
  | broken n z b e ↦
      let l : g.store.0 < x.now.pool.stores = rw H.store at (store_below x.now (fit_of x I) g.frame.0) in
      absurd (z (sym b ∙ kept_then 28 _ (lt-ltb g.store.0 x.now.pool.stores l) ∙ kept_then 3 [] (of-handled x.now g H) ∙ none-broken))
]

-- ---- over a fix

module _ (x : Point) (I : Invariant x) (h : Handle) (k : ℕ) where
  abbrev y : Point
  y = next (fix h k) x

  J : Invariant y
  J = fix-next x I h k

  figures : SameFigures x.now y.now
  figures = figures-stay (fix h k) x refl

  same_map : y.map ≡ x.map
  unfolding next pick
  same_map = pick-either (λ (m : List ℕ). m ≡ x.map) (accepted (fix_call x.now h k).answer) x.map x.map refl refl

  balance-by : (a : Answer) → (fix_call x.now h k).answer ≡ a → y.balance ≡ counted x.now.pool.pages a x.balance
  unfolding next pick
  balance-by a e =
      ap (counted x.now.pool.pages (fix_call x.now h k).answer) (pick-either (λ (b : Balance). b ≡ x.balance) (accepted (fix_call x.now h k).answer) x.balance x.balance refl refl)
      ∙ ap (λ (z : Answer). counted x.now.pool.pages z x.balance) e

  -- another page's value stays
  update_other : (f : ℕ → ℕ) (p q n : ℕ) → q ≢ p → update f p n q ≡ f q
  unfolding update
  update_other f p q n z = sym (pick_no n (ne_eqb q p z) refl)

  -- page p of another store
  module _ (t p : ℕ) (other : t ≢ h.store.0) (ht : t < x.now.pool.stores) (hp : p < x.now.pool.pages) where
    same_at : at y t p ≡ at x t p
    same_at = ap (λ (n : ℕ). store_place n t p) figures.pages

    -- the balance of this page
    record SameBalance : Type 0 where
      fixes : y.balance.fixes (at x t p) ≡ x.balance.fixes (at x t p)
      unfixes : y.balance.unfixes (at x t p) ≡ x.balance.unfixes (at x t p)
      frame : y.balance.frame (at x t p) ≡ x.balance.frame (at x t p)

    accepted-balance : accepted (fix_call x.now h k).answer ≡ true → SameBalance
    accepted-balance e =
        let g = fix-gives x I h k e in
        let c : ℕ = name x.map (of_handle x h) k in
        let b : c < x.now.pool.pages = rw figures.pages at (sits-below y J h.store.0 c g.0 (sits y J h.store.0 c g.0 g.3)) in
        let n : at x t p ≢ at x h.store.0 c = λ z. other (place-inj x.now.pool.pages t p h.store.0 c hp b z).0 in
        let w = balance-by (handle g.0 h.store.0 c g.1) g.2 in
        record {
          fixes = ap (λ (r : Balance). r.fixes (at x t p)) w ∙ update_other x.balance.fixes (at x h.store.0 c) (at x t p) _ n;
          unfixes = ap (λ (r : Balance). r.unfixes (at x t p)) w;
          frame = ap (λ (r : Balance). r.frame (at x t p)) w
              ∙ pick-either (λ (u : ℕ → ℕ). u (at x t p) ≡ x.balance.frame (at x t p)) (is_pinned x.balance (at x h.store.0 c)) _ _ refl (update_other x.balance.frame (at x h.store.0 c) (at x t p) _ n);
        }

    refused-balance : accepted (fix_call x.now h k).answer ≡ false → SameBalance
    refused-balance e = elim (fix-case x I h k) [
      | pins A g w few q ↦ absurd (clash (ap (λ (o : Out). accepted o.answer) (sym q) ∙ e))
      | fills A low c n free q ↦ absurd (clash (ap (λ (o : Out). accepted o.answer) (sym q) ∙ e))
      | sweeps A low full u q ↦ absurd (clash (ap (λ (o : Out). accepted o.answer) (sym q) ∙ e))
      | refuses n u q ↦
          let w = balance-by (refused n) (ap (λ (o : Out). o.answer) q) in
          record { fixes = ap (λ (r : Balance). r.fixes (at x t p)) w; unfixes = ap (λ (r : Balance). r.unfixes (at x t p)) w; frame = ap (λ (r : Balance). r.frame (at x t p)) w }
    ]

    same-balance : SameBalance
    same-balance = elim (case (accepted (fix_call x.now h k).answer)) [ on e ↦ accepted-balance e | off e ↦ refused-balance e ]

    -- a handle of it that fits still fits: the page is pinned, and keeps its frame
    still-pinned : Pinned x t p → Pinned y t p
    still-pinned B = record {
      below = rw figures.pages hp;
      more = ap (is_pinned y.balance) same_at ∙ ap (λ (a : ℕ). ltb a (y.balance.fixes (at x t p))) same-balance.unfixes ∙ ap (ltb (x.balance.unfixes (at x t p))) same-balance.fixes ∙ B.more;
    }

    still-handled : (g : Handle) → g.store.0 ≡ t → g.page.0 ≡ p → Handled x.now g → Handled y.now g
    still-handled g a b H =
        let S : Sits x.now t p g.frame.0 = record { at = H.at; store = H.store ∙ a; page = H.page ∙ b } in
        let B : Pinned x t p = pinned-of x I t p g.frame.0 S (λ z. omega (arith, H.pinned)) in
        let c = pinned-sits y J t p (still-pinned B) in
        let before : x.balance.frame (at x t p) ≡ g.frame.0 = sits-once x I t p _ g.frame.0 (sits x I t p _ (kept_frame x I t p B)) S in
        let after : y.balance.frame (at y t p) ≡ c.0 = sits-once y J t p _ c.0 (sits y J t p _ (kept_frame y J t p (still-pinned B))) c.1 in
        let e : c.0 ≡ g.frame.0 = sym after ∙ ap y.balance.frame same_at ∙ same-balance.frame ∙ before in
        let R : Sits y.now t p g.frame.0 = rw e at c.1 in
        record { at = R.at; store = R.store ∙ sym a; page = R.page ∙ sym b; pinned = positive (rw e at c.2) }
      where
        positive : {n : ℕ} → n ≢ 0 → 0 < n
        positive z = omega arith

    still-shown : (g : Handle) → g.store.0 ≡ t → g.page.0 ≡ p → accepted (show_call x.now g).answer ≡ true → (show_call y.now g).answer ≡ (show_call x.now g).answer
    unfolding show_call
    still-shown g a b e =
        let r = granted-of _ _ _ _ (handle-case x I g _) e in
        shows y J g (still-handled g a b r.0) ∙ sym (ap (λ (o : Out). o.answer) r.1)

    same-payload : payload_of y.map (at y t p) ≡ payload_of x.map (at x t p)
    same-payload = ap (λ (b : List ℕ). payload_of b (at y t p)) same_map ∙ ap (payload_of x.map) same_at

    pub spared : Spared x y t p
    spared = record {
      map = ap (λ (b : List ℕ). page_of b (at y t p)) same_map ∙ ap (page_of x.map) same_at;
      fixes = ap y.balance.fixes same_at ∙ same-balance.fixes;
      unfixes = ap y.balance.unfixes same_at ∙ same-balance.unfixes;
      peeked = λ fs st.
          (place-gives y J t p fs st (record { store = rw figures.stores ht; below = rw figures.pages hp })).bytes ∙ same-payload ∙ sym (place-gives x I t p fs st (record { store = ht; below = hp })).bytes;
      answered = still-shown;
      shown = λ g a b e fs st.
          let place : of_handle x g ≡ at x t p = rw (a, b) in
          let there : of_handle y g ≡ at y t p = rw (a, b) in
          (show-gives y J g fs st (ap accepted (still-shown g a b e) ∙ e)).bytes ∙ ap (payload_of y.map) there ∙ same-payload ∙ ap (payload_of x.map) (sym place) ∙ sym (show-gives x I g fs st e).bytes;
    }
