-- How a page gets locked and free again: what a call does to the map's words, and that a marked word stands until it is unlinked. Assumes nothing.
use Rattle.std.specs.Prelude.{ℕ, ◌<◌, ◌≡◌, ◌⊎◌, Bool, true, false}
use Rattle.std.proofs.Math.Path.{refl}
use Rattle.std.proofs.Common.{sym, ◌∙◌, ap, inl, inr, arith}
use mathlib.Core.List.{List}
use Rattle.page.specs.declared.PageNumber.{PageNumber}
use Rattle.page.specs.Figures.{slot_count, most_pages, word_radix}
use Rattle.page.specs.Word.{is_marked, name_of, marked, number_word}
use Rattle.page.proofs.NameLaws.{name-marked, mark-marked, marked-lt, mark-number, mark-names}
use Rattle.page.specs.Page.{slot, name, put_slot, slot-put_payload}
use Rattle.page.specs.StorePlaces.{store_place}
use Rattle.page.proofs.StorePlaceLaws.{place-inj}
use Rattle.machine.specs.declared.Handle.{Handle}
use Rattle.rules.specs.Tests.{pick}
use Rattle.rules.specs.TestLaws.{clash, pick_yes, pick_no, pick-by, pick-either}
use Rattle.machine.specs.Machine.{page_number, page_in}
use Rattle.machine.specs.Answers.{Out}
use Rattle.machine.specs.History.{Call, reopen, root, fix, unfix, show, peek, word, write, link, unlink, evict, settle, find, Row, row, Point, accepted, continued, next}
use Rattle.machine.specs.LockedPages.{LockedBy, Locked}
use Rattle.machine.specs.Demand3.{at, of_handle}
use Rattle.machine.specs.Moves.{plain}
use Rattle.machine.proofs.Laws.PlainLaws.{plain-low}
use Rattle.machine.proofs.Laws.Outcomes.{granted, denied, granted-of}
use Rattle.machine.proofs.Theorem.View.{view}
use Rattle.machine.proofs.Theorem.Invariant.{fit_of, Invariant}
use Rattle.machine.proofs.Theorem.FrameReads.{paged-below, placed_below}
use Rattle.machine.proofs.Theorem.TestReads.{Handled, handled-place}
use Rattle.machine.proofs.Theorem.SlotChange.{SlotCase, put_here, elsewhere, slot-case}
use Rattle.machine.proofs.Theorem.CallCases.{MayLink, MayUnlink, write-case, link-case, unlink-case}
use Rattle.machine.proofs.Theorem.Residence.{sits-handled}
use Rattle.machine.proofs.Theorem.PointHolds.{sits-word}
use Rattle.machine.proofs.Theorem.FiguresStay.{SameFigures, figures-stay}

-- the words of a map are those of another
record Alike (a b : List ℕ) : Type 0 where
  word : (q j : ℕ) → j < slot_count → slot a q j ≡ slot b q j

module _ (x : Point) (I : Invariant x) where
  abbrev m : List ℕ
  m = x.map

  abbrev N : ℕ
  N = x.now.pool.pages

  -- ---- the map's words after a call that is no open: they stay, or link or unlink puts one

  data After (c : Call) : Type 0 where
    still : Alike (next c x).map m → After c
    by_link : (h : Handle) (k : ℕ) (q : PageNumber) (l : Bool) → c ≡ link h k q l → MayLink x h k q.0 → (next c x).map ≡ put_slot m (of_handle x h) k (marked l (number_word q.0)) → After c
    by_unlink : (h : Handle) (k : ℕ) → c ≡ unlink h k → MayUnlink x.now h k → (next c x).map ≡ put_slot m (of_handle x h) k 0 → After c

  same_alike : (b : List ℕ) → b ≡ m → Alike b m
  same_alike b e = record { word = λ q j hj. ap (λ (a : List ℕ). slot a q j) e }

  quiet-alike : (r : Row) → r.on_map N m ≡ m → Alike (continued r (r.out x.now) x).map m
  quiet-alike r e = pick-either (λ (b : List ℕ). Alike b m) (accepted (r.out x.now).answer) (r.on_map N m) m (same_alike _ e) (same_alike m refl)

  map-yes : (r : Row) → accepted (r.out x.now).answer ≡ true → (continued r (r.out x.now) x).map ≡ r.on_map N m
  map-yes r t = sym (pick_yes m t refl)

  map-no : (r : Row) → accepted (r.out x.now).answer ≡ false → (continued r (r.out x.now) x).map ≡ m
  map-no r t = sym (pick_no (r.on_map N m) t refl)

  page-lt : (h : Handle) → Handled x.now h → of_handle x h < (view x.now).N
  page-lt h H = rw (handled-place x.now h H) at (placed_below x.now (fit_of x I) h.frame.0)

  after : (c : Call) → (row c).anew ≡ false → After c
  unfolding next pick
  after (reopen T ceilings) e = absurd (clash e)
  after (root t) e = still (quiet-alike (row (root t)) refl)
  after (fix h k) e = still (quiet-alike (row (fix h k)) refl)
  after (unfix h) e = still (quiet-alike (row (unfix h)) refl)
  after (show h) e = still (quiet-alike (row (show h)) refl)
  after (peek t q) e = still (quiet-alike (row (peek t q)) refl)
  after (word h k) e = still (quiet-alike (row (word h k)) refl)
  after (write h offset d) e = still (pick-by (λ (b : List ℕ). Alike b m) (accepted ((row (write h offset d)).out x.now).answer) ((row (write h offset d)).on_map N m) m
      (λ t. let A = (granted-of _ _ _ _ (write-case x I h offset d) t).0 in record {
        word = λ q j hj. slot-put_payload m (of_handle x h) offset d _ I.map_length (page-lt h A.handle) A.fits q j hj;
      })
      (λ t. same_alike m refl))
  after (link h k q l) e = elim (link-case x I h k q l) [
    | granted A g ↦ by_link h k q l refl A (map-yes (row (link h k q l)) (ap (λ (o : Out). accepted o.answer) g))
    | denied n u g ↦ still (same_alike _ (map-no (row (link h k q l)) (ap (λ (o : Out). accepted o.answer) g)))
  ]
  after (unlink h k) e = elim (unlink-case x I h k) [
    | granted A g ↦ by_unlink h k refl A (map-yes (row (unlink h k)) (ap (λ (o : Out). accepted o.answer) g))
    | denied n u g ↦ still (same_alike _ (map-no (row (unlink h k)) (ap (λ (o : Out). accepted o.answer) g)))
  ]
  after (evict t q) e = still (quiet-alike (row (evict t q)) refl)
  after settle e = still (quiet-alike (row settle) refl)
  after (find t q) e = still (quiet-alike (row (find t q)) refl)

  -- ---- N and T stay

  module _ (c : Call) (e : (row c).anew ≡ false) where
    figures : SameFigures x.now (next c x).now
    figures = figures-stay c x e

    same_at : (t q : ℕ) → at (next c x) t q ≡ at x t q
    same_at t q = ap (λ (n : ℕ). store_place n t q) figures.pages

    -- a word that stays locks as it did, before and after
    abbrev Stayed : ℕ → ℕ → ℕ → Type 0
    Stayed t q k = slot (next c x).map (at x t q) k ≡ slot m (at x t q) k

    now-there : (t q k : ℕ) → slot (next c x).map (at (next c x) t q) k ≡ slot (next c x).map (at x t q) k
    now-there t q k = ap (λ (p : ℕ). slot (next c x).map p k) (same_at t q)

    locks-on : (t p q k : ℕ) → Stayed t q k → LockedBy x t p q k → LockedBy (next c x) t p q k
    locks-on t p q k s L = record {
      store = rw figures.stores L.store;
      below = rw figures.pages L.below;
      names = record { in_page = L.names.in_page; word = ap name_of (now-there t q k ∙ s) ∙ L.names.word };
      marked = ap is_marked (now-there t q k ∙ s) ∙ L.marked;
    }

    locked-before : (t p q k : ℕ) → Stayed t q k → LockedBy (next c x) t p q k → LockedBy x t p q k
    locked-before t p q k s L = record {
      store = rw figures.stores at L.store;
      below = rw figures.pages at L.below;
      names = record { in_page = L.names.in_page; word = sym (ap name_of (now-there t q k ∙ s)) ∙ L.names.word };
      marked = sym (ap is_marked (now-there t q k ∙ s)) ∙ L.marked;
    }

    -- a word of the map where one was put in a slot of a handle's page
    put-case : (h : Handle) (k w : ℕ) → Handled x.now h → k < slot_count → w < word_radix → (next c x).map ≡ put_slot m (of_handle x h) k w → (q j : ℕ) → j < slot_count → SlotCase m (of_handle x h) k w q j
    put-case h k w H hk hw g = slot-case m (of_handle x h) k w _ I.map_length (page-lt h H) hk hw

    moved : (h : Handle) (k w q j : ℕ) {y : ℕ} → (next c x).map ≡ put_slot m (of_handle x h) k w → slot (put_slot m (of_handle x h) k w) q j ≡ y → slot (next c x).map q j ≡ y
    moved h k w q j g s = ap (λ (a : List ℕ). slot a q j) g ∙ s

    -- which page of which store that is
    same-page : (t q : ℕ) (h : Handle) → q < N → Handled x.now h → at x t q ≡ of_handle x h → (t ≡ h.store.0) × (q ≡ h.page.0)
    same-page t q h l H a = place-inj N t q h.store.0 h.page.0 l (rw H.page at (paged-below x.now (fit_of x I) h.frame.0)) a

    -- the slot of an accepted link names nothing
    vacant : (h : Handle) (k q : ℕ) → MayLink x h k q → name m (of_handle x h) k ≡ 0
    vacant h k q A =
        sym (sits-word x I h.store.0 h.page.0 h.frame.0 k (sits-handled x.now h A.handle) A.in_page) ∙ ap (plain (page_in x.now.pool.records)) A.vacant ∙ plain-low (page_in x.now.pool.records) 0 (omega arith)

    small_word : (q : PageNumber) (l : Bool) → q.0 < N → marked l (number_word q.0) < word_radix
    small_word q l h = let s : q.0 < most_pages = omega (arith, h, I.sized.pages) in marked-lt l q.0 (omega (arith, s))

    pub lock-lasts : (t p q k : ℕ) → LockedBy x t p q k → LockedBy (next c x) t p q k ⊎ ((h : Handle) × (c ≡ unlink h k) × (h.store.0 ≡ t) × (h.page.0 ≡ q))
    lock-lasts t p q k L = elim (after c e) [
      | still s ↦ inl (locks-on t p q k (s.word (at x t q) k L.names.in_page) L)
      | by_link h j r l z A g ↦ elim (put-case h j _ A.handle A.in_page (small_word r l A.below) g (at x t q) k L.names.in_page) [
        | put_here a b s ↦ absurd (mark-names (slot m (at x t q) k) L.marked (ap (λ (i : ℕ). name m i k) a ∙ ap (name m (of_handle x h)) b ∙ vacant h j r.0 A))
        | elsewhere d s ↦ inl (locks-on t p q k (moved h j _ (at x t q) k g s) L)
      ]
      | by_unlink h j z A g ↦ elim (put-case h j 0 A.handle A.in_page (omega arith) g (at x t q) k L.names.in_page) [
        | put_here a b s ↦ let i = same-page t q h L.below A.handle a in inr (h, z ∙ ap (unlink h) (sym b), sym i.0, sym i.1)
        | elsewhere d s ↦ inl (locks-on t p q k (moved h j _ (at x t q) k g s) L)
      ]
    ]

    pub lock-begins : (t p : ℕ) → Locked (next c x) t p → Locked x t p ⊎ ((h : Handle) × (k : ℕ) × (c ≡ link h k (page_number p) true) × (h.store.0 ≡ t))
    lock-begins t p (q, k, L) = elim (after c e) [
      | still s ↦ inl (q, k, locked-before t p q k (s.word (at x t q) k L.names.in_page) L)
      | by_link h j r l z A g ↦ elim (put-case h j _ A.handle A.in_page (small_word r l A.below) g (at x t q) k L.names.in_page) [
        | put_here a b s ↦
            let small : r.0 < most_pages = omega (arith, A.below, I.sized.pages) in
            let w : slot (next c x).map (at (next c x) t q) k ≡ marked l (number_word r.0) = now-there t q k ∙ moved h j _ (at x t q) k g s in
            let n : r.0 ≡ p = sym (ap name_of w ∙ name-marked l r.0 (omega (arith, small)) (λ u. A.some)) ∙ L.names.word in
            let y : l ≡ true = sym (ap is_marked w ∙ mark-marked l r.0 (omega (arith, small)) (λ u. A.some)) ∙ L.marked in
            inr (h, j, z ∙ ap (λ (i : ℕ). link h j (page_number i) l) n ∙ ap (link h j (page_number p)) y, sym (same-page t q h (rw figures.pages at L.below) A.handle a).0)
        | elsewhere d s ↦ inl (q, k, locked-before t p q k (moved h j _ (at x t q) k g s) L)
      ]
      | by_unlink h j z A g ↦ elim (put-case h j 0 A.handle A.in_page (omega arith) g (at x t q) k L.names.in_page) [
        | put_here a b s ↦ absurd (clash (sym L.marked ∙ ap is_marked (now-there t q k ∙ moved h j _ (at x t q) k g s) ∙ mark-number 0 (omega arith)))
        | elsewhere d s ↦ inl (q, k, locked-before t p q k (moved h j _ (at x t q) k g s) L)
      ]
    ]
