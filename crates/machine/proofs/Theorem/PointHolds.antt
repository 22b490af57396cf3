-- What demand 3 says of a point by itself, from the invariant: frames, pins, the trees, bytes, words. Assumes nothing.
use Rattle.std.specs.Prelude.{ℕ, ◌<◌, ◌≤◌, ◌≡◌, refl, ◌≢◌, ◌↔◌, Bool, true, List}
use Rattle.std.proofs.Common.{sym, ◌∙◌, ap, arith}
use Rattle.std.proofs.Math.Decide.{dec_lt}
use Rattle.page.specs.Figures.{page_size, slot_count, payload_start}
use Rattle.page.specs.Word.{is_number, frame_word, Number, yes-number, reading, low, high, number_word, renamed, marked}
use Rattle.page.proofs.NameLaws.{renamed-same}
use Rattle.page.specs.Page.{slot, name, byte}
use Rattle.page.proofs.StorePlaceLaws.{place-lt}
use Rattle.machine.specs.declared.FrameRecord.{FrameRecord}
use Rattle.machine.specs.Machine.{record_at, page_in, store_in, occupied, blank, is_of}
use Rattle.machine.specs.Moves.{plain}
use Rattle.rules.specs.TestLaws.{case, on, off}
use Rattle.machine.specs.History.{Point}
use Rattle.machine.specs.Demand3.{at, InFrame, Resident, Pinned, Names, LeadsToRoot, at_root, to_parent}
use Rattle.machine.proofs.Laws.PlainLaws.{plain-low, plain-high}
use Rattle.machine.proofs.Laws.HeldLaws.{is-of, of_is}
use Rattle.machine.proofs.Theorem.View.{View, view, Reach, top, via, Occupied, Parent, Child}
use Rattle.machine.proofs.Theorem.Invariant.{Fit, fit_of, Invariant}
use Rattle.machine.proofs.Theorem.Holders.{occupied-of}
use Rattle.machine.proofs.Theorem.FrameReads.{root-store, root-number, number-some, some_number, up-store, child-of, child-store}
use Rattle.machine.proofs.Theorem.Reads.{held_word, held-mark, held-byte, parent-word, map-once, stored-number}
use Rattle.machine.proofs.Theorem.InvariantReads.{blank-record, number-away}
use Rattle.machine.proofs.Theorem.Residence.{Sits, sits-place, sits-holder, sits-self, sits-store, sits-below, sits-once, in_frame, resident-of, sits, pinned-sits}

-- a word of page p of store t, in frame f, against the map's: a number, of no resident page, or swizzled to the frame of the page that the map's names
pub data Meets (x : Point) (t p f k : ℕ) : Type 0 where
  number : name x.now.frames f k ≡ name x.map (at x t p) k → Number (name x.now.frames f k)
      → (name x.map (at x t p) k ≢ 0 → (g : ℕ) → Sits x.now t (name x.map (at x t p) k) g → ⊥) → Meets x t p f k
  swizzled_to : (g : ℕ) → name x.now.frames f k ≡ frame_word g → Child (view x.now) f k g → Sits x.now t (name x.map (at x t p) k) g → Meets x t p f k

module _ (x : Point) (I : Invariant x) where
  abbrev v : View
  v = view x.now

  abbrev rs : List FrameRecord
  rs = x.now.pool.records

  abbrev J : Fit x.now
  J = fit_of x I

  -- ---- frames and pins
  pub pages-apart : (t p u q f : ℕ) → InFrame x t p f → InFrame x u q f → (t ≡ u) × (p ≡ q)
  pages-apart t p u q f a b =
      let S = sits x I t p f a in
      let R = sits x I u q f b in
      (sym S.store ∙ R.store, sym S.page ∙ R.page)

  pub other-empty : (f : ℕ) → f < x.now.pool.count → ((t p : ℕ) → InFrame x t p f → ⊥) → record_at rs f ≡ blank
  other-empty f l n = elim (case (occupied x.now.pool f)) [
    | on e ↦ absurd (n _ _ (in_frame x I _ _ f (sits-self x.now f (occupied-of x.now f e))))
    | off e ↦ blank-record x I f e
  ]

  pub kept_frame : (t p : ℕ) → Pinned x t p → InFrame x t p (x.balance.frame (at x t p))
  kept_frame t p B =
      let a = pinned-sits x I t p B in
      let e : x.balance.frame (at x t p) ≡ a.0 = rw (sits-place x.now t p a.0 a.1) at (I.pins.place a.0 a.1.at a.2) in
      rw e (in_frame x I t p a.0 a.1)

  -- what counts towards the ceiling of a store
  pub counts-in : (t f : ℕ) → f < x.now.pool.count → (is_of t (record_at rs f) ≡ true) ↔ ((p : ℕ) × InFrame x t p f)
  counts-in t f l = (
    λ e. let a = of_is t (record_at rs f) e in
        (page_in rs f, in_frame x I t _ f (record { at = record { lt = l; on = a.0 }; store = a.1; page = refl })),
    λ r. let S = sits x I t r.0 f r.1 in is-of t (record_at rs f) S.at.on S.store,
  )

  -- ---- the trees
  pub root-sits : (t : ℕ) → t < x.now.pool.stores → Sits x.now t 0 t
  root-sits t l = record { at = I.shape.root t l; store = root-store x.now J t l; page = root-number x.now J t l }

  pub root-resident : (t : ℕ) → t < x.now.pool.stores → InFrame x t 0 t
  root-resident t l = in_frame x I t 0 t (root-sits t l)

  -- the parent of a frame that is no root's, and its word in the map
  module _ (f : ℕ) (o : Occupied v f) (n : x.now.pool.stores ≤ f) where
    P : Parent v f
    P = I.shape.parent f o n

    parent-sits : Sits x.now (store_in rs f) (page_in rs (v.up f)) (v.up f)
    parent-sits = record { at = P.occupied; store = sym (up-store x.now J f o n); page = refl }

    parent-names : Names x (store_in rs f) (page_in rs (v.up f)) (v.up_slot f) (page_in rs f)
    parent-names = record { in_page = P.in_page; word = ap (λ (q : ℕ). name x.map q (v.up_slot f)) (sym (sits-place x.now _ _ _ parent-sits)) ∙ parent-word x I f P }

  pub named_by_lem : (t p : ℕ) → p ≢ 0 → Resident x t p → (q k : ℕ) × Resident x t q × Names x t q k p
  named_by_lem t p n r =
      let S = sits x I t p r.0 r.1 in
      let z = some_number x.now J r.0 (λ e. n (sym S.page ∙ e)) in
      (_, _, rw S.store at (resident-of x I _ _ _ (parent-sits r.0 S.at z)), rw (S.store, S.page) at (parent-names r.0 S.at z))

  pub named-once : (t p q k r j : ℕ) → p ≢ 0 → Resident x t p → Resident x t q → Names x t q k p → Resident x t r → Names x t r j p → (q ≡ r) × (k ≡ j)
  named-once t p q k r j n rp rq a rr b =
      let Q = sits x I t q rq.0 rq.1 in
      let R = sits x I t r rr.0 rr.1 in
      map-once x I t q k r j (sits-store x I t q rq.0 Q) (sits-below x I t q rq.0 Q) a.in_page (sits-below x I t r rr.0 R) b.in_page (λ z. n (sym a.word ∙ z)) (a.word ∙ sym b.word)

  at-root : (f : ℕ) → f < x.now.pool.stores → LeadsToRoot x (store_in rs f) (page_in rs f)
  at-root f l = rw (root-number x.now J f l) at_root

  leads : (f : ℕ) → Reach v f → Occupied v f → LeadsToRoot x (store_in rs f) (page_in rs f)
  leads f (top l) o = at-root f l
  leads f (via r) o = elim (dec_lt f x.now.pool.stores) [
    | yes l ↦ at-root f l
    | no l ↦
        let n : x.now.pool.stores ≤ f = omega arith in
        to_parent _ _ (resident-of x I _ _ _ (parent-sits f o n)) (parent-names f o n) (rw (sym (up-store x.now J f o n)) at (leads (v.up f) r (P f o n).occupied))
  ]

  pub leads-to-root : (t p : ℕ) → Resident x t p → LeadsToRoot x t p
  leads-to-root t p r = let S = sits x I t p r.0 r.1 in rw (S.store, S.page) at (leads r.0 (I.shape.reach r.0 S.at) S.at)

  -- ---- bytes and words
  pub same-payload : (t p f i : ℕ) → InFrame x t p f → payload_start ≤ i → i < page_size → byte x.now.frames f i ≡ byte x.map (at x t p) i
  same-payload t p f i a lo hi = held-byte x I (at x t p) f i (sits-holder x.now t p f (sits x I t p f a)) lo hi

  -- what a word of a resident page stands for is what the map's names
  pub sits-word : (t p f k : ℕ) → Sits x.now t p f → k < slot_count → plain (page_in rs) (name x.now.frames f k) ≡ name x.map (at x t p) k
  sits-word t p f k S hk = held_word x I (at x t p) f k (sits-holder x.now t p f S) hk

  pub meets : (t p f k : ℕ) → Sits x.now t p f → k < slot_count → Meets x t p f k
  meets t p f k S hk = elim (reading (name x.now.frames f k)) [
    | low l ↦
        let e : name x.now.frames f k ≡ name x.map (at x t p) k = sym (plain-low (page_in rs) _ l) ∙ sits-word t p f k S hk in
        number e l (λ n g G. number-away x I f k S.at hk l (λ z. n (sym e ∙ z)) g G.at (sits-place x.now t _ g G ∙ ap (at x t) (sym e) ∙ ap (λ (u : ℕ). at x u (name x.now.frames f k)) (sym S.store)))
    | high g e ↦
        let C : Child v f k g = child-of x.now J f k S.at hk g e in
        swizzled_to g e C (record { at = C.occupied; store = child-store x.now J f k S.at hk g e ∙ S.store; page = sym (plain-high (page_in rs) g) ∙ ap (plain (page_in rs)) (sym e) ∙ sits-word t p f k S hk })
  ]

  pub swizzled-word : (t p f k c g : ℕ) → InFrame x t p f → Names x t p k c → c ≢ 0 → InFrame x t c g → name x.now.frames f k ≡ frame_word g
  swizzled-word t p f k c g a m n b =
      let G = sits x I t c g b in
      elim (meets t p f k (sits x I t p f a) m.in_page) [
        | number e l away ↦ absurd (away (λ z. n (sym m.word ∙ z)) g (rw m.word G))
        | swizzled_to j e C K ↦ e ∙ ap frame_word (sits-once x I t c j g (rw m.word at K) G)
      ]

  pub number_word_lem : (t p f k c : ℕ) → InFrame x t p f → Names x t p k c → (c ≢ 0 → Resident x t c → ⊥) → name x.now.frames f k ≡ c
  number_word_lem t p f k c a m n = elim (meets t p f k (sits x I t p f a) m.in_page) [
    | number e l away ↦ e ∙ m.word
    | swizzled_to j e C K ↦
        let G : Sits x.now t c j = rw m.word at K in
        absurd (n (λ z. number-some x.now J j C.occupied C.not_root (G.page ∙ z)) (resident-of x I t c j G))
  ]

  -- the whole words, put in the place of the map's: with its mark
  whole_word : (t p f k n : ℕ) → InFrame x t p f → k < slot_count → name x.now.frames f k ≡ n → slot x.now.frames f k ≡ renamed (slot x.map (at x t p) k) n
  whole_word t p f k n a l e = renamed-same (slot x.now.frames f k) n e ∙ ap (λ (m : Bool). marked m n) (held-mark x I (at x t p) f k (sits-holder x.now t p f (sits x I t p f a)) l)

  pub swizzled-whole : (t p f k c g : ℕ) → InFrame x t p f → Names x t p k c → c ≢ 0 → InFrame x t c g → slot x.now.frames f k ≡ renamed (slot x.map (at x t p) k) (frame_word g)
  swizzled-whole t p f k c g a m n b = whole_word t p f k (frame_word g) a m.in_page (swizzled-word t p f k c g a m n b)

  pub number-whole : (t p f k c : ℕ) → InFrame x t p f → Names x t p k c → (c ≢ 0 → Resident x t c → ⊥) → slot x.now.frames f k ≡ renamed (slot x.map (at x t p) k) (number_word c)
  number-whole t p f k c a m n = whole_word t p f k c a m.in_page (number_word_lem t p f k c a m n)

  pub store-plain : (t p k : ℕ) → t < x.now.pool.stores → p < x.now.pool.pages → k < slot_count → is_number (name x.now.store (at x t p) k) ≡ true
  store-plain t p k ht hp hk = yes-number (name x.now.store (at x t p) k) (stored-number x I (at x t p) k (place-lt _ t _ p ht hp) hk)
