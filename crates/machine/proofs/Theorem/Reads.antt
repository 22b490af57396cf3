-- What the invariant says of the words, their marks and payload bytes of frames and store, as they stand there: they are the map's. Assumes nothing.
use Rattle.std.specs.Prelude.{ℕ, ◌*◌, ◌/◌, ◌<◌, ◌≤◌, ◌≡◌, refl, ◌≢◌, false, List}
use Rattle.std.proofs.Common.{sym, ap, ◌∙◌, arith}
use Rattle.std.proofs.Math.Decide.{ℕ_discrete}
use Rattle.page.specs.Figures.{page_size, slot_count, payload_start}
use Rattle.page.specs.Word.{Number}
use Rattle.page.specs.Page.{name, lock, byte}
use Rattle.page.specs.StorePlaces.{store_place}
use Rattle.page.proofs.StorePlaceLaws.{store-room, place-lt, place-store, place-inj, place-split}
use Rattle.machine.specs.declared.FrameRecord.{FrameRecord}
use Rattle.machine.specs.Machine.{page_in, store_in}
use Rattle.machine.specs.Moves.{plain}
use Rattle.machine.proofs.Laws.PlainLaws.{plain-high}
use Rattle.machine.specs.History.{Point}
use Rattle.machine.proofs.Theorem.Lift.{lift, lift-below, lift-low, lift-none, lift-inj}
use Rattle.machine.proofs.Theorem.View.{View, view, Occupied, Absent, Parent}
use Rattle.machine.proofs.Theorem.Invariant.{Fit, fit_of, Invariant}
use Rattle.machine.proofs.Theorem.FrameReads.{placed_below, placed-store, frame-read, plain-placed}
use Rattle.machine.proofs.Theorem.Holders.{Holder}

module _ (x : Point) (I : Invariant x) where
  abbrev N : ℕ
  N = x.now.pool.pages

  abbrev T : ℕ
  T = x.now.pool.stores

  abbrev v : View
  v = view x.now

  abbrev rs : List FrameRecord
  rs = x.now.pool.records

  abbrev J : Fit x.now
  J = fit_of x I

  -- two words of store t that are read alike are one, where the second is the map's at place p
  map-word : (t p k a : ℕ) → p < N * T → p / N ≡ t → k < slot_count → lift N t a ≡ lift N (p / N) (name x.map p k) → a ≡ name x.map p k
  map-word t p k a hp s hk e =
      let same : lift N (p / N) (name x.map p k) ≡ lift N t (name x.map p k) = ap (λ (u : ℕ). lift N u (name x.map p k)) s in
      lift-inj N t (N * T) (store-room N t T (rw s at (place-split N T p hp).0)) I.shape.pages a (name x.map p k) (e ∙ same) (rw (← same) (I.sound.below p k hp hk))

  -- the map's words are numbers below N, each of them once in its store
  pub map_below : (p k : ℕ) → p < N * T → k < slot_count → name x.map p k < N
  map_below p k hp hk = elim (ℕ_discrete (name x.map p k) 0) [
    | yes z ↦ omega (arith, I.sized.some)
    | no n ↦ lift-below N (p / N) (N * T) (store-room N (p / N) T (place-split N T p hp).0) I.shape.pages (name x.map p k) (I.sound.below p k hp hk) n
  ]

  pub map-once : (t p k q j : ℕ) → t < T → p < N → k < slot_count → q < N → j < slot_count → name x.map (store_place N t p) k ≢ 0
      → name x.map (store_place N t p) k ≡ name x.map (store_place N t q) j → (p ≡ q) × (k ≡ j)
  map-once t p k q j l hp hk hq hj n e =
      let a : store_place N t p / N ≡ t = place-store N t p hp in
      let b : store_place N t q / N ≡ t = place-store N t q hq in
      let s = I.sound.once (store_place N t p) k (store_place N t q) j (place-lt N t T p l hp) hk (place-lt N t T q l hq) hj
      (λ z. n (lift-none N t (N * T) (store-room N t T l) I.shape.pages (name x.map (store_place N t p) k) (ap (λ (u : ℕ). lift N u (name x.map (store_place N t p) k)) (sym a) ∙ z)))
      (ap (λ (u : ℕ). lift N u (name x.map (store_place N t p) k)) a ∙ ap (lift N t) e ∙ ap (λ (u : ℕ). lift N u (name x.map (store_place N t q) j)) (sym b)) in
      ((place-inj N t p t q hp hq s.0).1, s.1)

  -- ---- the page at place p, in frame f
  pub held_word : (p f k : ℕ) → Holder (v) p f → k < slot_count → plain (page_in rs) (name x.now.frames f k) ≡ name x.map p k
  held_word p f k h l =
      let P : ℕ = v.page f in
      map-word (store_in rs f) P k (plain (page_in rs) (name x.now.frames f k)) (placed_below x.now J f) (placed-store x.now J f) l
      (plain-placed x.now J f k h.at l ∙ I.content.frame_word f k h.at l)
      ∙ ap (λ (q : ℕ). name x.map q k) h.page

  pub held-mark : (p f k : ℕ) → Holder (v) p f → k < slot_count → lock x.now.frames f k ≡ lock x.map p k
  held-mark p f k h l = I.content.frame_mark f k h.at l ∙ ap (λ (q : ℕ). lock x.map q k) h.page

  pub held-byte : (p f i : ℕ) → Holder (v) p f → payload_start ≤ i → i < page_size → byte x.now.frames f i ≡ byte x.map p i
  held-byte p f i h from to = I.content.frame_byte f i h.at from to ∙ ap (λ (q : ℕ). byte x.map q i) h.page

  -- the word of its parent in the map names it
  pub parent-word : (f : ℕ) → Parent (v) f → name x.map (v.page (v.up f)) (v.up_slot f) ≡ page_in rs f
  parent-word f P =
      let w : ℕ = v.up f in
      sym (held_word (v.page w) w _ (record { at = P.occupied; page = refl }) P.in_page)
      ∙ ap (plain (page_in rs)) (frame-read x.now J w _ f P.names) ∙ plain-high (page_in rs) f

  -- ---- the page at place p, in no frame
  pub unheld-word : (p k : ℕ) → p < N * T → Absent (v) p → k < slot_count → name x.now.store p k ≡ name x.map p k
  unheld-word p k n a l = map-word (p / N) p k (name x.now.store p k) n refl l (I.content.absent_word p k n a l)

  pub unheld-byte : (p i : ℕ) → p < N * T → Absent (v) p → payload_start ≤ i → i < page_size → byte x.now.store p i ≡ byte x.map p i
  unheld-byte p i n a from to = I.content.absent_byte p i n a from to

  -- ---- a clean page
  pub clean-word : (f k : ℕ) → Occupied (v) f → v.dirty f ≡ false → k < slot_count → name x.now.store (v.page f) k ≡ name x.map (v.page f) k
  clean-word f k o d l =
      let P : ℕ = v.page f in
      map-word (P / N) P k (name x.now.store P k) (placed_below x.now J f) refl l (I.content.clean_word f k o d l)

  -- ---- any page
  pub stored-number : (p k : ℕ) → p < N * T → k < slot_count → Number (name x.now.store p k)
  stored-number p k n l = lift-low N (p / N) (N * T) (store-room N (p / N) T (place-split N T p n).0) I.shape.pages (name x.now.store p k) (I.content.store_plain p k n l)
