-- What is so of the words of frames as they stand there, where a word has a number of its frame's own store, and the view's word a place. Assumes nothing.
use Rattle.std.specs.Prelude.{ℕ, ◌+◌, ◌*◌, ◌/◌, ◌<◌, ◌≤◌, ◌≡◌, ◌≢◌, List}
use Rattle.std.proofs.Common.{sym, ap, ◌∙◌, arith}
use Rattle.std.proofs.Math.Decide.{ℕ_discrete}
use Rattle.page.specs.Figures.{slot_count}
use Rattle.page.specs.Word.{frame_word, Number, reading, low, high}
use Rattle.page.specs.Page.{name}
use Rattle.page.specs.StorePlaces.{store_place}
use Rattle.page.proofs.StorePlaceLaws.{store-room, place-lt, place-store, place-inj}
use Rattle.machine.specs.declared.FrameRecord.{FrameRecord}
use Rattle.machine.specs.Machine.{State, page_in, store_in}
use Rattle.machine.specs.Moves.{plain}
use Rattle.machine.proofs.Laws.PlainLaws.{plain-low, plain-high}
use Rattle.machine.proofs.Theorem.Lift.{lift, lift-number, lift-below, lift-frame, frame-lift, low-lift, lift-none, lift-plain}
use Rattle.machine.proofs.Theorem.View.{View, view, Occupied, Child}
use Rattle.machine.proofs.Theorem.Invariant.{Fit}

module _ (s : State) (I : Fit s) where
  abbrev N : ℕ
  N = s.pool.pages

  abbrev T : ℕ
  T = s.pool.stores

  abbrev v : View
  v = view s

  abbrev rs : List FrameRecord
  rs = s.pool.records

  -- ---- frames

  pub store_below : (f : ℕ) → store_in rs f < T
  store_below f = (I.neat.at f).store

  pub paged-below : (f : ℕ) → page_in rs f < N
  paged-below f = (I.neat.at f).number

  pub placed_below : (f : ℕ) → v.page f < N * T
  placed_below f = place-lt N _ T _ (store_below f) (paged-below f)

  pub placed-store : (f : ℕ) → v.page f / N ≡ store_in rs f
  placed-store f = place-store N _ _ (paged-below f)

  -- frame t has page 0 of store t
  root_is : (t : ℕ) → t < T → (store_in rs t ≡ t) × (page_in rs t ≡ 0)
  root_is t l = place-inj N _ _ t 0 (paged-below t) I.sized.some (I.shape.root_page t l ∙ omega arith)

  pub root-store : (t : ℕ) → t < T → store_in rs t ≡ t
  root-store t l = (root_is t l).0

  pub root-number : (t : ℕ) → t < T → page_in rs t ≡ 0
  root-number t l = (root_is t l).1

  -- a page but a root's has a number but 0
  pub number-some : (f : ℕ) → Occupied v f → T ≤ f → page_in rs f ≢ 0
  number-some f o n z =
      let t : ℕ = store_in rs f in
      let l : t < T = store_below f in
      let same : v.page f ≡ v.page t = ap (λ (p : ℕ). N * t + p) z ∙ omega arith ∙ sym (I.shape.root_page t l) in
      omega (arith, I.shape.apart f t o (I.shape.root t l) same)

  -- and a frame whose page has a number but 0 is no root's
  pub some_number : (f : ℕ) → page_in rs f ≢ 0 → T ≤ f
  some_number f n = not-below (λ l. n (root-number f l))
    where
      not-below : (f < T → ⊥) → T ≤ f
      not-below h = omega (arith, h)

  -- "a child's store is its parent's"
  pub up-store : (f : ℕ) → Occupied v f → T ≤ f → store_in rs f ≡ store_in rs (v.up f)
  up-store f o n = I.by_store.child f o.lt o.on n

  -- ---- the words of frame f

  module _ (f k : ℕ) where
    abbrev t : ℕ
    t = store_in rs f

    abbrev w : ℕ
    w = name s.frames f k

    abbrev fits : N * t + N ≤ N * T
    fits = store-room N t T (store_below f)

    -- they are numbers, frames' and nothing as the view's are
    pub frame-read : (g : ℕ) → v.word f k ≡ frame_word g → w ≡ frame_word g
    frame-read g e = lift-frame N t (N * T) fits I.shape.pages w g e

    pub read-frame : (g : ℕ) → w ≡ frame_word g → v.word f k ≡ frame_word g
    read-frame g e = frame-lift N t (N * T) fits I.shape.pages w g e

    pub read_number : Number w → Number (v.word f k)
    read_number l = low-lift N t (N * T) fits I.shape.pages w l

    pub nothing_read : v.word f k ≡ 0 → w ≡ 0
    nothing_read z = lift-none N t (N * T) fits I.shape.pages w z

    module _ (o : Occupied v f) (hk : k < slot_count) where
      -- a number is below N
      pub word_below : Number w → w < N
      word_below l = elim (ℕ_discrete w 0) [
        | yes z ↦ omega (arith, I.sized.some)
        | no n ↦ lift-below N t (N * T) fits I.shape.pages w (I.shape.number_lt f k o hk (read_number l)) n
      ]

      -- and the view's word is the page's place
      pub word-placed : Number w → w ≢ 0 → v.word f k ≡ store_place N t w
      word-placed l n = lift-number N t w n (word_below l)

      -- a swizzled word leads to a child, of the same store
      pub child-of : (g : ℕ) → w ≡ frame_word g → Child v f k g
      child-of g e = I.shape.child f k g o hk (read-frame g e)

      pub child-store : (g : ℕ) → w ≡ frame_word g → store_in rs g ≡ t
      child-store g e = let C : Child v f k g = child-of g e in up-store g C.occupied C.not_root ∙ ap (store_in rs) C.back

      -- the number that it stands for is below N, and 0 only where it names nothing
      pub plain-below : plain (page_in rs) w < N
      plain-below = elim (reading w) [
        | low l ↦ rw (plain-low (page_in rs) w l) (word_below l)
        | high g q ↦ rw (q, plain-high (page_in rs) g) (paged-below g)
      ]

      pub plain-some : plain (page_in rs) w ≡ 0 → w ≡ 0
      plain-some z = elim (reading w) [
        | low l ↦ sym (plain-low (page_in rs) w l) ∙ z
        | high g q ↦
            let C : Child v f k g = child-of g q in
            absurd (number-some g C.occupied C.not_root (sym (plain-high (page_in rs) g) ∙ ap (plain (page_in rs)) (sym q) ∙ z))
      ]

      -- read over the buffer, it is the place that the view's word stands for
      pub plain-placed : lift N t (plain (page_in rs) w) ≡ plain v.page (v.word f k)
      plain-placed = lift-plain N t (N * T) fits I.shape.pages (page_in rs) v.page w word_below
          (λ g e. (number-some g (child-of g e).occupied (child-of g e).not_root, paged-below g, ap (λ (u : ℕ). store_place N u (page_in rs g)) (child-store g e)))
