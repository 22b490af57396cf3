-- What a word of store t names, read over the one buffer of T × N pages: a number of that store is a place. Assumes nothing.
use Rattle.std.specs.Prelude.{ℕ, ◌+◌, ◌*◌, ◌≤◌, ◌<◌, ◌≡◌, ◌≢◌, eqb, ltb}
use Rattle.std.proofs.Math.Path.{refl}
use Rattle.std.proofs.Common.{sym, ◌∙◌, ap, arith, add_left_cancel}
use Rattle.std.proofs.Math.Decide.{ℕ_discrete, dec_lt}
use borrow.Author.Tests.{ne_eqb, lt-ltb, le-ltb}
use Rattle.page.specs.Figures.{most_pages, most_stores, swizzle_bit}
use Rattle.page.specs.Word.{is_number, frame_word, Number, Swizzled, yes-number, no_number, reading, low, high}
use Rattle.page.specs.StorePlaces.{store_place}
use Rattle.rules.specs.Tests.{pick}
use Rattle.machine.specs.Moves.{plain}
use Rattle.machine.proofs.Laws.PlainLaws.{plain-low, plain-high}

-- the most places there are
abbrev pub most_places : ℕ
most_places = most_pages * most_stores

-- a number that isn't below N is no page's of any store: all of them are read as one number that no place has
abbrev no_place : ℕ
no_place = 2147483647

-- 0 names nothing; a number of store t is its place; a swizzled word stays
unfoldable pub lift : ℕ → ℕ → ℕ → ℕ
lift N t w = pick (eqb w 0) 0 (pick (ltb w N) (store_place N t w) (pick (is_number w) no_place w))

pub lift-same : (N t u a b : ℕ) → t ≡ u → a ≡ b → lift N t a ≡ lift N u b
lift-same N t u a b e d = ap (λ (s : ℕ). lift N s a) e ∙ ap (lift N u) d

module _ (N t : ℕ) where
  pub lift-zero : lift N t 0 ≡ 0
  unfolding lift pick
  lift-zero = refl

  pub lift-number : (w : ℕ) → w ≢ 0 → w < N → lift N t w ≡ store_place N t w
  unfolding lift pick
  lift-number w n l = rw (ne_eqb w 0 n, lt-ltb w N l)

  lift-high : (w : ℕ) → N ≤ swizzle_bit → Swizzled w → lift N t w ≡ w
  unfolding lift pick
  lift-high w s l = rw (ne_eqb w 0 (λ z. omega arith), le-ltb w N (omega arith), no_number w l)

  lift-outside : (w : ℕ) → w ≢ 0 → N ≤ w → Number w → lift N t w ≡ no_place
  unfolding lift pick
  lift-outside w n l h = rw (ne_eqb w 0 n, le-ltb w N l, yes-number w h)

  -- the four cases of a word
  data Lifted (w : ℕ) : Type 0 where
    nothing : w ≡ 0 → lift N t w ≡ 0 → Lifted w
    placed : w ≢ 0 → w < N → lift N t w ≡ store_place N t w → Lifted w
    outside : N ≤ w → Number w → lift N t w ≡ no_place → Lifted w
    framed : (g : ℕ) → w ≡ frame_word g → lift N t w ≡ frame_word g → Lifted w

  lifted : N ≤ swizzle_bit → (w : ℕ) → Lifted w
  lifted s w = elim (ℕ_discrete w 0) [
    | yes z ↦ nothing z (ap (lift N t) z ∙ lift-zero)
    | no n ↦ elim (dec_lt w N) [
      | yes l ↦ placed n l (lift-number w n l)
      | no l ↦ elim (reading w) [ low h ↦ outside (omega arith) h (lift-outside w n (omega arith) h) | high g e ↦ framed g e (lift-high w s (omega arith) ∙ e) ]
    ]
  ]

  -- the stores' places all lie below M
  module _ (M : ℕ) (fits : N * t + N ≤ M) (few : M ≤ most_places) where
    narrow : N ≤ swizzle_bit
    narrow = omega arith

    -- what is read as a place, or as nothing, is below N, or nothing
    pub lift-below : (w : ℕ) → lift N t w < M → w ≢ 0 → w < N
    lift-below w l n = elim (lifted narrow w) [
      | nothing z e ↦ absurd (n z)
      | placed m h e ↦ h
      | outside h k e ↦ absurd (omega (arith, sym e))
      | framed g z e ↦ absurd (omega (arith, sym e))
    ]

    -- a number below N is read as a place, or as nothing
    pub lift-lt : (w : ℕ) → w < N → lift N t w < M
    lift-lt w l = elim (lifted narrow w) [
      | nothing z e ↦ omega (arith, e)
      | placed n h e ↦ omega (arith, e)
      | outside h k e ↦ absurd (omega arith)
      | framed j z e ↦ absurd (omega arith)
    ]

    -- nothing, numbers and frames stay what they are
    pub lift-frame : (w g : ℕ) → lift N t w ≡ frame_word g → w ≡ frame_word g
    lift-frame w g h = elim (lifted narrow w) [
      | nothing z e ↦ absurd (omega (arith, sym e ∙ h))
      | placed n l e ↦ absurd (omega (arith, sym e ∙ h))
      | outside l k e ↦ absurd (omega (arith, sym e ∙ h))
      | framed j z e ↦ z ∙ sym e ∙ h
    ]

    pub frame-lift : (w g : ℕ) → w ≡ frame_word g → lift N t w ≡ frame_word g
    frame-lift w g h = lift-high w narrow (omega arith) ∙ h

    pub lift-low : (w : ℕ) → Number (lift N t w) → Number w
    lift-low w h = elim (lifted narrow w) [
      | nothing z e ↦ omega arith
      | placed n l e ↦ omega arith
      | outside l k e ↦ k
      | framed j z e ↦ absurd (omega (arith, sym e))
    ]

    pub low-lift : (w : ℕ) → Number w → Number (lift N t w)
    low-lift w h = elim (lifted narrow w) [
      | nothing z e ↦ omega (arith, e)
      | placed n l e ↦ omega (arith, e)
      | outside l k e ↦ omega (arith, e)
      | framed j z e ↦ absurd (omega arith)
    ]

    pub lift-none : (w : ℕ) → lift N t w ≡ 0 → w ≡ 0
    lift-none w h = elim (lifted narrow w) [
      | nothing z e ↦ z
      | placed n l e ↦ absurd (n (omega (arith, sym e ∙ h)))
      | outside l k e ↦ absurd (omega (arith, sym e ∙ h))
      | framed j z e ↦ absurd (omega (arith, sym e ∙ h))
    ]

    -- two words of the store that are read alike are one, where the second is read as a place or as nothing
    pub lift-inj : (a b : ℕ) → lift N t a ≡ lift N t b → lift N t b < M → a ≡ b
    lift-inj a b e l =
        let n : lift N t b ≢ no_place = λ z. omega arith in
        elim (lifted narrow a) [
          | nothing z x ↦ elim (lifted narrow b) [ nothing y x' ↦ z ∙ sym y | placed m h x' ↦ absurd (omega (arith, sym x ∙ e ∙ x')) | outside h k x' ↦ absurd (n x') | framed g q x' ↦ absurd (omega (arith, sym x ∙ e ∙ x')) ]
          | placed m h x ↦ elim (lifted narrow b) [ nothing y x' ↦ absurd (omega (arith, sym x ∙ e ∙ x')) | placed m' h' x' ↦ add_left_cancel (N * t) (sym x ∙ e ∙ x') | outside k j x' ↦ absurd (n x') | framed g q x' ↦ absurd (omega (arith, sym x ∙ e ∙ x')) ]
          | outside h k x ↦ absurd (n (sym e ∙ x))
          | framed g q x ↦ absurd (omega (arith, sym x ∙ e))
        ]

    -- an image's word, read over the buffer, is what the frame's word, read so, stands for: `number` gives a frame's page in its store, `page` its place
    pub lift-plain : (number page : ℕ → ℕ) (w : ℕ) → (Number w → w < N) → ((g : ℕ) → w ≡ frame_word g → (number g ≢ 0) × (number g < N) × (page g ≡ store_place N t (number g)))
        → lift N t (plain number w) ≡ plain page (lift N t w)
    lift-plain number page w proper child = elim (lifted narrow w) [
      | nothing z e ↦ ap (lift N t) (plain-low number w (omega arith)) ∙ sym (plain-low page (lift N t w) (omega (arith, sym e)))
      | placed n l e ↦ ap (lift N t) (plain-low number w (omega arith)) ∙ sym (plain-low page (lift N t w) (omega (arith, sym e)))
      | outside l h e ↦ absurd (omega (arith, proper h))
      | framed g z e ↦
          let c = child g z in
          ap (λ (x : ℕ). lift N t (plain number x)) z ∙ ap (lift N t) (plain-high number g) ∙ lift-number (number g) c.0 c.1 ∙ sym c.2 ∙ sym (plain-high page g) ∙ ap (plain page) (sym e)
    ]
