-- What the code tests is `agree`: both ways, by the facts that `agree` tells. Assumes nothing.
use Rattle.std.specs.Prelude.{ℕ, ◌+◌, ◌*◌, ◌-◌, ◌/◌, ◌%◌, ◌<◌, ◌≤◌, ◌≡◌, ◌≢◌, Bool, true, false, List, eqb}
use Rattle.std.proofs.Math.Path.{sym, ap}
use Rattle.std.proofs.Common.{arith, ◌∙◌, le_refl, eqb-true, eq-eqb, le-leb, leb-true}
use Rattle.std.proofs.Math.Decide.{ℕ_discrete, dec_lt}
use Rattle.page.specs.Figures.{slot_count, record_count}
use Rattle.page.specs.StorePlaces.{store_place}
use Rattle.page.proofs.StorePlaceLaws.{place-inj}
use Rattle.page.specs.Word.{name_of, frame_in, frame_word, Number, Swizzled, high, low, reading}
use Rattle.page.specs.Page.{name}
use Rattle.machine.specs.declared.FrameRecord.{FrameRecord}
use Rattle.machine.specs.declared.Pool.{Pool}
use Rattle.rules.specs.TestLaws.{clash, case, on, off, is-off, both, and-true}
use Rattle.machine.specs.Machine.{is_used, is_of, record_at, page_in, store_in, place_in, occupied, held, ceiling_of}
use Rattle.machine.specs.Agreement.{parent_of, parent_slot_of, agree}
use Rattle.machine.proofs.Laws.AgreementFacts.{occupied-lt, occupied-used, make-occupied, InRange, Points, Agreed, facts, tests}
use Rattle.machine.proofs.Laws.Parents.{climb, climb-zero, climb-suc, climb-add, climb-reach, reach-climb}
use Rattle.seen.specs.Seen.{Seen}
use Rattle.residents.specs.Residents.{key_of, held_by}
use Rattle.agreement.specs.Sizes.{Sizes}
use Rattle.rules.specs.Deciding.{Decides, decided, fails}
use Rattle.agreement.specs.Counting.{count_if, beyond, beyond-of, of-beyond, count-beyond, Into, into-le, into-all}
use Rattle.agreement.specs.Twice.{keyed, keyed-zero, keyed-some, keyed-apart}
use Rattle.agreement.specs.Fit.{Blank, RootFits, ResidentFits, Linked, RestBlank, per_frame, numbers_in_frames, number_below, is_over, used_in, above_of, FrameFits, FramesFit, parent_at, entry, AllLead, UnderCeilings, Settled, Decided}
use Rattle.agreement.specs.FitLaws.{blank_of, of-blank, below-low, below-high, numbers-page, numbers-word, numbers-empty, page-below}
use Rattle.agreement.specs.ParentSteps.{Below, climb-same}

-- a flag that is 1 is in its range
flag-range : {b : ℕ} → eqb b 1 ≡ true → b ≤ 1
flag-range {b} u = let e : b ≡ 1 = eqb-true b 1 u in omega arith

over-of : (rs : List FrameRecord) (fs : List ℕ) (N j : ℕ) → is_over name_of rs fs N j ≡ true → (is_used (record_at rs (j / slot_count)) ≡ true) × (N ≤ name fs (j / slot_count) (j % slot_count))
unfolding is_over
over-of rs fs N j t = let a = and-true (is_used (record_at rs (j / slot_count))) _ t in (a.0, leb-true N _ a.1)

-- the word in slot k of frame f
of-over : (rs : List FrameRecord) (fs : List ℕ) (N f k : ℕ) → k < slot_count → is_used (record_at rs f) ≡ true → N ≤ name fs f k → is_over name_of rs fs N (slot_count * f + k) ≡ true
unfolding is_over
of-over rs fs N f k h u l =
    let a : (slot_count * f + k) / slot_count ≡ f = omega arith in
    let b : (slot_count * f + k) % slot_count ≡ k = omega arith in
    rw (a, b) (both _ _ u (le-leb N (name fs f k) l))

module _ (p : Pool) (fs : List ℕ) (S : Sizes p.count p.pages p.stores fs) where
  -- pages with the same store and number have the same place
  place_same : (t x u y : ℕ) → t ≡ u → x ≡ y → store_place p.pages t x ≡ store_place p.pages u y
  place_same t x u y e q = rw (e, q)

  -- each frame's record, and the word that names it
  module _ (fits : (f : ℕ) → f < p.count → FrameFits p fs f (record_at p.records f)) where
    root-fits : (t : ℕ) → t < p.stores → RootFits t (record_at p.records t)
    root-fits t l = (fits t (omega (arith, S.least))).root l

    resident : (f : ℕ) → p.stores ≤ f → f < p.count → is_used (record_at p.records f) ≡ true → ResidentFits p.count p.pages p.stores (record_at p.records f)
    resident f n l u = (fits f l).resident n u

    linked : (f : ℕ) → p.stores ≤ f → f < p.count → is_used (record_at p.records f) ≡ true → Linked fs f (record_at p.records f) (is_of (store_in p.records f) (record_at p.records (parent_of p f)))
    linked f n l u = (fits f l).linked n u

    -- its parent is occupied, by a page of its store
    parent-used : (f : ℕ) → p.stores ≤ f → f < p.count → is_used (record_at p.records f) ≡ true → (is_used (record_at p.records (parent_of p f)) ≡ true) × (store_in p.records f ≡ store_in p.records (parent_of p f))
    parent-used f n l u = let a = and-true (is_used (record_at p.records (parent_of p f))) _ (linked f n l u).occupied in (a.0, sym (eqb-true _ _ a.1))

    -- the frames but the roots'
    is_other : ℕ → Bool
    is_other = beyond p.stores (used_in p.records)

    all-other : count_if p.count (used_in p.records) ≡ count_if p.count is_other + p.stores
    unfolding is_other
    all-other = count-beyond p.count p.stores (used_in p.records) (omega (arith, S.least)) (λ t l. (root-fits t l).used)

    -- where the word stands that names frame f
    place : ℕ → ℕ
    place f = slot_count * parent_of p f + parent_slot_of p f

    -- every frame but the roots' has a word of its own that is not below N
    words_of : Into p.count (slot_count * p.count) is_other (is_over name_of p.records fs p.pages) place
    unfolding place is_other
    words_of = record {
      below = λ f l t. let o = beyond-of p.stores (used_in p.records) f t in let r = resident f o.0 l o.1 in omega (arith, r.parent, r.slot);
      lands = λ f l t.
          let o = beyond-of p.stores (used_in p.records) f t in
          let k = linked f o.0 l o.1 in
          of-over p.records fs p.pages (parent_of p f) (parent_slot_of p f) (resident f o.0 l o.1).slot (parent-used f o.0 l o.1).0 (omega (arith, k.word, S.pages));
      apart = λ f g l m t v e.
          let o = beyond-of p.stores (used_in p.records) f t in
          let q = beyond-of p.stores (used_in p.records) g v in
          let a = resident f o.0 l o.1 in
          let b = resident g q.0 m q.1 in
          let x : parent_of p f ≡ parent_of p g = omega (arith, a.slot, b.slot) in
          let y : parent_slot_of p f ≡ parent_slot_of p g = omega (arith, a.slot, b.slot) in
          let w : frame_word f ≡ frame_word g = sym (linked f o.0 l o.1).word ∙ ap (λ (i : ℕ). name fs i (parent_slot_of p f)) x ∙ ap (name fs (parent_of p g)) y ∙ (linked g q.0 m q.1).word in
          omega arith;
    }

    -- so there are no fewer such words than frames to name
    words-least : count_if p.count (used_in p.records) ≤ count_if (slot_count * p.count) (is_over name_of p.records fs p.pages) + p.stores
    words-least = omega (arith, into-le _ _ _ _ _ words_of, all-other)

    -- where there are no more, each names a frame that points back to it
    over-named : count_if (slot_count * p.count) (is_over name_of p.records fs p.pages) + p.stores ≡ count_if p.count (used_in p.records)
        → (f k : ℕ) → occupied p f ≡ true → k < slot_count → p.pages ≤ name fs f k → (g : ℕ) × Points p g f k × (name fs f k ≡ frame_word g)
    unfolding place is_other
    over-named even f k o h l =
        let few : count_if (slot_count * p.count) (is_over name_of p.records fs p.pages) ≤ count_if p.count is_other = omega (arith, all-other) in
        let r = into-all p.count (slot_count * p.count) is_other (is_over name_of p.records fs p.pages) place words_of few
        (slot_count * f + k) (omega (arith, occupied-lt p f o)) (of-over p.records fs p.pages f k h (occupied-used p f o) l) in
        let t = beyond-of p.stores (used_in p.records) r.0 r.2 in
        let a = resident r.0 t.0 r.1 t.1 in
        let e : slot_count * parent_of p r.0 + parent_slot_of p r.0 ≡ slot_count * f + k = r.3 in
        let x : parent_of p r.0 ≡ f = omega (arith, a.slot) in
        let y : parent_slot_of p r.0 ≡ k = omega (arith, a.slot) in
        let w = (linked r.0 t.0 r.1 t.1).word in (
          r.0,
          record { at = make-occupied p r.0 r.1 t.1; other = t.0; parent = x; parent_slot = y },
          sym (ap (λ (i : ℕ). name fs i k) x) ∙ sym (ap (name fs (parent_of p r.0)) y) ∙ w,
        )

  -- ================ from the code's tests to the facts
  module _ (rest : RestBlank p.records p.count) (fit : FramesFit p.records fs p.count p.pages p.stores) where
    root : (t : ℕ) → t < p.stores → RootFits t (record_at p.records t)
    root = root-fits fit.fits

    row : ℕ → ℕ
    row = numbers_in_frames name_of p.records fs p.pages

    of-used : (f : ℕ) → occupied p f ≡ true → p.stores ≤ f → ResidentFits p.count p.pages p.stores (record_at p.records f)
    of-used f o n = resident fit.fits f n (occupied-lt p f o) (occupied-used p f o)

    page-lt : (f : ℕ) → occupied p f ≡ true → page_in p.records f < p.pages
    page-lt f o = page-below fs p.count p.pages p.stores f _ _ S.some (fit.fits f (occupied-lt p f o))

    -- two places of the row with one number that is not 0 are one place
    one_place : (i j : ℕ) → i < per_frame * p.count → j < per_frame * p.count → row i ≡ row j → row i ≢ 0 → i ≡ j
    unfolding row
    one_place i j hi hj e n = elim (dec_lt i j) [
      | yes l ↦ absurd (n (fit.once i j l hj e))
      | no l ↦ elim (dec_lt j i) [ yes m ↦ absurd (n (e ∙ fit.once j i m hi (sym e))) | no m ↦ omega arith ]
    ]

    row-page : (f : ℕ) → occupied p f ≡ true → row (per_frame * f) ≡ keyed (store_in p.records f) (page_in p.records f)
    unfolding row
    row-page f o = numbers-page name_of p.records fs p.pages f (occupied-used p f o)

    row_word : (f k : ℕ) → occupied p f ≡ true → k < slot_count → name fs f k < p.pages → row (per_frame * f + (1 + k)) ≡ keyed (store_in p.records f) (name fs f k)
    unfolding row
    row_word f k o h l = numbers-word name_of p.records fs p.pages f k h (occupied-used p f o) ∙ ap (keyed (store_in p.records f)) (below-low p.pages (name fs f k) l)

    -- two places of the row where store and number are the same, and the number is not 0
    same_place : (i j t x u y : ℕ) → i < per_frame * p.count → j < per_frame * p.count → row i ≡ keyed t x → row j ≡ keyed u y → t ≡ u → x ≡ y → x ≢ 0 → i ≡ j
    same_place i j t x u y hi hj a b e q n =
        one_place i j hi hj (a ∙ ap (λ (k : ℕ). keyed k x) e ∙ ap (keyed u) q ∙ sym b) (λ z. let k : key_of t x ≡ 0 = sym (keyed-some t x n) ∙ sym a ∙ z in n (omega arith))

    -- page 0 is in its root's frame
    root-at : (f : ℕ) → occupied p f ≡ true → page_in p.records f ≡ 0 → store_in p.records f ≡ f
    root-at f o z = elim (dec_lt f p.stores) [
      | yes l ↦ (root f l).store
      | no l ↦ absurd ((of-used f o (omega arith)).other z)
    ]

    page-apart : (f g : ℕ) → occupied p f ≡ true → occupied p g ≡ true → place_in p.pages p.records f ≡ place_in p.pages p.records g → f ≡ g
    page-apart f g of og e =
        let a = place-inj p.pages (store_in p.records f) (page_in p.records f) (store_in p.records g) (page_in p.records g) (page-lt f of) (page-lt g og) e in
        elim (ℕ_discrete (page_in p.records f) 0) [
          | yes z ↦ sym (root-at f of z) ∙ a.0 ∙ root-at g og (sym a.1 ∙ z)
          | no z ↦
              let q : per_frame * f ≡ per_frame * g = same_place (per_frame * f) (per_frame * g) _ _ _ _ (omega (arith, occupied-lt p f of)) (omega (arith, occupied-lt p g og)) (row-page f of) (row-page g og) a.0 a.1 z in
              omega arith
        ]

    blank-range : (r : FrameRecord) → Blank r → InRange p r
    blank-range r b =
        record { page = omega (arith, b.page, S.some); store = omega (arith, b.store, S.one); pins = omega (arith, b.pins); usage = omega (arith, b.usage); parent = omega (arith, b.parent, S.least); slot = omega (arith, b.slot); used = omega (arith, b.used); dirty = omega (arith, b.dirty) }

    in-range : (f : ℕ) → f < record_count → InRange p (record_at p.records f)
    in-range f l = elim (dec_lt f p.count) [
      | no m ↦ blank-range _ (rest f (omega arith) l)
      | yes m ↦ elim (dec_lt f p.stores) [
        | yes z ↦ let r = root f z in record { page = omega (arith, r.page, S.some); store = omega (arith, r.store); pins = r.pins; usage = r.usage; parent = omega (arith, r.parent, S.least); slot = omega (arith, r.slot); used = flag-range r.used; dirty = r.dirty }
        | no z ↦ elim (case (is_used (record_at p.records f))) [
          | on u ↦ let r = resident fit.fits f (omega arith) m u in record { page = r.page; store = r.store; pins = r.pins; usage = r.usage; parent = r.parent; slot = r.slot; used = flag-range u; dirty = r.dirty }
          | off u ↦ blank-range _ ((fit.fits f m).empty u)
        ]
      ]
    ]

    blank-record : (f : ℕ) → f < record_count → occupied p f ≡ false → Blank (record_at p.records f)
    blank-record f l o = elim (dec_lt f p.count) [
      | no m ↦ rest f (omega arith) l
      | yes m ↦
          let u : is_used (record_at p.records f) ≡ false = is-off _ (λ v. clash (sym (make-occupied p f m v) ∙ o)) in
          (fit.fits f m).empty u
    ]

    points-back : (f k : ℕ) → occupied p f ≡ true → k < slot_count → Swizzled (name fs f k) → Points p (frame_in (name fs f k)) f k
    points-back f k o h l =
        let r = over-named fit.fits fit.even f k o h (omega (arith, S.pages)) in
        let e : frame_in (name fs f k) ≡ r.0 = omega (arith, r.2) in
        rw e r.1

    word_below : (f k : ℕ) → occupied p f ≡ true → k < slot_count → Number (name fs f k) → name fs f k < p.pages
    word_below f k o h l = elim (dec_lt (name fs f k) p.pages) [
      | yes m ↦ m
      | no m ↦ let r = over-named fit.fits fit.even f k o h (omega arith) in absurd (omega (arith, r.2))
    ]

    -- a parent is one of the frames
    parent-below : (f : ℕ) → f < p.count → parent_of p f < p.count
    parent-below f l = (in-range f (omega (arith, S.most))).parent

    code-facts : p.hand.0 < p.count → AllLead (parent_at p.records) p.count → ((t : ℕ) → t < p.stores → held p t ≤ ceiling_of p t) → Agreed p fs
    code-facts hand lead under = record {
      root = λ t l. make-occupied p t (omega (arith, S.least)) (root t l).used;
      root_page = λ t l. (root t l).page;
      root_store = λ t l. (root t l).store;
      root_parent = λ t l. (root t l).parent;
      root_slot = λ t l. (root t l).slot;
      apart = page-apart;
      hand = hand;
      in_range = in-range;
      blank = λ f l o. of-blank _ (blank-record f l o);
      parent = λ f o n. make-occupied p (parent_of p f) (of-used f o n).parent (parent-used fit.fits f n (occupied-lt p f o) (occupied-used p f o)).0;
      parent_word = λ f o n. (linked fit.fits f n (occupied-lt p f o) (occupied-used p f o)).word;
      parent_store = λ f o n. (parent-used fit.fits f n (occupied-lt p f o) (occupied-used p f o)).1;
      back = points-back;
      below = λ f k o h l n. word_below f k o h l;
      away = λ f k o h l n g og e.
          let m : name fs f k < p.pages = word_below f k o h l in
          let a = place-inj p.pages (store_in p.records g) (page_in p.records g) (store_in p.records f) (name fs f k) (page-lt g og) m e in
          let q : per_frame * g ≡ per_frame * f + (1 + k) = same_place (per_frame * g) (per_frame * f + (1 + k)) _ _ _ _ (omega (arith, occupied-lt p g og)) (omega (arith, occupied-lt p f o))
          (row-page g og) (row_word f k o h m) a.0 a.1 (λ z. n (sym a.1 ∙ z)) in
          omega arith;
      once = λ f k g j of hk og hj s n l e.
          let a : name fs f k < p.pages = word_below f k of hk l in
          let b : name fs g j < p.pages = omega arith in
          let q : per_frame * f + (1 + k) ≡ per_frame * g + (1 + j) = same_place (per_frame * f + (1 + k)) (per_frame * g + (1 + j)) _ _ _ _ (omega (arith, occupied-lt p f of)) (omega (arith, occupied-lt p g og))
          (row_word f k of hk a) (row_word g j og hj b) s e n in
          (omega arith, omega arith);
      reach = λ f o.
          let r = lead f (occupied-lt p f o) in
          let l : climb (parent_of p) r.0 f < p.stores = omega (arith, r.1, S.one) in
          climb-reach p p.count parent-below f (occupied-lt p f o) (r.0, l);
      ceilings = under;
    }

  -- ================ from the facts to the code's tests
  module _ (A : Agreed p fs) where
    unused : (f : ℕ) → is_used (record_at p.records f) ≡ false → occupied p f ≡ false
    unused f u = is-off _ (λ o. clash (sym (occupied-used p f o) ∙ u))

    is-rest : RestBlank p.records p.count
    is-rest f l m = blank_of _ (A.blank f m (is-off _ (λ o. omega (arith, occupied-lt p f o))))

    is-root : (t : ℕ) → t < p.stores → RootFits t (record_at p.records t)
    is-root t l =
        let r = A.in_range t (omega (arith, S.stores)) in
        record { used = occupied-used p t (A.root t l); pins = r.pins; usage = r.usage; dirty = r.dirty; slot = A.root_slot t l; parent = A.root_parent t l; store = A.root_store t l; page = A.root_page t l }

    is-resident : (f : ℕ) → f < p.count → p.stores ≤ f → occupied p f ≡ true → ResidentFits p.count p.pages p.stores (record_at p.records f)
    is-resident f l n o =
        let r = A.in_range f (omega (arith, S.most)) in
        record { pins = r.pins; usage = r.usage; dirty = r.dirty; slot = r.slot; parent = r.parent; store = r.store; page = r.page; other = λ e. other e r.store }
      where
        -- its store's page 0 is in the root's frame
        other : page_in p.records f ≡ 0 → store_in p.records f < p.stores → ⊥
        other e h =
            let t : ℕ = store_in p.records f in
            let q : place_in p.pages p.records f ≡ place_in p.pages p.records t = place_same t (page_in p.records f) (store_in p.records t) (page_in p.records t) (sym (A.root_store t h)) (e ∙ sym (A.root_page t h)) in
            omega (arith, A.apart f t o (A.root t h) q)

    is-linked : (f : ℕ) → f < p.count → p.stores ≤ f → occupied p f ≡ true → Linked fs f (record_at p.records f) (above_of p.records (record_at p.records f))
    is-linked f l n o =
        record { occupied = both _ _ (occupied-used p _ (A.parent f o n)) (eq-eqb _ _ (sym (A.parent_store f o n))); word = A.parent_word f o n }

    is-fit : (f : ℕ) → f < p.count → FrameFits p fs f (record_at p.records f)
    is-fit f l = record {
      root = is-root f;
      resident = λ n u. is-resident f l n (make-occupied p f l u);
      linked = λ n u. is-linked f l n (make-occupied p f l u);
      empty = λ u. blank_of _ (A.blank f (omega (arith, S.most)) (unused f u));
    }

    -- what stands at a place of the row
    pub data At (i : ℕ) : Type 0 where
      nothing : numbers_in_frames name_of p.records fs p.pages i ≡ 0 → At i
      page : (f : ℕ) → occupied p f ≡ true → i ≡ per_frame * f → numbers_in_frames name_of p.records fs p.pages i ≡ keyed (store_in p.records f) (page_in p.records f) → At i
      loose : (f k : ℕ) → occupied p f ≡ true → k < slot_count → i ≡ per_frame * f + (1 + k) → Number (name fs f k) → name fs f k ≢ 0 → numbers_in_frames name_of p.records fs p.pages i ≡ keyed (store_in p.records f) (name fs f k) → At i

    at-word : (i f k : ℕ) → i ≡ per_frame * f + (1 + k) → k < slot_count → occupied p f ≡ true → At i
    at-word i f k e h o =
        let w : numbers_in_frames name_of p.records fs p.pages i ≡ keyed (store_in p.records f) (number_below p.pages (name fs f k)) = ap (numbers_in_frames name_of p.records fs p.pages) e ∙ numbers-word name_of p.records fs p.pages f k h (occupied-used p f o) in
        elim (dec_lt (name fs f k) p.pages) [
          | no b ↦ nothing (w ∙ keyed-zero _ _ (below-high p.pages (name fs f k) (omega arith)))
          | yes b ↦
              let v : numbers_in_frames name_of p.records fs p.pages i ≡ keyed (store_in p.records f) (name fs f k) = w ∙ ap (keyed (store_in p.records f)) (below-low p.pages (name fs f k) b) in
              elim (ℕ_discrete (name fs f k) 0) [
                | yes z ↦ nothing (v ∙ keyed-zero _ _ z)
                | no z ↦ loose f k o h e (omega (arith, S.pages)) z v
              ]
        ]

    at-frame : (i f j : ℕ) → i ≡ per_frame * f + j → j < per_frame → f < p.count → At i
    at-frame i f j e h l = elim (case (is_used (record_at p.records f))) [
      | off u ↦ nothing (ap (numbers_in_frames name_of p.records fs p.pages) e ∙ numbers-empty name_of p.records fs p.pages f j h u)
      | on u ↦ elim (ℕ_discrete j 0) [
        | yes z ↦ let q : i ≡ per_frame * f = omega arith in
            page f (make-occupied p f l u) q (ap (numbers_in_frames name_of p.records fs p.pages) q ∙ numbers-page name_of p.records fs p.pages f u)
        | no z ↦ at-word i f (j - 1) (omega arith) (omega arith) (make-occupied p f l u)
      ]
    ]

    pub stands_at : (i : ℕ) → i < per_frame * p.count → At i
    stands_at i l = at-frame i (i / per_frame) (i % per_frame) (omega arith) (omega arith) (omega arith)

    page-lt-in : (f : ℕ) → occupied p f ≡ true → page_in p.records f < p.pages
    page-lt-in f o = (A.in_range f (omega (arith, occupied-lt p f o, S.most))).page

    -- two numbers of stores that are the same and not 0
    one_key : (t x u y : ℕ) → x < p.pages → y < p.pages → x ≢ 0 → keyed t x ≡ keyed u y → (t ≡ u) × (x ≡ y)
    one_key t x u y a b n e = keyed-apart t x u y (omega (arith, S.pages)) (omega (arith, S.pages)) e (λ z. let k : key_of t x ≡ 0 = sym (keyed-some t x n) ∙ z in n (omega arith))

    once-at : (i j : ℕ) → i < j → At i → At j → numbers_in_frames name_of p.records fs p.pages i ≡ numbers_in_frames name_of p.records fs p.pages j → numbers_in_frames name_of p.records fs p.pages i ≡ 0
    once-at i j l (nothing e) y q = e
    once-at i j l (page f o m e) (nothing d) q = q ∙ d
    once-at i j l (page f o m e) (page g o' m' d) q = elim (ℕ_discrete (page_in p.records f) 0) [
      | yes z ↦ e ∙ keyed-zero _ _ z
      | no z ↦
          let r = one_key _ _ _ _ (page-lt-in f o) (page-lt-in g o') z (sym e ∙ q ∙ d) in
          absurd (omega (arith, A.apart f g o o' (place_same _ _ _ _ r.0 r.1)))
    ]
    once-at i j l (page f o m e) (loose g k o' h m' b z d) q = elim (ℕ_discrete (page_in p.records f) 0) [
      | yes y ↦ e ∙ keyed-zero _ _ y
      | no y ↦
          let r = one_key _ _ _ _ (page-lt-in f o) (A.below g k o' h b z) y (sym e ∙ q ∙ d) in
          absurd (A.away g k o' h b z f o (place_same _ _ _ _ r.0 r.1))
    ]
    once-at i j l (loose f k o h m b z e) (nothing d) q = q ∙ d
    once-at i j l (loose f k o h m b z e) (page g o' m' d) q =
        let r = one_key _ _ _ _ (A.below f k o h b z) (page-lt-in g o') z (sym e ∙ q ∙ d) in
        absurd (A.away f k o h b z g o' (place_same _ _ _ _ (sym r.0) (sym r.1)))
    once-at i j l (loose f k o h m b z e) (loose g n o' h' m' b' z' d) q =
        let s = one_key _ _ _ _ (A.below f k o h b z) (A.below g n o' h' b' z') z (sym e ∙ q ∙ d) in
        let r = A.once f k g n o h o' h' s.0 z b s.1 in
        absurd (omega (arith, r.0, r.1))

    -- a word that is not below N is swizzled
    swizzled : (j : ℕ) → j < slot_count * p.count → is_over name_of p.records fs p.pages j ≡ true → Points p (frame_in (name fs (j / slot_count) (j % slot_count))) (j / slot_count) (j % slot_count)
    swizzled j l t =
        let v = over-of p.records fs p.pages j t in
        let o = make-occupied p (j / slot_count) (omega arith) v.0 in
        let h : j % slot_count < slot_count = omega arith in
        A.back (j / slot_count) (j % slot_count) o h (elim (reading (name fs (j / slot_count) (j % slot_count))) [
          | high g e ↦ omega arith
          | low m ↦ let z : name fs (j / slot_count) (j % slot_count) ≢ 0 = λ e. omega (arith, v.1, S.some) in
              absurd (omega (arith, A.below (j / slot_count) (j % slot_count) o h m z, v.1))
        ])

    -- every such word names a frame of its own
    frames-of : Into (slot_count * p.count) p.count (is_over name_of p.records fs p.pages) (is_other is-fit) (λ j. frame_in (name fs (j / slot_count) (j % slot_count)))
    unfolding is_other
    frames-of = record {
      below = λ j l t. occupied-lt p _ (swizzled j l t).at;
      lands = λ j l t. let q = swizzled j l t in of-beyond p.stores (used_in p.records) _ q.other (occupied-used p _ q.at);
      apart = λ i j l m t v e.
          let a = swizzled i l t in
          let b = swizzled j m v in
          let x : i / slot_count ≡ j / slot_count = sym a.parent ∙ ap (parent_of p) e ∙ b.parent in
          let y : i % slot_count ≡ j % slot_count = sym a.parent_slot ∙ ap (parent_slot_of p) e ∙ b.parent_slot in
          omega arith;
    }

    is-even : count_if (slot_count * p.count) (is_over name_of p.records fs p.pages) + p.stores ≡ count_if p.count (used_in p.records)
    is-even = omega (arith, into-le _ _ _ _ _ frames-of, into-le _ _ _ _ _ (words_of is-fit), all-other is-fit)

    is-frames : FramesFit p.records fs p.count p.pages p.stores
    is-frames = record { fits = is-fit; once = λ i j l m. once-at i j l (stands_at i (omega arith)) (stands_at j m); even = is-even }

    -- a root's step leads to frame 0
    is-lead : AllLead (parent_at p.records) p.count
    is-lead f l = elim (case (occupied p f)) [
      | on o ↦
          let n : ℕ = p.count in
          let r : climb (parent_of p) n f < p.stores = reach-climb p (λ g h. let e : parent_of p g ≡ 0 = A.root_parent g h in omega arith) n n f (le_refl n) (A.reach f o) in
          (n + 1, climb-add (parent_of p) n 1 f ∙ one-step (climb (parent_of p) n f) ∙ A.root_parent _ r)
      | off o ↦ (1, one-step f ∙ (blank_of _ (A.blank f (omega (arith, S.most)) o)).parent)
    ]
      where
        one-step : (g : ℕ) → climb (parent_of p) 1 g ≡ parent_of p g
        one-step g = climb-suc (parent_of p) 0 g ∙ climb-zero (parent_of p) (parent_of p g)

-- ================ how the code's tests, one after the other, come to rule 2.
module _ (p : Pool) (fs : List ℕ) (S : Sizes p.count p.pages p.stores fs) where
  disagree : (Agreed p fs → ⊥) → false ≡ agree p fs
  disagree h = sym (is-off (agree p fs) (λ t. h (facts p fs t)))

  -- where a test fails, whatever the tables are
  module _ (residents : List ℕ) (seen : Seen) where
    refused : (Agreed p fs → ⊥) → Decided p fs residents seen false
    refused h = (disagree h, λ z. absurd (clash (sym z)))

    pub end-hand : (h : ℕ) → h ≡ p.hand.0 → p.count ≤ h → Decided p fs residents seen false
    end-hand h q l = refused (λ A. omega (arith, A.hand))

    pub end_rest : (RestBlank p.records p.count → ⊥) → Decided p fs residents seen false
    end_rest h = refused (λ A. h (is-rest p fs S A))

    pub end-frames : (FramesFit p.records fs p.count p.pages p.stores → ⊥) → Decided p fs residents seen false
    end-frames h = refused (λ A. h (is-frames p fs S A))

  -- there are no fewer words that are not below N than frames to name
  pub frames-least : ((f : ℕ) → f < p.count → FrameFits p fs f (record_at p.records f))
      → count_if p.count (used_in p.records) ≤ count_if (slot_count * p.count) (is_over name_of p.records fs p.pages) + p.stores
  frames-least fits = words-least p fs S fits

  module _ (seen : Seen) (t residents : List ℕ) (Z : Settled p.records fs p.count p.pages p.stores seen t residents) where
    below : (f : ℕ) → f < p.count → parent_at p.records f < p.count
    below f l = parent-below p fs S Z.rest Z.fit f l

    pub table_below : Below p.count t
    table_below = record { size = Z.parents.size; lt = λ f l. rw (Z.parents.parent f l) (below f l) }

    pub table-root : entry t 0 ≡ 0
    table-root = Z.parents.parent 0 (omega (arith, S.least)) ∙ ((Z.fit.fits 0 (omega (arith, S.least))).root S.one).parent

    -- a store's pages are counted by the table
    held-told : (t : ℕ) → held_by residents p.count t ≡ held p t
    unfolding held
    held-told t = Z.counts t

    pub end-ceilings : (UnderCeilings residents p.count p.stores p.ceilings → ⊥) → Decided p fs residents seen false
    end-ceilings h = refused residents seen (λ A. h (λ t l. rw (held-told t) (A.ceilings t l)))

    lead-in : AllLead (entry t) p.count → AllLead (parent_at p.records) p.count
    lead-in lead f l = let a = lead f l in (a.0, sym (climb-same (entry t) (parent_at p.records) p.count Z.parents.parent table_below.lt a.0 f l) ∙ a.1)

    lead-out : AllLead (parent_at p.records) p.count → AllLead (entry t) p.count
    lead-out lead f l = let a = lead f l in (a.0, climb-same (entry t) (parent_at p.records) p.count Z.parents.parent table_below.lt a.0 f l ∙ a.1)

    pub end-lead : UnderCeilings residents p.count p.stores p.ceilings → (h : ℕ) → h ≡ p.hand.0 → h < p.count → (r : Bool) → Decides r (AllLead (entry t) p.count) → r ≡ agree p fs
    end-lead under h q l r d = elim (case r) [
      | on z ↦ z ∙ sym (tests p fs (code-facts p fs S Z.rest Z.fit (omega arith) (lead-in (decided r _ d z)) (λ t m. rw (← held-told t) (under t m))))
      | off z ↦ z ∙ disagree (λ A. fails r (AllLead (entry t) p.count) d z (lead-out (is-lead p fs S A)))
    ]
