-- How the pass over the frames begins, goes on by one frame, and ends. Assumes nothing.
use Rattle.std.specs.Prelude.{ℕ, ◌+◌, ◌*◌, ◌/◌, ◌<◌, ◌≤◌, ◌≡◌, ◌↔◌, refl, ◌≢◌, Bool, false, List, length, set, replicate}
use Rattle.std.proofs.Math.Path.{sym}
use Rattle.std.proofs.Common.{◌∙◌, ap, arith, add-zero, le_refl, eq-eqb, ne_eqb, eqb-true, length-set, get_or-set_other}
use Rattle.std.proofs.Math.Bool.{true, not}
use Rattle.std.proofs.Math.Decide.{ℕ_discrete, dec_lt}
use Rattle.std.proofs.Math.Dec.{eqb}
use Rattle.std.proofs.lemmas.List.{length-replicate, get_or-replicate}
use Rattle.std.proofs.Math.ListN.{get_or-eq_default}
use Rattle.std.specs.Int.Bits.{bit_or}
use Rattle.page.specs.Figures.{slot_count, most_frames, most_pages, most_stores}
use Rattle.page.specs.Word.{name_of}
use Rattle.machine.specs.declared.FrameRecord.{FrameRecord}
use Rattle.rules.specs.Tests.{◌and◌}
use Rattle.rules.specs.TestLaws.{clash, case, on, off, same, both, and_left, or_left, or_right, or_off}
use Rattle.chains.specs.Chain.{tally}
use Rattle.chains.proofs.FrameTally.{tally-same}
use Rattle.machine.specs.Machine.{is_used, is_of, record_at, store_in}
use Rattle.seen.specs.Seen.{Seen}
use Rattle.seen.specs.SeenLaws.{none-alone}
use Rattle.residents.specs.Residents.{store_by, Residents, holds_page, holds_of, held_by}
use Rattle.residents.specs.ResidentLaws.{key-store}
use Rattle.residents.specs.Handed.{Clear}
use Rattle.agreement.specs.Counting.{count_if, count-zero, count-more, count-le, count-ext, count-tally, none_passes}
use Rattle.agreement.specs.Twice.{PassedRow, Twice, Progress, pass-none, pass-zeros, twice-more, not-twice, sorted-twice, passed-sorted}
use Rattle.agreement.specs.Fit.{Blank, Gathers, Fits, per_frame, numbers_in_frames, as_stands, is_over, used_in, is_marked_in, numbers_met, places_met, above_of, RestBlank, FramesFit, FrameNoted, StoresFew, HeldAlone, AllMarks, entry, parent_at, key_in, Before, Settled}
use Rattle.agreement.specs.FitLaws.{or_nothing, nothing-or, entries-more, met-then, has-numbers, over-used, over-empty, page-below, fitting-store, used-bit}
use Rattle.agreement.specs.MarkedNumbers.{over-marked, none-stands, counted-alike, stands_alike, names-met, met-names}

-- an entry of a table of zeros
clear_at : (m x : ℕ) → entry (replicate m 0) x ≡ 0
clear_at m x = elim (dec_lt x m) [
  | yes l ↦ get_or-replicate m x 0 0 l
  | no l ↦ get_or-eq_default (replicate m 0) 0 (let e : length (replicate {A = ℕ} m 0) ≡ m = length-replicate {A = ℕ} m 0 in omega arith)
]

-- a number that the code meets twice stands in the frames twice
met-twice : (rs : List FrameRecord) (fs : List ℕ) (F N T : ℕ) → N ≤ most_pages → (n : ℕ) → n ≤ places_met F → Twice (numbers_met rs fs F N) n → FramesFit rs fs F N T → ⊥
met-twice rs fs F N T few n l t fit =
    not-twice (numbers_in_frames name_of rs fs N) (per_frame * F) (per_frame * F) (le_refl (per_frame * F)) fit.once
    (sorted-twice _ _ _ _ (met-names rs fs F N few) (twice-more (numbers_met rs fs F N) n (places_met F) l t))

module _ (rs : List FrameRecord) (fs : List ℕ) (F N T : ℕ) where
  pub before-first : (t residents : List ℕ) (seen : Seen) → F ≤ length t → Clear residents seen → Before rs fs F N T 0 seen t residents 0 0
  before-first t residents seen m C = record {
    most = omega arith;
    fits = λ g a. absurd (omega arith);
    passed = rw C.none_seen (pass-none (numbers_met rs fs F N));
    alone = λ e. rw C.none_seen none-alone;
    room = m;
    parents = λ g a. absurd (omega arith);
    size = ap length C.no_page ∙ length-replicate {A = ℕ} most_frames 0;
    held = λ g a. absurd (omega arith);
    clear = λ g a. rw C.no_page (clear_at most_frames g);
    counted = sym (count-zero (used_in rs));
    named = sym (count-zero (is_over as_stands rs fs N));
  }

  pub before-few : (f : ℕ) (seen : Seen) (t residents : List ℕ) (occupied over : ℕ) → Before rs fs F N T f seen t residents occupied over → (occupied ≤ f) × (over ≤ slot_count * f)
  before-few f seen t residents occupied over B = (rw B.counted (count-le f (used_in rs)), rw B.named (count-le (slot_count * f) (is_over as_stands rs fs N)))

  module _ (f : ℕ) (seen : Seen) (t residents : List ℕ) (occupied over : ℕ) (B : Before rs fs F N T f seen t residents occupied over) (l : f < F)
      (seen' : Seen) (more : ℕ) (fresh : Bool) (D : FrameNoted fs N f (record_at rs f) seen seen' more fresh) where
    -- the frame's numbers in the row
    progress : Progress (numbers_met rs fs F N) (per_frame * (f + 1)) seen' fresh
    progress =
        let q : per_frame * (f + 1) ≡ per_frame * f + per_frame = omega arith in
        rw q (D.notes (numbers_met rs fs F N) (per_frame * f) (has-numbers rs fs F N f l) B.passed)

    -- a number of the frame stands in the frames twice
    pub stands-twice : N ≤ most_pages → fresh ≡ false → FramesFit rs fs F N T → ⊥
    stands-twice few z fit = met-twice rs fs F N T few (per_frame * (f + 1)) (omega arith) (rw z at progress) fit

    over-more : fresh ≡ true → over + more ≡ count_if (slot_count * (f + 1)) (is_over as_stands rs fs N)
    over-more z = elim (case (is_used (record_at rs f))) [
      | on u ↦ sum B.named (D.counts z u) ∙ sym (over-used rs fs N f u)
      | off u ↦ sum B.named (D.nothing u) ∙ add-zero _ ∙ sym (over-empty rs fs N f u)
    ]
      where
        sum : {x y : ℕ} → over ≡ x → more ≡ y → over + more ≡ x + y
        sum a b = rw (a, b)

    -- the frame fits, and its numbers are new
    pub before_more : f < most_frames → Fits fs F N T f (record_at rs f) (above_of rs (record_at rs f)) → fresh ≡ true → (key : ℕ) → key ≡ key_in rs f → Before rs fs F N T (f + 1) seen' (set t f (parent_at rs f)) (set residents f key) (occupied + (record_at rs f).used) (over + more)
    before_more m fit z key k = record {
      most = omega arith;
      fits = λ g m. elim (ℕ_discrete g f) [ yes e ↦ rw e fit | no e ↦ B.fits g (omega arith) ];
      passed = rw z at progress;
      alone = λ e. D.alone (omega (arith, fitting-store fs F N T f (record_at rs f) (above_of rs (record_at rs f)) (omega arith) fit)) (B.alone e);
      room = rw (length-set t f (parent_at rs f)) B.room;
      parents = entries-more (parent_at rs) t f _ (omega (arith, B.room)) refl B.parents;
      size = length-set residents f key ∙ B.size;
      held = entries-more (key_in rs) residents f _ (omega (arith, B.size)) k B.held;
      clear = λ g a. get_or-set_other residents f g key 0 (λ e. omega arith) ∙ B.clear g (omega arith);
      counted = rw (B.counted, used-bit fs F N T f (record_at rs f) (above_of rs (record_at rs f)) fit) (sym (count-more f (used_in rs)));
      named = over-more z;
    }

-- ---- the records from F on

-- what it tells of the records from F on and before f that nothing was gathered, which is P
pub record RestOf (rs : List FrameRecord) (F f : ℕ) (P : Type 0) : Type 0 where
  pub blanks : P → (g : ℕ) → F ≤ g → g < f → Blank (record_at rs g)
  pub nothing : ((g : ℕ) → F ≤ g → g < f → Blank (record_at rs g)) → P

module _ (rs : List FrameRecord) (F : ℕ) where
  pub none-gathered : (f : ℕ) (P : Type 0) → f ≤ F → P → RestOf rs F f P
  none-gathered f P l p = record { blanks = λ q g a b. absurd (omega arith); nothing = λ h. p }

  pub more-gathered : (f : ℕ) (P Q : Type 0) → F ≤ f → Gathers (record_at rs f) P Q → RestOf rs F f P → RestOf rs F (f + 1) Q
  more-gathered f P Q l G R = record {
    blanks = λ q g a b. elim (ℕ_discrete g f) [
      | yes e ↦ rw e (G.blank q)
      | no e ↦ R.blanks (G.kept q) g a (omega arith)
    ];
    nothing = λ h. G.nothing (R.nothing (λ g a b. h g a (omega arith))) (h f l (omega arith));
  }

-- the same where it is told by a number, into which the records' fields are or-ed
abbrev pub RestTo : List FrameRecord → ℕ → ℕ → ℕ → Type 0
RestTo rs F f any = (any ≡ 0) ↔ ((g : ℕ) → F ≤ g → g < f → Blank (record_at rs g))

pub rest-none : (rs : List FrameRecord) (F : ℕ) → RestTo rs F F 0
rest-none rs F = (λ e g a b. absurd (omega arith), λ h. refl)

pub rest_more : (rs : List FrameRecord) (F f any x : ℕ) → F ≤ f → (x ≡ 0) ↔ Blank (record_at rs f) → RestTo rs F f any → RestTo rs F (f + 1) (bit_or any x)
rest_more rs F f any x l G R =
    let r = more-gathered rs F f (any ≡ 0) (bit_or any x ≡ 0) l (record { kept = λ e. (or_nothing any x e).0; blank = λ e. G.0 (or_nothing any x e).1; nothing = λ e b. nothing-or any x e (G.1 b) }) (record { blanks = R.0; nothing = R.1 }) in
    (r.blanks, r.nothing)

-- ---- after the last frame

module _ (rs : List FrameRecord) (fs : List ℕ) (F N T : ℕ) (f : ℕ) (seen : Seen) (t residents : List ℕ) (occupied over : ℕ) (B : Before rs fs F N T f seen t residents occupied over) (l : F ≤ f) where
  at-end : Before rs fs F N T F seen t residents occupied over
  at-end = let e : f ≡ F = omega (arith, B.most) in rw e at B

  -- ---- the table

  module _ (one : 1 ≤ T) (some : 1 ≤ N) (few : N ≤ most_pages) where
    small : (g : ℕ) → g < F → key_in rs g / most_pages ≡ store_in rs g
    small g m = key-store (store_in rs g) _ (omega (arith, page-below fs F N T g _ _ some (at-end.fits g m)))

    -- it goes on with the pages of the all-zero records
    page-table : RestBlank rs F → Residents rs residents
    page-table rest = record {
      size = B.size;
      right = λ g m. elim (dec_lt g F) [
        | yes k ↦ at-end.held g k
        | no k ↦ let b = rest g (omega arith) m in at-end.clear g (omega arith) ∙ omega (arith, b.store, b.page)
      ];
      small = λ g m. elim (dec_lt g F) [
        | yes k ↦ omega (arith, page-below fs F N T g _ _ some (at-end.fits g k))
        | no k ↦ omega (arith, (rest g (omega arith) m).page)
      ];
    }

    -- a frame holds a page by the table where its record is in use
    held-used : (g : ℕ) → g < F → holds_page residents g ≡ used_in rs g
    unfolding holds_page
    held-used g m = elim (case (used_in rs g)) [
      | on u ↦ elim (ℕ_discrete g 0) [
        | yes z ↦ or_left _ (eq-eqb g 0 z) ∙ sym u
        | no z ↦ or_right (eqb g 0) (ap not (ne_eqb _ 0 (λ y. some_key g m u z (sym (at-end.held g m) ∙ y)))) ∙ sym u
      ]
      | off u ↦
          let b = (at-end.fits g m).empty u in
          let k : key_in rs g ≡ 0 = omega (arith, b.store, b.page) in
          or_off (ne_eqb g 0 (λ z. clash (sym ((at-end.fits g m).root (omega arith)).used ∙ u))) (ap not (eq-eqb _ 0 (at-end.held g m ∙ k))) ∙ sym u
    ]
      where
        some_key : (g : ℕ) → g < F → used_in rs g ≡ true → g ≢ 0 → key_in rs g ≡ 0 → ⊥
        some_key g m u z e = elim (dec_lt g T) [
          | yes l ↦ omega (arith, ((at-end.fits g m).root l).store)
          | no l ↦ ((at-end.fits g m).resident (omega arith) u).other (omega arith)
        ]

    -- and it has the record's store
    store-used : (g : ℕ) → g < F → store_by residents g ≡ store_in rs g
    store-used g m = ap (λ (x : ℕ). x / most_pages) (at-end.held g m) ∙ small g m

    pub stores-few : T ≤ most_stores → StoresFew residents F
    stores-few h g m = omega (arith, store-used g m, fitting-store fs F N T g _ _ one (at-end.fits g m))

    -- so a store's pages are counted by it
    counted_of : (t : ℕ) → held_by residents F t ≡ tally F (λ f. is_of t (record_at rs f))
    unfolding held_by holds_of
    counted_of t = tally-same F (λ f. is_of t (record_at rs f)) (λ f. holds_page residents f and eqb (store_by residents f) t) (λ g m. rw (held-used g m, store-used g m))

    -- where there is one store, all occupied frames are its pages'
    pub held-alone : HeldAlone residents F T occupied
    held-alone e = counted_of 0 ∙ sym (count-tally F _) ∙ count-ext F _ _ (λ g m. and-on (λ u. eq-eqb (store_in rs g) 0 (omega (arith, fitting-store fs F N T g (record_at rs g) (above_of rs (record_at rs g)) one (at-end.fits g m))))) ∙ sym at-end.counted
      where
        and-on : {a b : Bool} → (a ≡ true → b ≡ true) → (a and b) ≡ a
        and-on {a} {b} h = same (a and b) a (and_left a b) (λ u. both a b u (h u))

  -- ---- the numbers with marks

  module _ (one : 1 ≤ T) (some : 1 ≤ N) (few : N ≤ most_pages) (seen' : Seen) (count : ℕ) (fresh : Bool) (M : AllMarks residents fs F N (eqb (over + T) occupied) seen seen' count fresh) where
    marked : ℕ
    marked = count_if (slot_count * F) (is_marked_in (used_in rs) fs N)

    all-over : over ≡ count_if (slot_count * F) (is_over name_of rs fs N) + marked
    unfolding marked
    all-over = at-end.named ∙ over-marked rs fs N few (slot_count * F)

    all-marked : eqb (over + T) occupied ≡ false → fresh ≡ true → count ≡ marked
    unfolding marked
    all-marked t z = (M.asked t).counts z ∙ count-ext (slot_count * F) _ _ (λ j m. counted-alike (holds_page residents) (used_in rs) fs F N (held-used one some few) j m)

    noted : eqb (over + T) occupied ≡ false → Progress (numbers_met rs fs F N) (places_met F) seen' fresh
    noted t = (M.asked t).notes.goes (numbers_met rs fs F N) (per_frame * F)
        (λ j m. met-then rs fs F N j ∙ sym (stands_alike (holds_page residents) (used_in rs) fs F N (held-used one some few) j m (store_by residents) (store_in rs) (store-used one some few))) at-end.passed

    -- one of them stands twice
    pub marks-twice : fresh ≡ false → FramesFit rs fs F N T → ⊥
    marks-twice z fit = elim (case (eqb (over + T) occupied)) [
      | on t ↦ clash (sym (M.unasked t).2 ∙ z)
      | off t ↦ met-twice rs fs F N T few (places_met F) (le_refl (places_met F)) (rw z at (noted t)) fit
    ]

    -- the words that are not below N are those that name frames, and those with marks
    pub frames-even : fresh ≡ true → FramesFit rs fs F N T → over + T ≡ occupied + count
    frames-even z fit = elim (case (eqb (over + T) occupied)) [
      | on t ↦ let c : count ≡ 0 = (M.unasked t).1 in let e : over + T ≡ occupied = eqb-true _ _ t in omega arith
      | off t ↦ omega (arith, all-over, all-marked t z, fit.even, at-end.counted)
    ]

    module _ (least : count_if F (used_in rs) ≤ count_if (slot_count * F) (is_over name_of rs fs N) + T) (z : fresh ≡ true) (e : over + T ≡ occupied + count) where
      -- there are none where they weren't looked for
      no-mark : eqb (over + T) occupied ≡ true → marked ≡ 0
      no-mark t = let d : over + T ≡ occupied = eqb-true _ _ t in omega (arith, all-over, least, at-end.counted)

      names-even : count_if (slot_count * F) (is_over name_of rs fs N) + T ≡ count_if F (used_in rs)
      names-even = elim (case (eqb (over + T) occupied)) [
        | on t ↦ let d : over + T ≡ occupied = eqb-true _ _ t in omega (arith, all-over, no-mark t, at-end.counted)
        | off t ↦ omega (arith, all-over, all-marked t z, at-end.counted)
      ]

      all-passed : PassedRow (numbers_met rs fs F N) (places_met F) seen'
      unfolding marked
      all-passed = elim (case (eqb (over + T) occupied)) [
        | on t ↦ rw (M.unasked t).0 (pass-zeros (numbers_met rs fs F N) (per_frame * F) seen (slot_count * F)
            (λ j m. met-then rs fs F N j ∙ none-stands (used_in rs) (store_in rs) fs N j (none_passes (slot_count * F) _ (no-mark t) j m)) at-end.passed)
        | off t ↦ rw z at (noted t)
      ]

      pub settle : RestBlank rs F → Settled rs fs F N T seen' t residents
      settle b =
          let n : PassedRow (numbers_in_frames name_of rs fs N) (per_frame * F) seen' = passed-sorted _ _ _ _ (met-names rs fs F N few) (names-met rs fs F N) seen' all-passed in
          record {
            rest = b;
            fit = record { fits = at-end.fits; once = n.once; even = names-even };
            parents = record { size = B.room; parent = at-end.parents };
            passed = n;
            held = page-table one some few b;
            counts = counted_of one some few;
          }
