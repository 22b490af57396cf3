-- Numbers with marks: words as they stand are counted too many by them, and the code meets them after all others. Assumes nothing.
use Rattle.std.specs.Prelude.{ℕ, ◌+◌, ◌*◌, ◌-◌, ◌/◌, ◌%◌, ◌<◌, ◌≤◌, ◌≡◌, ◌≢◌, Bool, true, false, List, eqb, ltb, leb}
use Rattle.std.proofs.Math.Path.{refl, sym, ap}
use Rattle.std.proofs.Common.{◌∙◌, arith, add-zero, lt-ltb, le-ltb, le-leb, eq-eqb, ne_eqb}
use Rattle.std.proofs.Math.Bool.{not}
use Rattle.std.proofs.Math.Decide.{ℕ_discrete, dec_lt}
use Rattle.std.proofs.lemmas.Bool.{lt-leb, eqb-false, not-true}
use mir.Val.{bool_byte}
use Rattle.page.specs.Figures.{slot_count, most_pages, most_stores}
use Rattle.page.specs.Word.{is_marked, name_of, is_marked_number, plainly, markedly}
use Rattle.page.proofs.NameLaws.{says, marked-name, unmarked-name, marked-number-is, mark-swizzled}
use Rattle.page.specs.Page.{slot}
use Rattle.machine.specs.declared.FrameRecord.{FrameRecord}
use Rattle.machine.specs.Machine.{is_used, record_at, store_in}
use Rattle.rules.specs.Tests.{pick, ◌and◌}
use Rattle.seen.specs.Seen.{Seen, Notes}
use Rattle.residents.specs.Residents.{holds_page, store_by}
use Rattle.rules.specs.TestLaws.{clash, case, on, off, both, and-true, and_yes, and_no, pick_yes, pick_no, pick-either}
use Rattle.agreement.specs.Counting.{count_if, count-zero, count_yes, count_no, count_add, count-ext, count_none, count-split}
use Rattle.agreement.specs.Twice.{keyed, keyed-zero, RowNoted, pass-zeros, noted-none, noted_one, noted-then, noted-zeros, noted-twice, noted-ext, Sorted}
use Rattle.agreement.specs.Fit.{as_stands, per_frame, number_in, numbers_in_frames, is_over, used_in, marks_below, marked_below, is_marked_in, marked_in_frames, numbers_met, places_met, marks_from, marked_from, NoMark, MarksNoted, FrameMarks}
use Rattle.agreement.specs.FitLaws.{below-low, below-high, numbers-word, numbers-empty, met-first, met-then}

-- ---- a word

-- it gives no number with a mark, or one
pub data Gives (N w : ℕ) : Type 0 where
  none : marks_below N w ≡ false → marked_below N w ≡ 0 → Gives N w
  one : is_marked w ≡ true → name_of w < N → marks_below N w ≡ true → marked_below N w ≡ name_of w → Gives N w

pub gives : (N w : ℕ) → Gives N w
unfolding marks_below marked_below
gives N w = elim (case (is_marked w)) [
  | off m ↦ none (sym (and_no _ m)) (sym (pick_no _ m refl))
  | on m ↦ elim (dec_lt (name_of w) N) [
    | yes l ↦ one m l (both _ _ m (lt-ltb (name_of w) N l)) (sym (pick_yes 0 m refl) ∙ below-low N (name_of w) l)
    | no l ↦ none (sym (and_yes m (sym (le-ltb (name_of w) N (omega arith))))) (sym (pick_yes 0 m refl) ∙ below-high N (name_of w) (omega arith))
  ]
]

-- it gives one where what it names is below N
pub gives_one : (N w : ℕ) → is_marked_number w ≡ true → name_of w < N → (marks_below N w ≡ true) × (marked_below N w ≡ name_of w)
unfolding marks_below marked_below
gives_one N w t l = let m = marked-number-is w t in (both _ _ m (lt-ltb (name_of w) N l), sym (pick_yes 0 m refl) ∙ below-low N (name_of w) l)

pub gives-large : (N w : ℕ) → N ≤ name_of w → (marks_below N w ≡ false) × (marked_below N w ≡ 0)
gives-large N w h = elim (gives N w) [ none a b ↦ (a, b) | one m l a b ↦ absurd (omega arith) ]

-- what has a mark and names a frame is no number
pub gives_none : (N w : ℕ) → N ≤ most_pages → is_marked_number w ≡ false → (marks_below N w ≡ false) × (marked_below N w ≡ 0)
gives_none N w few t = elim (gives N w) [
  | none a b ↦ (a, b)
  | one m l a b ↦ absurd (omega (arith, mark-swizzled w t m))
]

-- as it stands it isn't below N where what it names isn't, or where it gives a number with a mark
over-split : (N w : ℕ) → N ≤ most_pages → bool_byte (leb N w) ≡ bool_byte (leb N (name_of w)) + bool_byte (marks_below N w)
unfolding marks_below
over-split N w few = elim (says w) [
  | plainly m n b ↦ rw (n, ← and_no (ltb w N) m) (sym (add-zero _))
  | markedly m n b z ↦
      let h : leb N w ≡ true = le-leb N w (omega arith) in
      elim (dec_lt (name_of w) N) [
        | yes l ↦ rw (h, lt-leb N (name_of w) l, both (is_marked w) (ltb (name_of w) N) m (lt-ltb (name_of w) N l)) refl
        | no l ↦ rw (h, le-leb N (name_of w) (omega arith), ← and_yes m (sym (le-ltb (name_of w) N (omega arith)))) refl
      ]
]

-- ---- the words of the frames

-- words as they stand that are not below N are those whose names aren't, and those that give numbers with marks
module _ (rs : List FrameRecord) (fs : List ℕ) (N : ℕ) (few : N ≤ most_pages) where
  split_at : (j : ℕ) → bool_byte (is_over as_stands rs fs N j) ≡ bool_byte (is_over name_of rs fs N j) + bool_byte (is_marked_in (used_in rs) fs N j)
  unfolding is_over is_marked_in ◌and◌
  split_at j = elim (case (is_used (record_at rs (j / slot_count)))) [
    | on u ↦ rw u (over-split N (slot fs (j / slot_count) (j % slot_count)) few)
    | off u ↦ rw u refl
  ]

  pub over-marked : (n : ℕ) → count_if n (is_over as_stands rs fs N) ≡ count_if n (is_over name_of rs fs N) + count_if n (is_marked_in (used_in rs) fs N)
  over-marked n = count-split n _ _ _ (λ j l. split_at j)

module _ (held : ℕ → Bool) (store : ℕ → ℕ) (fs : List ℕ) (N : ℕ) where
  -- where none is counted, none stands there
  pub none-stands : (j : ℕ) → is_marked_in held fs N j ≡ false → marked_in_frames held store fs N j ≡ 0
  unfolding is_marked_in marked_in_frames
  none-stands j t = elim (case (held (j / slot_count))) [
    | off h ↦ sym (pick_no _ h refl)
    | on h ↦ elim (gives N (slot fs (j / slot_count) (j % slot_count))) [
      | none a b ↦ sym (pick_yes 0 h refl) ∙ keyed-zero _ _ b
      | one m l a b ↦ absurd (clash (sym (both _ _ h a) ∙ t))
    ]
  ]

  -- frame by frame
  module _ (f k : ℕ) (l : k < slot_count) where
    in_frame : (slot_count * f + k) / slot_count ≡ f
    in_frame = omega arith

    in-slot : (slot_count * f + k) % slot_count ≡ k
    in-slot = omega arith

    pub counted-held : held f ≡ true → is_marked_in held fs N (slot_count * f + k) ≡ marks_below N (slot fs f k)
    unfolding is_marked_in
    counted-held h = rw (in_frame, in-slot) (sym (and_yes h refl))

    pub counted-not : held f ≡ false → is_marked_in held fs N (slot_count * f + k) ≡ false
    unfolding is_marked_in
    counted-not h = rw in_frame (sym (and_no _ h))

    pub stands-held : held f ≡ true → marked_in_frames held store fs N (slot_count * f + k) ≡ keyed (store f) (marked_below N (slot fs f k))
    unfolding marked_in_frames
    stands-held h = rw (in_frame, in-slot) (sym (pick_yes 0 h refl))

    pub stands-not : held f ≡ false → marked_in_frames held store fs N (slot_count * f + k) ≡ 0
    unfolding marked_in_frames
    stands-not h = rw in_frame (sym (pick_no _ h refl))

-- frames that are held by two tests alike, with the same stores
module _ (held held' : ℕ → Bool) (fs : List ℕ) (F N : ℕ) (e : (f : ℕ) → f < F → held f ≡ held' f) (j : ℕ) (l : j < slot_count * F) where
  pub counted-alike : is_marked_in held fs N j ≡ is_marked_in held' fs N j
  unfolding is_marked_in
  counted-alike = rw (e (j / slot_count) (omega arith))

  pub stands_alike : (store store' : ℕ → ℕ) → ((f : ℕ) → f < F → store f ≡ store' f) → marked_in_frames held store fs N j ≡ marked_in_frames held' store' fs N j
  unfolding marked_in_frames
  stands_alike store store' s = rw (e (j / slot_count) (omega arith), s (j / slot_count) (omega arith))

-- ---- the numbers as the code meets them are those in the frames, in another order

module _ (rs : List FrameRecord) (fs : List ℕ) (F N : ℕ) where
  abbrev by_name : ℕ → ℕ
  by_name = numbers_in_frames name_of rs fs N

  abbrev standing : ℕ → ℕ
  standing = numbers_in_frames as_stands rs fs N

  abbrev word_in : ℕ → ℕ
  word_in i = slot fs (i / per_frame) (i % per_frame - 1)

  -- a page, or a word without a mark
  abbrev Unmarked : ℕ → Type 0
  Unmarked i = i % per_frame ≢ 0 → is_marked (word_in i) ≡ false

  unmarked-same : (i : ℕ) → Unmarked i → standing i ≡ by_name i
  unfolding numbers_in_frames number_in pick
  unmarked-same i h = elim (ℕ_discrete (i % per_frame) 0) [
    | yes z ↦ rw (eq-eqb (i % per_frame) 0 z) refl
    | no z ↦ rw (unmarked-name (word_in i) (h z)) refl
  ]

  marked-same : (f k : ℕ) → k < slot_count → is_marked (slot fs f k) ≡ true → marked_in_frames (used_in rs) (store_in rs) fs N (slot_count * f + k) ≡ by_name (per_frame * f + (1 + k))
  unfolding marked_below
  marked-same f k l m = elim (case (is_used (record_at rs f))) [
    | on u ↦ stands-held (used_in rs) (store_in rs) fs N f k l u ∙ ap (keyed (store_in rs f)) (sym (pick_yes 0 m refl)) ∙ sym (numbers-word name_of rs fs N f k l u)
    | off u ↦ stands-not (used_in rs) (store_in rs) fs N f k l u ∙ sym (numbers-empty name_of rs fs N f (1 + k) (omega arith) u)
  ]

  -- ---- from the frames to the order met: a number with a mark goes behind the others

  is_behind : ℕ → Bool
  is_behind i = not (eqb (i % per_frame) 0) and is_marked (word_in i)

  behind : ℕ → ℕ
  behind i = per_frame * F + (slot_count * (i / per_frame) + (i % per_frame - 1))

  to_met : ℕ → ℕ
  to_met i = pick (is_behind i) (behind i) i

  -- where it goes
  data Goes (i : ℕ) : Type 0 where
    stays : to_met i ≡ i → Unmarked i → Goes i
    moves : to_met i ≡ per_frame * F + (slot_count * (i / per_frame) + (i % per_frame - 1)) → i % per_frame ≢ 0 → is_marked (word_in i) ≡ true → Goes i

  goes : (i : ℕ) → Goes i
  unfolding to_met is_behind behind
  goes i = elim (case (is_behind i)) [
    | on t ↦ let a = and-true (not (eqb (i % per_frame) 0)) _ t in moves (sym (pick_yes i t refl)) (eqb-false _ 0 (not-true _ a.0)) a.1
    | off t ↦ stays (sym (pick_no _ t refl)) (λ z. elim (case (is_marked (word_in i))) [
      | off m ↦ m
      | on m ↦ absurd (clash (sym (both _ _ (ap not (ne_eqb _ 0 z)) m) ∙ t))
    ])
  ]

  pub names-met : Sorted by_name (per_frame * F) (numbers_met rs fs F N) (places_met F)
  names-met = record { to = to_met; inside = inside; same = same; apart = apart }
    where
      inside : (i : ℕ) → i < per_frame * F → by_name i ≢ 0 → to_met i < places_met F
      inside i l z = elim (goes i) [ stays e u ↦ omega arith | moves e n m ↦ omega arith ]

      same : (i : ℕ) → i < per_frame * F → by_name i ≢ 0 → numbers_met rs fs F N (to_met i) ≡ by_name i
      same i l z = elim (goes i) [
        | stays e u ↦ rw e (met-first rs fs F N i l ∙ unmarked-same i u)
        | moves e n m ↦
            let q : per_frame * (i / per_frame) + (1 + (i % per_frame - 1)) ≡ i = omega arith in
            rw e (met-then rs fs F N (slot_count * (i / per_frame) + (i % per_frame - 1)) ∙ marked-same (i / per_frame) (i % per_frame - 1) (omega arith) m ∙ ap by_name q)
      ]

      apart : (i j : ℕ) → i < per_frame * F → j < per_frame * F → by_name i ≢ 0 → by_name j ≢ 0 → to_met i ≡ to_met j → i ≡ j
      apart i j l h y z q = elim (goes i) [
        | stays e u ↦ elim (goes j) [ stays d v ↦ omega arith | moves d n m ↦ absurd (omega arith) ]
        | moves e n m ↦ elim (goes j) [ stays d v ↦ absurd (omega arith) | moves d n' m' ↦ omega arith ]
      ]

  -- ---- and back to the frames

  from_met : ℕ → ℕ
  from_met i = pick (ltb i (per_frame * F)) i (per_frame * ((i - per_frame * F) / slot_count) + (1 + (i - per_frame * F) % slot_count))

  -- whence it came
  data Came (i : ℕ) : Type 0 where
    first : i < per_frame * F → from_met i ≡ i → Came i
    then : (j : ℕ) → i ≡ per_frame * F + j → from_met i ≡ per_frame * (j / slot_count) + (1 + j % slot_count) → Came i

  came : (i : ℕ) → Came i
  unfolding from_met
  came i = elim (dec_lt i (per_frame * F)) [
    | yes l ↦ first l (sym (pick_yes _ (lt-ltb i (per_frame * F) l) refl))
    | no l ↦ then (i - per_frame * F) (omega arith) (sym (pick_no i (le-ltb i (per_frame * F) (omega arith)) refl))
  ]

  module _ (few : N ≤ most_pages) where
    -- a number that stands there has no mark
    stands-unmarked : (i : ℕ) → standing i ≢ 0 → Unmarked i
    unfolding numbers_in_frames number_in pick
    stands-unmarked i z n = elim (case (is_marked (word_in i))) [
      | off m ↦ m
      | on m ↦ absurd (z (rw (ne_eqb (i % per_frame) 0 n, below-high N (word_in i) (omega (arith, marked-name (word_in i) m)), keyed-zero (store_in rs (i / per_frame)) 0 refl) (pick-either (λ (x : ℕ). x ≡ 0) (is_used (record_at rs (i / per_frame))) 0 0 refl refl)))
    ]

    -- one that is met behind the others has
    behind-marked : (j : ℕ) → marked_in_frames (used_in rs) (store_in rs) fs N j ≢ 0 → is_marked (slot fs (j / slot_count) (j % slot_count)) ≡ true
    unfolding marked_in_frames
    behind-marked j z = elim (gives N (slot fs (j / slot_count) (j % slot_count))) [
      | none a b ↦ absurd (z (rw (b, keyed-zero (store_in rs (j / slot_count)) 0 refl) (pick-either (λ (x : ℕ). x ≡ 0) (used_in rs (j / slot_count)) 0 0 refl refl)))
      | one m l a b ↦ m
    ]

    pub met-names : Sorted (numbers_met rs fs F N) (places_met F) by_name (per_frame * F)
    met-names = record { to = from_met; inside = inside; same = same; apart = apart }
      where
        inside : (i : ℕ) → i < places_met F → numbers_met rs fs F N i ≢ 0 → from_met i < per_frame * F
        inside i l z = elim (came i) [ first h e ↦ omega arith | then j q e ↦ omega arith ]

        -- the same number, at its place in the frames
        stood : (i : ℕ) → i < per_frame * F → numbers_met rs fs F N i ≢ 0 → standing i ≢ 0
        stood i l z y = z (met-first rs fs F N i l ∙ y)

        marked : (i j : ℕ) → i ≡ per_frame * F + j → numbers_met rs fs F N i ≢ 0 → is_marked (slot fs (j / slot_count) (j % slot_count)) ≡ true
        marked i j q z = behind-marked j (λ y. z (ap (numbers_met rs fs F N) q ∙ met-then rs fs F N j ∙ y))

        same : (i : ℕ) → i < places_met F → numbers_met rs fs F N i ≢ 0 → by_name (from_met i) ≡ numbers_met rs fs F N i
        same i l z = elim (came i) [
          | first h e ↦ rw e (sym (unmarked-same i (stands-unmarked i (stood i h z))) ∙ sym (met-first rs fs F N i h))
          | then j q e ↦
              let g : slot_count * (j / slot_count) + j % slot_count ≡ j = omega arith in
              rw e (sym (marked-same (j / slot_count) (j % slot_count) (omega arith) (marked i j q z)) ∙ ap (marked_in_frames (used_in rs) (store_in rs) fs N) g ∙ sym (met-then rs fs F N j) ∙ ap (numbers_met rs fs F N) (sym q))
        ]

        -- a word has one place
        mixed : (i j : ℕ) → i ≡ per_frame * (j / slot_count) + (1 + j % slot_count) → standing i ≢ 0 → is_marked (slot fs (j / slot_count) (j % slot_count)) ≡ true → ⊥
        mixed i j e y m =
            let a : i / per_frame ≡ j / slot_count = omega arith in
            let b : i % per_frame - 1 ≡ j % slot_count = omega arith in
            clash (sym (rw (a, b) m) ∙ stands-unmarked i y (λ z. omega arith))

        apart : (i k : ℕ) → i < places_met F → k < places_met F → numbers_met rs fs F N i ≢ 0 → numbers_met rs fs F N k ≢ 0 → from_met i ≡ from_met k → i ≡ k
        apart i k l h y z q = elim (came i) [
          | first a e ↦ elim (came k) [
            | first b d ↦ sym e ∙ q ∙ d
            | then j g d ↦ absurd (mixed i j (sym e ∙ q ∙ d) (stood i a y) (marked k j g z))
          ]
          | then j g e ↦ elim (came k) [
            | first b d ↦ absurd (mixed k j (sym d ∙ sym q ∙ e) (stood k b z) (marked i j g y))
            | then n g' d ↦ omega arith
          ]
        ]

-- ---- noting them

module _ (test : ℕ → Bool) (w : ℕ → ℕ) where
  pub noting-none : (seen : Seen) → MarksNoted test w 0 seen seen 0 true
  noting-none seen = record { few = omega arith; counts = λ z. sym (count-zero test); notes = noted-none w seen }

  -- they stay noted twice, however many come after
  pub noting-twice : (m n : ℕ) → m ≤ n → (seen now after : Seen) → RowNoted w m seen now false → MarksNoted test w n seen after 0 false
  noting-twice m n l seen now after R = record { few = omega arith; counts = λ z. absurd (clash (sym z)); notes = noted-twice w m n l seen now after R }

  module _ (m : ℕ) (seen now : Seen) (count : ℕ) (M : MarksNoted test w m seen now count true) where
    -- word m gives none
    pub noting-over : test m ≡ false → w m ≡ 0 → MarksNoted test w (m + 1) seen now count true
    noting-over t e = record {
      few = omega (arith, M.few);
      counts = λ z. M.counts z ∙ sym (count_no m test t);
      notes = noted-zeros w m seen now M.notes 1 (λ k l. let q : m + k ≡ m = omega arith in ap w q ∙ e);
    }

    -- it gives x, which was noted in store t
    module _ (t x : ℕ) (e : w m ≡ keyed t x) (s : t < most_stores) (l : x < most_pages) (next : Seen) (new : Bool) (S : Notes t x now next new) where
      pub noting-new : test m ≡ true → new ≡ true → MarksNoted test w (m + 1) seen next (count + 1) true
      noting-new y z = record {
        few = omega (arith, M.few);
        counts = λ q. ap (λ (n : ℕ). n + 1) (M.counts q) ∙ sym (count_yes m test y);
        notes = rw z at (noted_one w m seen now M.notes t x e s l next new S);
      }

      pub noting-stale : (n : ℕ) → m + 1 ≤ n → new ≡ false → MarksNoted test w n seen next 0 false
      noting-stale n h z = noting-twice (m + 1) n h seen next next (rw z at (noted_one w m seen now M.notes t x e s l next new S))

    -- the next n words
    module _ (n : ℕ) (next : Seen) (more : ℕ) (fresh : Bool) (Q : MarksNoted (λ k. test (m + k)) (λ k. w (m + k)) n now next more fresh) where
      pub noting-then : fresh ≡ true → MarksNoted test w (m + n) seen next (count + more) true
      noting-then z = record {
        few = omega (arith, M.few, Q.few);
        counts = λ y. rw (M.counts y, Q.counts z) (sym (count_add m n test));
        notes = rw z at (noted-then w m seen now M.notes n next fresh Q.notes);
      }

      pub noting-then-stale : (o : ℕ) → m + n ≤ o → fresh ≡ false → MarksNoted test w o seen next 0 false
      noting-then-stale o h z = noting-twice (m + n) o h seen next next (rw z at (noted-then w m seen now M.notes n next fresh Q.notes))

-- none of the next m words gives one
pub noting-nothing : (test : ℕ → Bool) (w : ℕ → ℕ) (m : ℕ) → ((k : ℕ) → k < m → test k ≡ false) → ((k : ℕ) → k < m → w k ≡ 0) → (seen : Seen) → MarksNoted test w m seen seen 0 true
noting-nothing test w m t z seen = record { few = omega arith; counts = λ y. sym (count_none m test t); notes = record { goes = λ row i h P. pass-zeros row i seen m (λ k l. h k l ∙ z k l) P } }

-- the same tests and numbers
pub noting-ext : (test test' : ℕ → Bool) (w w' : ℕ → ℕ) (m : ℕ) → ((k : ℕ) → k < m → test k ≡ test' k) → ((k : ℕ) → k < m → w k ≡ w' k) → (seen next : Seen) (count : ℕ) (fresh : Bool)
    → MarksNoted test' w' m seen next count fresh → MarksNoted test w m seen next count fresh
noting-ext test test' w w' m t e seen next count fresh M = record {
  few = M.few;
  counts = λ z. M.counts z ∙ sym (count-ext m test test' t);
  notes = noted-ext w w' m e seen next fresh M.notes;
}

-- ---- frame by frame, by the table

module _ (residents fs : List ℕ) (N f : ℕ) (seen : Seen) where
  -- in a frame that holds a page
  module _ (h : holds_page residents f ≡ true) where
    pub frame-marked : (t : ℕ) → t ≡ store_by residents f → (next : Seen) (count : ℕ) (fresh : Bool) → MarksNoted (marks_from (slot fs f) N) (marked_from (slot fs f) N t) slot_count seen next count fresh → FrameMarks residents fs N f seen next count fresh
    frame-marked t s next count fresh M =
        noting-ext _ (marks_from (slot fs f) N) _ (marked_from (slot fs f) N (store_by residents f)) slot_count
        (λ k l. counted-held (holds_page residents) (store_by residents) fs N f k l h) (λ k l. stands-held (holds_page residents) (store_by residents) fs N f k l h) seen next count fresh (rw s at M)

    pub frame-unmarked : N ≤ most_pages → NoMark (slot fs f) → FrameMarks residents fs N f seen seen 0 true
    frame-unmarked few z =
        noting-nothing _ _ slot_count (λ k l. counted-held (holds_page residents) (store_by residents) fs N f k l h ∙ (gives_none N _ few (z k l)).0)
        (λ k l. stands-held (holds_page residents) (store_by residents) fs N f k l h ∙ keyed-zero _ _ (gives_none N _ few (z k l)).1) seen

  -- in one that holds none
  pub frame-empty : holds_page residents f ≡ false → FrameMarks residents fs N f seen seen 0 true
  frame-empty h = noting-nothing _ _ slot_count (λ k l. counted-not (holds_page residents) (store_by residents) fs N f k l h) (λ k l. stands-not (holds_page residents) (store_by residents) fs N f k l h) seen
