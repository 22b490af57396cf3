-- Laws of the code's tests, for the proofs of its functions. Assumes nothing.
use Rattle.std.specs.Prelude.{ℕ, zero, suc, ◌+◌, ◌*◌, ◌-◌, ◌/◌, ◌%◌, ◌<◌, ◌≤◌, ◌≡◌, Bool, true, false, List, eqb, length, set, replicate}
use Rattle.std.proofs.Math.Path.{refl, sym, ap}
use Rattle.std.proofs.Common.{arith, add-one, ◌∙◌, add-zero, add_assoc, le_refl, lt-ltb, le-ltb, le-leb, eq-eqb, ne_eqb, eqb-true, length-set, get_or-set_same, get_or-set_other}
use Rattle.std.proofs.Math.Decide.{ℕ_discrete, dec_lt}
use Rattle.std.proofs.lemmas.Bool.{lt-leb}
use mir.Val.{bool_byte}
use Rattle.std.proofs.lemmas.List.{length-replicate}
use Rattle.std.specs.Int.Bits.{bit_or, bit_and, or_add_and, or_zero_l}
use Rattle.std.proofs.lemmas.Nat.{and_le_l, and_le_r}
use Rattle.page.specs.Figures.{slot_count, most_pages}
use Rattle.page.specs.Page.{slot}
use Rattle.machine.specs.declared.FrameRecord.{FrameRecord}
use Rattle.rules.specs.TestLaws.{case, on, off, pick_yes, pick_no, both, and-true, and_yes, and_no, clash}
use Rattle.machine.specs.Machine.{is_used, record_at, page_in, store_in}
use Rattle.machine.specs.Agreement.{is_blank}
use Rattle.seen.specs.Fold.{fold}
use Rattle.agreement.specs.Counting.{count_if, count-zero, count_yes, count_no, count_add, count-ext, count_none, count-le}
use Rattle.agreement.specs.Twice.{keyed}
use Rattle.agreement.specs.Fit.{Blank, first_fields, middle_fields, last_fields, NoField, Gathers, RootFits, ResidentFits, Linked, Fits, number_below, per_frame, number_in, numbers_in_frames, as_stands, over_from, is_over, used_in, marked_in_frames, numbers_met, HasWords, HasNumbers, over_weight, low_sum, entry, Entries, BelowOf, weight, add_word, fill, SumsWords}

-- ---- the all-zero record

pub blank_of : (r : FrameRecord) → is_blank r ≡ true → Blank r
unfolding is_blank
blank_of r t =
    let a = and-true (eqb r.used 0) _ t in
    let b = and-true (eqb r.dirty 0) _ a.1 in
    let c = and-true (eqb r.usage 0) _ b.1 in
    let d = and-true (eqb r.slot 0) _ c.1 in
    let e = and-true (eqb r.parent.0 0) _ d.1 in
    let s = and-true (eqb r.store.0 0) _ e.1 in
    let f = and-true (eqb r.pins 0) (eqb r.page.0 0) s.1 in
    record {
      used = eqb-true _ 0 a.0;
      dirty = eqb-true _ 0 b.0;
      usage = eqb-true _ 0 c.0;
      slot = eqb-true _ 0 d.0;
      parent = eqb-true _ 0 e.0;
      store = eqb-true _ 0 s.0;
      pins = eqb-true _ 0 f.0;
      page = eqb-true _ 0 f.1;
    }

pub of-blank : (r : FrameRecord) → Blank r → is_blank r ≡ true
unfolding is_blank
of-blank r h =
    both _ _ (eq-eqb _ 0 h.used) (both _ _ (eq-eqb _ 0 h.dirty) (both _ _ (eq-eqb _ 0 h.usage) (both _ _ (eq-eqb _ 0 h.slot)
    (both _ _ (eq-eqb _ 0 h.parent) (both _ _ (eq-eqb _ 0 h.store) (both _ _ (eq-eqb _ 0 h.pins) (eq-eqb _ 0 h.page)))))))

pub blank-unused : (r : FrameRecord) → Blank r → is_used r ≡ false
blank-unused r b = ne_eqb r.used 1 (λ e. omega (arith, b.used))

-- ---- numbers or-ed together

pub or_nothing : (a b : ℕ) → bit_or a b ≡ 0 → (a ≡ 0) × (b ≡ 0)
or_nothing a b e = let s : bit_or a b + bit_and a b ≡ a + b = or_add_and a b in (omega (arith, and_le_r a b), omega (arith, and_le_l a b))

pub nothing-or : (a b : ℕ) → a ≡ 0 → b ≡ 0 → bit_or a b ≡ 0
nothing-or a b x y = rw (x, y) (or_zero_l 0)

-- ---- a record's fields as digits

module _ (r : FrameRecord) (x m y : ℕ) (first : x ≡ first_fields r.used r.dirty r.usage r.slot) (middle : m ≡ middle_fields r.parent.0 r.store.0) (last : y ≡ last_fields r.pins r.page.0) where
  fields-blank : NoField x m y → Blank r
  fields-blank n =
      let a : first_fields r.used r.dirty r.usage r.slot ≡ 0 = sym first ∙ n.first in
      let b : middle_fields r.parent.0 r.store.0 ≡ 0 = sym middle ∙ n.middle in
      let z : last_fields r.pins r.page.0 ≡ 0 = sym last ∙ n.last in
      record { used = omega arith; dirty = omega arith; usage = omega arith; slot = omega arith; parent = omega arith; store = omega arith; pins = omega arith; page = omega arith }

  blank-fields : Blank r → NoField x m y
  blank-fields b = record { first = omega (arith, first, b.used, b.dirty, b.usage, b.slot); middle = omega (arith, b.parent, b.store); last = omega (arith, b.pins, b.page) }

  pub gathers : (a p z : ℕ) → Gathers r (NoField a p z) (NoField (bit_or a x) (bit_or p m) (bit_or z y))
  gathers a p z = record {
    kept = λ n. record { first = (or_nothing a _ n.first).0; middle = (or_nothing p _ n.middle).0; last = (or_nothing z _ n.last).0 };
    blank = λ n. fields-blank (record { first = (or_nothing a _ n.first).1; middle = (or_nothing p _ n.middle).1; last = (or_nothing z _ n.last).1 });
    nothing = λ n b.
        let e = blank-fields b in
        record { first = nothing-or a _ n.first e.first; middle = nothing-or p _ n.middle e.middle; last = nothing-or z _ n.last e.last };
  }

-- ---- a table filled place by place

pub entries-more : (row : ℕ → ℕ) (t : List ℕ) (n x : ℕ) → n < length t → x ≡ row n → Entries row n t → Entries row (n + 1) (set t n x)
entries-more row t n x l e h f m = elim (ℕ_discrete f n) [
  | yes q ↦ rw q (get_or-set_same t n x 0 l ∙ e)
  | no q ↦ get_or-set_other t n f x 0 q ∙ h f (omega arith)
]

-- the table as a loop fills it
filled : (row : ℕ → ℕ) (t : List ℕ) (n : ℕ) → n ≤ length t → (length (fold (fill row) t n) ≡ length t) × Entries row n (fold (fill row) t n)
unfolding fold
filled row t zero h = (refl, λ f m. absurd (omega arith))
filled row t (suc n) h =
    let r = filled row t n (omega arith) in
    let l : length (fold (fill row) t n) ≡ length t = r.0 in
    let q : suc n ≡ n + 1 = omega arith in
    (length-set (fold (fill row) t n) n (row n) ∙ l, rw q (entries-more row (fold (fill row) t n) n (row n) (omega arith) refl r.1))

pub below_of : (w : ℕ → ℕ) (N : ℕ) (ns : List ℕ) → ns ≡ fold (fill (λ k. number_below N (w k))) (replicate slot_count 0) slot_count → BelowOf w N ns
below_of w N ns e =
    let r = filled (λ k. number_below N (w k)) (replicate slot_count 0) slot_count (omega (arith, length-replicate {A = ℕ} slot_count 0)) in
    rw e (record { size = r.0 ∙ length-replicate {A = ℕ} slot_count 0; right = r.1 })

-- ---- the numbers in a row

pub below-low : (N w : ℕ) → w < N → number_below N w ≡ w
unfolding number_below
below-low N w l = sym (pick_yes 0 (lt-ltb w N l) refl)

pub below-high : (N w : ℕ) → N ≤ w → number_below N w ≡ 0
unfolding number_below
below-high N w l = sym (pick_no w (le-ltb w N l) refl)

pub below-lt : (N w : ℕ) → 1 ≤ N → number_below N w < N
below-lt N w o = elim (dec_lt w N) [
  | yes l ↦ rw (below-low N w l) l
  | no l ↦ rw (below-high N w (omega arith)) (omega arith)
]

pub numbers-lt : (w : ℕ → ℕ) (N : ℕ) (ns : List ℕ) → 1 ≤ N → BelowOf w N ns → (k : ℕ) → k < slot_count → entry ns k < N
numbers-lt w N ns o B k h = rw (B.right k h) (below-lt N _ o)

module _ (read : ℕ → ℕ) (rs : List FrameRecord) (fs : List ℕ) (N f : ℕ) where
  -- place j of frame f
  module _ (j : ℕ) (h : j < per_frame) where
    at-frame : (per_frame * f + j) / per_frame ≡ f
    at-frame = omega arith

    at_place : (per_frame * f + j) % per_frame ≡ j
    at_place = omega arith

    pub numbers-used : is_used (record_at rs f) ≡ true → numbers_in_frames read rs fs N (per_frame * f + j) ≡ keyed (store_in rs f) (number_in read rs fs N f j)
    unfolding numbers_in_frames
    numbers-used u = rw (at-frame, at_place) (sym (pick_yes 0 u refl))

    pub numbers-empty : is_used (record_at rs f) ≡ false → numbers_in_frames read rs fs N (per_frame * f + j) ≡ 0
    unfolding numbers_in_frames
    numbers-empty u = rw (at-frame, at_place) (sym (pick_no _ u refl))

  pub numbers-page : is_used (record_at rs f) ≡ true → numbers_in_frames read rs fs N (per_frame * f) ≡ keyed (store_in rs f) (page_in rs f)
  unfolding number_in
  numbers-page u =
      ap (numbers_in_frames read rs fs N) (sym (add-zero (per_frame * f))) ∙ numbers-used 0 (omega arith) u ∙ ap (keyed (store_in rs f)) (sym (pick_yes (number_below N (read (slot fs f (0 - 1)))) (eq-eqb 0 0 refl) refl))

  pub numbers-word : (k : ℕ) → k < slot_count → is_used (record_at rs f) ≡ true → numbers_in_frames read rs fs N (per_frame * f + (1 + k)) ≡ keyed (store_in rs f) (number_below N (read (slot fs f k)))
  unfolding number_in
  numbers-word k h u =
      let e : 1 + k - 1 ≡ k = omega arith in
      numbers-used (1 + k) (omega arith) u ∙ ap (keyed (store_in rs f)) (sym (pick_no (page_in rs f) (ne_eqb (1 + k) 0 (λ z. omega arith)) refl) ∙ ap (λ (x : ℕ). number_below N (read (slot fs f x))) e)

-- ---- the row has what stands in frame f

module _ (rs : List FrameRecord) (fs : List ℕ) (F N : ℕ) where
  pub met-first : (i : ℕ) → i < per_frame * F → numbers_met rs fs F N i ≡ numbers_in_frames as_stands rs fs N i
  unfolding numbers_met
  met-first i l = sym (pick_yes _ (lt-ltb i (per_frame * F) l) refl)

  pub met-then : (j : ℕ) → numbers_met rs fs F N (per_frame * F + j) ≡ marked_in_frames (used_in rs) (store_in rs) fs N j
  unfolding numbers_met
  met-then j =
      let e : per_frame * F + j - per_frame * F ≡ j = omega arith in
      sym (pick_no _ (le-ltb (per_frame * F + j) (per_frame * F) (omega arith)) refl) ∙ ap (marked_in_frames (used_in rs) (store_in rs) fs N) e

  module _ (f : ℕ) (l : f < F) where
    has_words : is_used (record_at rs f) ≡ true → HasWords (slot fs f) N (store_in rs f) (numbers_met rs fs F N) (per_frame * f + 1)
    has_words u k h =
        ap (numbers_met rs fs F N) (add_assoc (per_frame * f) 1 k) ∙ met-first (per_frame * f + (1 + k)) (omega arith) ∙ numbers-word as_stands rs fs N f k h u

    pub has-numbers : HasNumbers fs N f (record_at rs f) (numbers_met rs fs F N) (per_frame * f)
    has-numbers = record {
      page = λ u. met-first (per_frame * f) (omega arith) ∙ numbers-page as_stands rs fs N f u;
      words = has_words;
      empty = λ u j h. met-first (per_frame * f + j) (omega arith) ∙ numbers-empty as_stands rs fs N f j h u;
    }

module _ (rs : List FrameRecord) (fs : List ℕ) (N f : ℕ) where
  -- ---- the words that are not below N, counted frame by frame

  over-at : (k : ℕ) → k < slot_count → is_used (record_at rs f) ≡ true → is_over as_stands rs fs N (slot_count * f + k) ≡ over_from (slot fs f) N k
  unfolding is_over over_from
  over-at k h u =
      let a : (slot_count * f + k) / slot_count ≡ f = omega arith in
      let b : (slot_count * f + k) % slot_count ≡ k = omega arith in
      rw (a, b) (sym (and_yes u refl))

  pub over-used : is_used (record_at rs f) ≡ true → count_if (slot_count * (f + 1)) (is_over as_stands rs fs N) ≡ count_if (slot_count * f) (is_over as_stands rs fs N) + count_if slot_count (over_from (slot fs f) N)
  over-used u =
      let e : slot_count * (f + 1) ≡ slot_count * f + slot_count = omega arith in
      rw e (count_add (slot_count * f) slot_count (is_over as_stands rs fs N) ∙ ap (λ (k : ℕ). count_if (slot_count * f) (is_over as_stands rs fs N) + k) (count-ext slot_count _ _ (λ k h. over-at k h u)))

  none_over : (k : ℕ) → k < slot_count → is_used (record_at rs f) ≡ false → is_over as_stands rs fs N (slot_count * f + k) ≡ false
  unfolding is_over
  none_over k h u =
      let a : (slot_count * f + k) / slot_count ≡ f = omega arith in
      rw a (sym (and_no _ u))

  pub over-empty : is_used (record_at rs f) ≡ false → count_if (slot_count * (f + 1)) (is_over as_stands rs fs N) ≡ count_if (slot_count * f) (is_over as_stands rs fs N)
  over-empty u =
      let e : slot_count * (f + 1) ≡ slot_count * f + slot_count = omega arith in
      rw e (count_add (slot_count * f) slot_count (is_over as_stands rs fs N) ∙ ap (λ (k : ℕ). count_if (slot_count * f) (is_over as_stands rs fs N) + k) (count_none slot_count _ (λ k h. none_over k h u)) ∙ add-zero _)

-- ---- a frame fits

module _ (fs : List ℕ) (F N T f : ℕ) (r : FrameRecord) (above : Bool) where
  pub fits-root : f < T → RootFits f r → Fits fs F N T f r above
  fits-root z k = record { root = λ e. k; resident = λ n. absurd (omega arith); linked = λ n. absurd (omega arith); empty = λ u. absurd (clash (sym k.used ∙ u)) }

  pub fits-linked : T ≤ f → is_used r ≡ true → ResidentFits F N T r → Linked fs f r above → Fits fs F N T f r above
  fits-linked n u k l = record { root = λ z. absurd (omega arith); resident = λ m v. k; linked = λ m v. l; empty = λ v. absurd (clash (sym u ∙ v)) }

  pub fits-empty : T ≤ f → Blank r → Fits fs F N T f r above
  fits-empty n b = record { root = λ z. absurd (omega arith); resident = λ m v. absurd (clash (sym v ∙ blank-unused r b)); linked = λ m v. absurd (clash (sym v ∙ blank-unused r b)); empty = λ v. b }

  pub page-below : 1 ≤ N → Fits fs F N T f r above → r.page.0 < N
  page-below o k = elim (dec_lt f T) [
    | yes z ↦ omega (arith, (k.root z).page)
    | no z ↦ elim (case (is_used r)) [
      | on u ↦ (k.resident (omega arith) u).page
      | off u ↦ omega (arith, (k.empty u).page)
    ]
  ]

  pub fitting-store : 1 ≤ T → Fits fs F N T f r above → r.store.0 < T
  fitting-store o k = elim (dec_lt f T) [
    | yes z ↦ omega (arith, (k.root z).store)
    | no z ↦ elim (case (is_used r)) [
      | on u ↦ (k.resident (omega arith) u).store
      | off u ↦ omega (arith, (k.empty u).store)
    ]
  ]

  pub used-few : Fits fs F N T f r above → r.used ≤ 1
  used-few k = elim (case (is_used r)) [ on u ↦ omega (arith, eqb-true r.used 1 u) | off u ↦ omega (arith, (k.empty u).used) ]

  pub used-bit : Fits fs F N T f r above → r.used ≡ bool_byte (is_used r)
  used-bit k = elim (case (is_used r)) [
    | on u ↦ eqb-true r.used 1 u ∙ sym (ap bool_byte u)
    | off u ↦ (k.empty u).used ∙ sym (ap bool_byte u)
  ]

-- ---- the sum of words

pub weight-low : (last w : ℕ) → w ≤ last → weight last w ≡ w
unfolding weight
weight-low last w l = sym (pick_yes over_weight (le-leb w last l) refl)

pub weight-high : (last w : ℕ) → last < w → weight last w ≡ over_weight
unfolding weight
weight-high last w l = sym (pick_no w (lt-leb w last l) refl)

-- what the sum of the first k words tells
pub record SumsTo (w : ℕ → ℕ) (N k sum : ℕ) : Type 0 where
  pub parts : sum ≡ over_weight * count_if k (over_from w N) + low_sum w N k
  pub few : low_sum w N k ≤ 4095 * k

module _ (w : ℕ → ℕ) (N : ℕ) where
  pub over-high : (k : ℕ) → N ≤ w k → over_from w N k ≡ true
  unfolding over_from
  over-high k l = le-leb N (w k) l

  pub over-low : (k : ℕ) → w k < N → over_from w N k ≡ false
  unfolding over_from
  over-low k l = lt-leb N (w k) l

  pub low-none : low_sum w N 0 ≡ 0
  unfolding low_sum
  low-none = refl

  pub low-more : (k : ℕ) → low_sum w N (k + 1) ≡ low_sum w N k + number_below N (w k)
  unfolding low_sum
  low-more k = rw (add-one k)

  -- n words more add to it, or are no numbers
  low-on : (k n : ℕ) → low_sum w N k ≤ low_sum w N (k + n)
  low-on k zero = rw (add-zero k) (le_refl (low_sum w N k))
  low-on k (suc n) =
      let e : k + suc n ≡ k + n + 1 = omega arith in
      let q : low_sum w N (k + suc n) ≡ low_sum w N (k + n) + number_below N (w (k + n)) = ap (low_sum w N) e ∙ low-more (k + n) in
      omega (arith, low-on k n)

  pub low-within : (k m : ℕ) → k ≤ m → low_sum w N k ≤ low_sum w N m
  low-within k m l = let e : k + (m - k) ≡ m = omega arith in rw e at (low-on k (m - k))

  -- where nothing is added from k on, no word there is a number
  pub low-rest : (k m : ℕ) → low_sum w N m ≤ low_sum w N k → (j : ℕ) → k ≤ j → j < m → number_below N (w j) ≡ 0
  low-rest k m l j a b = omega (arith, low-within k j a, low-more j, low-within (j + 1) m (omega arith))

  pub sums_none : SumsTo w N 0 0
  sums_none = record { parts = omega (arith, count-zero (over_from w N), low-none); few = omega (arith, low-none) }

  pub sums-few : (k sum : ℕ) → k ≤ slot_count → SumsTo w N k sum → sum ≤ 1114112
  sums-few k sum h s = omega (arith, s.parts, s.few, count-le k (over_from w N))

  -- one more word
  pub sums-more : 1 ≤ N → N ≤ most_pages → (k sum : ℕ) → SumsTo w N k sum → SumsTo w N (k + 1) (sum + weight (N - 1) (w k))
  sums-more o l k sum s = elim (dec_lt (w k) N) [
    | yes h ↦
        let c : count_if (k + 1) (over_from w N) ≡ count_if k (over_from w N) = count_no k (over_from w N) (over-low k h) in
        let x : weight (N - 1) (w k) ≡ w k = weight-low (N - 1) (w k) (omega arith) in
        let b : low_sum w N (k + 1) ≡ low_sum w N k + w k = low-more k ∙ ap (λ (y : ℕ). low_sum w N k + y) (below-low N (w k) h) in
        record { parts = omega (arith, s.parts); few = omega (arith, s.few) }
    | no h ↦
        let c : count_if (k + 1) (over_from w N) ≡ count_if k (over_from w N) + 1 = count_yes k (over_from w N) (over-high k (omega arith)) in
        let x : weight (N - 1) (w k) ≡ over_weight = weight-high (N - 1) (w k) (omega arith) in
        let b : low_sum w N (k + 1) ≡ low_sum w N k + 0 = low-more k ∙ ap (λ (y : ℕ). low_sum w N k + y) (below-high N (w k) (omega arith)) in
        record { parts = omega (arith, s.parts); few = omega (arith, s.few) }
  ]

  -- the sum as a loop makes it
  sums-of : 1 ≤ N → N ≤ most_pages → (k : ℕ) → SumsTo w N k (fold (add_word w N) 0 k)
  unfolding fold
  sums-of o l zero = sums_none
  sums-of o l (suc k) = rw (← add-one k) (sums-more o l k _ (sums-of o l k))

  pub sums-to : 1 ≤ N → N ≤ most_pages → (k : ℕ) {sum : ℕ} → sum ≡ fold (add_word w N) 0 k → SumsTo w N k sum
  sums-to o l k e = rw e (sums-of o l k)

  pub sums-all : (sum : ℕ) → SumsTo w N slot_count sum → SumsWords w N sum
  sums-all sum s = record { counts = omega (arith, s.parts, s.few); low = omega (arith, s.parts, s.few) }
