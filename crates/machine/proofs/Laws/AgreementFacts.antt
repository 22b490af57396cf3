-- What `agree` says, as facts: the test holds exactly where all of them hold. Assumes nothing.
use Rattle.std.specs.Prelude.{ℕ, ◌<◌, ◌≤◌, ◌≡◌, ◌≢◌, Bool, true, false, List, eqb, ltb, leb}
use Rattle.std.proofs.Math.Path.{ap}
use Rattle.std.proofs.Math.Bool.{not}
use borrow.Author.Tests.{eq-eqb, ne_eqb, lt-ltb, le-ltb, le-leb, eqb-true, eqb-false, ltb-true, ltb-false, leb-true, not-true}
use Rattle.page.specs.Figures.{slot_count, record_count, max_usage, max_pins}
use Rattle.page.specs.Word.{frame_in, frame_word, Number, Swizzled, number-yes, number-no, yes-number, no_number, gives-page, page-given}
use Rattle.page.specs.Page.{name}
use Rattle.page.specs.StorePlaces.{store_place}
use Rattle.machine.specs.declared.FrameRecord.{FrameRecord}
use Rattle.machine.specs.declared.Pool.{Pool}
use Rattle.rules.specs.Tests.{◌or◌}
use Rattle.rules.specs.TestLaws.{case, on, off, use⇒, make⇒, both, and-true, or-second, or_left, or_right, every_true, true-every}
use Rattle.machine.specs.Machine.{is_root, is_used, record_at, page_in, store_in, place_in, occupied, ceiling_of, held}
use Rattle.machine.specs.Agreement.{parent_of, parent_slot_of, is_blank, root_in_place, roots_in_place, pages_apart, hand_in_range, fields_in_range, all_in_range, empty_blank, parents_name, stores_agree, points_back, swizzled_point_back, absent, numbers_absent, numbers_once, reaches_root, all_reach_root, ceilings_hold, agree}

pub occupied-lt : (p : Pool) (f : ℕ) → occupied p f ≡ true → f < p.count
unfolding occupied
occupied-lt p f e = ltb-true f p.count (and-true (ltb f p.count) _ e).0

pub occupied-used : (p : Pool) (f : ℕ) → occupied p f ≡ true → is_used (record_at p.records f) ≡ true
unfolding occupied
occupied-used p f e = (and-true (ltb f p.count) (is_used (record_at p.records f)) e).1

pub make-occupied : (p : Pool) (f : ℕ) → f < p.count → is_used (record_at p.records f) ≡ true → occupied p f ≡ true
unfolding occupied
make-occupied p f l u = both _ _ (lt-ltb f p.count l) u

-- the record of frame g points back to slot k of frame f
pub record Points (p : Pool) (g f k : ℕ) : Type 0 where
  pub at : occupied p g ≡ true
  pub other : p.stores ≤ g
  pub parent : parent_of p g ≡ f
  pub parent_slot : parent_slot_of p g ≡ k

pub points-of : (p : Pool) (g f k : ℕ) → points_back p g f k ≡ true → Points p g f k
unfolding points_back
points-of p g f k t =
    let a = and-true (occupied p g) _ t in
    let b = and-true (not (is_root p.stores g)) _ a.1 in
    let c = and-true (eqb (parent_of p g) f) _ b.1 in
    record { at = a.0; other = ltb-false g p.stores (not-true _ b.0); parent = eqb-true _ f c.0; parent_slot = eqb-true _ k c.1 }

pub of-points : (p : Pool) (g f k : ℕ) → Points p g f k → points_back p g f k ≡ true
unfolding points_back
of-points p g f k t = both _ _ t.at (both _ _ (ap not (le-ltb g p.stores t.other)) (both _ _ (eq-eqb _ f t.parent) (eq-eqb _ k t.parent_slot)))

-- the fields of a record are in their ranges
pub record InRange (p : Pool) (r : FrameRecord) : Type 0 where
  pub page : r.page.0 < p.pages
  pub store : r.store.0 < p.stores
  pub pins : r.pins ≤ max_pins
  pub usage : r.usage ≤ max_usage
  pub parent : r.parent.0 < p.count
  pub slot : r.slot < slot_count
  pub used : r.used ≤ 1
  pub dirty : r.dirty ≤ 1

pub in-range : (p : Pool) (r : FrameRecord) → fields_in_range p r ≡ true → InRange p r
unfolding fields_in_range
in-range p r t =
    let a = and-true (ltb r.page.0 p.pages) _ t in
    let s = and-true (ltb r.store.0 p.stores) _ a.1 in
    let b = and-true (leb r.pins max_pins) _ s.1 in
    let c = and-true (leb r.usage max_usage) _ b.1 in
    let d = and-true (ltb r.parent.0 p.count) _ c.1 in
    let e = and-true (ltb r.slot slot_count) _ d.1 in
    let f = and-true (leb r.used 1) _ e.1 in
    record { page = ltb-true _ _ a.0; store = ltb-true _ _ s.0; pins = leb-true _ max_pins b.0; usage = leb-true _ max_usage c.0; parent = ltb-true _ _ d.0; slot = ltb-true _ slot_count e.0; used = leb-true _ 1 f.0; dirty = leb-true _ 1 f.1 }

pub of_range : (p : Pool) (r : FrameRecord) → InRange p r → fields_in_range p r ≡ true
unfolding fields_in_range
of_range p r h =
    both _ _ (lt-ltb _ _ h.page) (both _ _ (lt-ltb _ _ h.store) (both _ _ (le-leb _ max_pins h.pins) (both _ _ (le-leb _ max_usage h.usage) (both _ _ (lt-ltb _ _ h.parent) (both _ _ (lt-ltb _ slot_count h.slot) (both _ _ (le-leb _ 1 h.used) (le-leb _ 1 h.dirty)))))))

pub record Agreed (p : Pool) (fs : List ℕ) : Type 0 where
  pub root : (t : ℕ) → t < p.stores → occupied p t ≡ true
  pub root_page : (t : ℕ) → t < p.stores → page_in p.records t ≡ 0
  pub root_store : (t : ℕ) → t < p.stores → store_in p.records t ≡ t
  pub root_parent : (t : ℕ) → t < p.stores → parent_of p t ≡ 0
  pub root_slot : (t : ℕ) → t < p.stores → parent_slot_of p t ≡ 0
  pub apart : (f g : ℕ) → occupied p f ≡ true → occupied p g ≡ true → place_in p.pages p.records f ≡ place_in p.pages p.records g → f ≡ g
  pub hand : p.hand.0 < p.count
  pub in_range : (f : ℕ) → f < record_count → InRange p (record_at p.records f)
  pub blank : (f : ℕ) → f < record_count → occupied p f ≡ false → is_blank (record_at p.records f) ≡ true
  pub parent : (f : ℕ) → occupied p f ≡ true → p.stores ≤ f → occupied p (parent_of p f) ≡ true
  pub parent_word : (f : ℕ) → occupied p f ≡ true → p.stores ≤ f → name fs (parent_of p f) (parent_slot_of p f) ≡ frame_word f
  pub parent_store : (f : ℕ) → occupied p f ≡ true → p.stores ≤ f → store_in p.records f ≡ store_in p.records (parent_of p f)
  pub back : (f k : ℕ) → occupied p f ≡ true → k < slot_count → Swizzled (name fs f k) → Points p (frame_in (name fs f k)) f k
  pub below : (f k : ℕ) → occupied p f ≡ true → k < slot_count → Number (name fs f k) → name fs f k ≢ 0 → name fs f k < p.pages
  pub away : (f k : ℕ) → occupied p f ≡ true → k < slot_count → Number (name fs f k) → name fs f k ≢ 0 → (g : ℕ) → occupied p g ≡ true → place_in p.pages p.records g ≢ store_place p.pages (store_in p.records f) (name fs f k)
  pub once : (f k g j : ℕ) → occupied p f ≡ true → k < slot_count → occupied p g ≡ true → j < slot_count → store_in p.records f ≡ store_in p.records g → name fs f k ≢ 0 → Number (name fs f k) → name fs f k ≡ name fs g j → (f ≡ g) × (k ≡ j)
  pub reach : (f : ℕ) → occupied p f ≡ true → reaches_root p p.count f ≡ true
  pub ceilings : (t : ℕ) → t < p.stores → held p t ≤ ceiling_of p t

module _ (p : Pool) (fs : List ℕ) where
  -- ---- from the test to the facts
  root-of : roots_in_place p ≡ true → (t : ℕ) → t < p.stores
      → (occupied p t ≡ true) × (page_in p.records t ≡ 0) × (store_in p.records t ≡ t) × (parent_of p t ≡ 0) × (parent_slot_of p t ≡ 0)
  unfolding roots_in_place root_in_place
  root-of e t l =
      let a = and-true (occupied p t) _ (every_true p.stores _ e t l) in
      let b = and-true (eqb (page_in p.records t) 0) _ a.1 in
      let s = and-true (eqb (store_in p.records t) t) _ b.1 in
      let c = and-true (eqb (parent_of p t) 0) _ s.1 in
      (a.0, eqb-true _ 0 b.0, eqb-true _ t s.0, eqb-true _ 0 c.0, eqb-true _ 0 c.1)

  once-of : pages_apart p ≡ true → (f g : ℕ) → occupied p f ≡ true → occupied p g ≡ true → place_in p.pages p.records f ≡ place_in p.pages p.records g → f ≡ g
  unfolding pages_apart
  once-of t f g of og e =
      eqb-true f g (use⇒ _ _ (every_true _ _ (every_true _ _ t f (occupied-lt p f of)) g (occupied-lt p g og)) (both _ _ of (both _ _ og (eq-eqb _ _ e))))

  range-of : all_in_range p ≡ true → (f : ℕ) → f < record_count → InRange p (record_at p.records f)
  unfolding all_in_range
  range-of t f l = in-range p _ (every_true record_count (λ g. fields_in_range p (record_at p.records g)) t f l)

  blank_of : empty_blank p ≡ true → (f : ℕ) → f < 64 → occupied p f ≡ false → is_blank (record_at p.records f) ≡ true
  unfolding empty_blank
  blank_of t f l o = use⇒ _ _ (every_true 64 _ t f l) (ap not o)

  parent-of : parents_name p fs ≡ true → (f : ℕ) → occupied p f ≡ true → p.stores ≤ f → (occupied p (parent_of p f) ≡ true) × (name fs (parent_of p f) (parent_slot_of p f) ≡ frame_word f)
  unfolding parents_name
  parent-of t f o n =
      let a = and-true (occupied p (parent_of p f)) _ (use⇒ _ _ (every_true _ _ t f (occupied-lt p f o)) (both _ _ o (ap not (le-ltb f p.stores n)))) in
      (a.0, eqb-true _ _ a.1)

  store_of : stores_agree p ≡ true → (f : ℕ) → occupied p f ≡ true → p.stores ≤ f → store_in p.records f ≡ store_in p.records (parent_of p f)
  unfolding stores_agree
  store_of t f o n = eqb-true _ _ (use⇒ _ _ (every_true _ _ t f (occupied-lt p f o)) (both _ _ o (ap not (le-ltb f p.stores n))))

  swizzled-of : swizzled_point_back p fs ≡ true → (f k : ℕ) → occupied p f ≡ true → k < 16 → Swizzled (name fs f k) → Points p (frame_in (name fs f k)) f k
  unfolding swizzled_point_back
  swizzled-of t f k o h l =
      points-of p _ f k (use⇒ _ _ (every_true 16 _ (use⇒ _ _ (every_true _ _ t f (occupied-lt p f o)) o) k h) (ap not (no_number (name fs f k) l)))

  number_of : numbers_absent p fs ≡ true → (f k : ℕ) → occupied p f ≡ true → k < 16 → Number (name fs f k) → name fs f k ≢ 0
      → (name fs f k < p.pages) × (absent p (store_place p.pages (store_in p.records f) (name fs f k)) ≡ true)
  unfolding numbers_absent
  number_of t f k o h l n =
      let a = and-true (ltb (name fs f k) p.pages) _ (or-second (eqb (name fs f k) 0) _
      (use⇒ _ _ (every_true 16 _ (use⇒ _ _ (every_true _ _ t f (occupied-lt p f o)) o) k h) (yes-number (name fs f k) l)) (ne_eqb _ 0 n)) in
      (ltb-true _ _ a.0, a.1)

  absent-of : (x : ℕ) → absent p x ≡ true → (g : ℕ) → occupied p g ≡ true → place_in p.pages p.records g ≢ x
  unfolding absent
  absent-of x t g o = eqb-false _ x (not-true _ (use⇒ _ _ (every_true _ _ t g (occupied-lt p g o)) o))

  single_of : numbers_once p fs ≡ true → (f k g j : ℕ) → occupied p f ≡ true → k < 16 → occupied p g ≡ true → j < 16 → store_in p.records f ≡ store_in p.records g
      → name fs f k ≢ 0 → Number (name fs f k) → name fs f k ≡ name fs g j → (f ≡ g) × (k ≡ j)
  unfolding numbers_once
  single_of t f k g j of hk og hj s n l e =
      let others = use⇒ _ _ (every_true 16 _ (use⇒ _ _ (every_true _ _ t f (occupied-lt p f of)) of) k hk) (gives-page _ l n) in
      let a = and-true (eqb f g) (eqb k j) (use⇒ _ _ (every_true 16 _ (use⇒ _ _ (every_true _ _ others g (occupied-lt p g og)) (both _ _ og (eq-eqb _ _ s))) j hj) (eq-eqb _ _ e)) in
      (eqb-true f g a.0, eqb-true k j a.1)

  reach_of : all_reach_root p ≡ true → (f : ℕ) → occupied p f ≡ true → reaches_root p p.count f ≡ true
  unfolding all_reach_root
  reach_of t f o = use⇒ _ _ (every_true _ _ t f (occupied-lt p f o)) o

  ceiling-of : ceilings_hold p ≡ true → (t : ℕ) → t < p.stores → held p t ≤ ceiling_of p t
  unfolding ceilings_hold
  ceiling-of e t l = leb-true _ _ (every_true p.stores _ e t l)

  hand_of : hand_in_range p ≡ true → p.hand.0 < p.count
  unfolding hand_in_range
  hand_of t = ltb-true _ _ t

  pub facts : agree p fs ≡ true → Agreed p fs
  unfolding agree
  facts t =
      let a = and-true (roots_in_place p) _ t in
      let b = and-true (pages_apart p) _ a.1 in
      let c = and-true (hand_in_range p) _ b.1 in
      let d = and-true (all_in_range p) _ c.1 in
      let e = and-true (empty_blank p) _ d.1 in
      let g = and-true (parents_name p fs) _ e.1 in
      let u = and-true (stores_agree p) _ g.1 in
      let h = and-true (swizzled_point_back p fs) _ u.1 in
      let i = and-true (numbers_absent p fs) _ h.1 in
      let j = and-true (numbers_once p fs) _ i.1 in
      let m = and-true (all_reach_root p) (ceilings_hold p) j.1 in
      let r = root-of a.0 in
      record {
        root = λ t l. (r t l).0;
        root_page = λ t l. (r t l).1;
        root_store = λ t l. (r t l).2;
        root_parent = λ t l. (r t l).3;
        root_slot = λ t l. (r t l).4;
        apart = once-of b.0;
        hand = hand_of c.0;
        in_range = range-of d.0;
        blank = blank_of e.0;
        parent = λ f o n. (parent-of g.0 f o n).0;
        parent_word = λ f o n. (parent-of g.0 f o n).1;
        parent_store = store_of u.0;
        back = swizzled-of h.0;
        below = λ f k o q l n. (number_of i.0 f k o q l n).0;
        away = λ f k o q l n. absent-of _ (number_of i.0 f k o q l n).1;
        once = single_of j.0;
        reach = reach_of m.0;
        ceilings = ceiling-of m.1;
      }

  -- ---- from the facts to the test
  module _ (A : Agreed p fs) where
    is-root : roots_in_place p ≡ true
    unfolding roots_in_place root_in_place
    is-root = true-every _ _ (λ t l. both _ _ (A.root t l) (both _ _ (eq-eqb _ 0 (A.root_page t l)) (both _ _ (eq-eqb _ t (A.root_store t l)) (both _ _ (eq-eqb _ 0 (A.root_parent t l)) (eq-eqb _ 0 (A.root_slot t l))))))

    is-once : pages_apart p ≡ true
    unfolding pages_apart
    is-once = true-every _ _ (λ f l. true-every _ _ (λ g m. make⇒ _ _ (λ t.
        let a = and-true (occupied p f) _ t in
        let b = and-true (occupied p g) _ a.1 in
        eq-eqb f g (A.apart f g a.0 b.0 (eqb-true _ _ b.1)))))

    is-ranges : all_in_range p ≡ true
    unfolding all_in_range
    is-ranges = true-every record_count _ (λ f l. of_range p _ (A.in_range f l))

    is-blanks : empty_blank p ≡ true
    unfolding empty_blank
    is-blanks = true-every 64 _ (λ f l. make⇒ _ _ (λ o. A.blank f l (not-true _ o)))

    is-parents : parents_name p fs ≡ true
    unfolding parents_name
    is-parents = true-every _ _ (λ f l. make⇒ _ _ (λ t.
        let a = and-true (occupied p f) _ t in
        let n = ltb-false f p.stores (not-true _ a.1) in
        both _ _ (A.parent f a.0 n) (eq-eqb _ _ (A.parent_word f a.0 n))))

    is-stores : stores_agree p ≡ true
    unfolding stores_agree
    is-stores = true-every _ _ (λ f l. make⇒ _ _ (λ t.
        let a = and-true (occupied p f) _ t in
        eq-eqb _ _ (A.parent_store f a.0 (ltb-false f p.stores (not-true _ a.1)))))

    is-swizzled : swizzled_point_back p fs ≡ true
    unfolding swizzled_point_back
    is-swizzled = true-every _ _ (λ f l. make⇒ _ _ (λ o. true-every 16 _ (λ k h. make⇒ _ _ (λ t.
        of-points p _ f k (A.back f k o h (number-no (name fs f k) (not-true _ t)))))))

    is-absent : (x : ℕ) → ((g : ℕ) → occupied p g ≡ true → place_in p.pages p.records g ≢ x) → absent p x ≡ true
    unfolding absent
    is-absent x h = true-every _ _ (λ g l. make⇒ _ _ (λ o. ap not (ne_eqb _ x (h g o))))

    number-or : (b : Bool) (x : ℕ) → (x ≢ 0 → b ≡ true) → (eqb x 0 or b) ≡ true
    number-or b x h = elim (case (eqb x 0)) [ on e ↦ or_left b e | off e ↦ or_right (eqb x 0) (h (eqb-false x 0 e)) ]

    is-numbers : numbers_absent p fs ≡ true
    unfolding numbers_absent
    is-numbers = true-every _ _ (λ f l. make⇒ _ _ (λ o. true-every 16 _ (λ k h. make⇒ _ _ (λ t.
        let w : Number (name fs f k) = number-yes (name fs f k) t in
        number-or _ (name fs f k) (λ n. both _ _ (lt-ltb _ _ (A.below f k o h w n)) (is-absent _ (A.away f k o h w n)))))))

    is-single : numbers_once p fs ≡ true
    unfolding numbers_once
    is-single = true-every _ _ (λ f lf. make⇒ _ _ (λ of. true-every 16 _ (λ k hk. make⇒ _ _ (λ t. true-every _ _ (λ g lg. make⇒ _ _ (λ u. true-every 16 _ (λ j hj. make⇒ _ _ (λ e.
        let a = and-true (occupied p g) _ u in
        let d = page-given (name fs f k) t in
        let r = A.once f k g j of hk a.0 hj (eqb-true _ _ a.1) d.1 d.0 (eqb-true _ _ e) in
        both _ _ (eq-eqb f g r.0) (eq-eqb k j r.1)))))))))

    is-rooted : all_reach_root p ≡ true
    unfolding all_reach_root
    is-rooted = true-every _ _ (λ f l. make⇒ _ _ (λ o. A.reach f o))

    is-ceilings : ceilings_hold p ≡ true
    unfolding ceilings_hold
    is-ceilings = true-every _ _ (λ t l. le-leb _ _ (A.ceilings t l))

    is-hand : hand_in_range p ≡ true
    unfolding hand_in_range
    is-hand = lt-ltb _ _ A.hand

    pub tests : agree p fs ≡ true
    unfolding agree
    tests =
        both _ _ is-root (both _ _ is-once (both _ _ is-hand (both _ _ is-ranges (both _ _ is-blanks (both _ _ is-parents (both _ _ is-stores
        (both _ _ is-swizzled (both _ _ is-numbers (both _ _ is-single (both _ _ is-rooted is-ceilings))))))))))
