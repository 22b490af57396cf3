-- What the invariant says of a state without the map and the balance. It passes rules 1 and 2, and whatever passes them is so. Assumes nothing.
use Prim.Native.Nat.{ℕ, zero, suc, ◌+◌, ◌*◌, ◌<◌, ◌≤◌}
use Rattle.std.specs.Prelude.{◌≡◌, refl, ◌≢◌, true, false, List, ◌∷◌, eqb, length}
use Rattle.std.proofs.Common.{sym, ◌∙◌, ap, arith, mul-le-mul, eqb-true, ltb-true}
use Rattle.std.proofs.Math.Decide.{ℕ_discrete, dec_lt}
use Rattle.std.proofs.Math.ListN.{get_or-eq_default}
use Rattle.page.specs.Figures.{record_count, slot_count}
use Rattle.page.specs.Word.{frame_in, frame_word, Number, Swizzled}
use Rattle.page.specs.Page.{name}
use Rattle.page.specs.StorePlaces.{store_place}
use Rattle.page.proofs.StorePlaceLaws.{store-room, place-lt, place-inj}
use Rattle.page.specs.Octets.{Octets}
use Rattle.machine.specs.declared.FrameRecord.{FrameRecord}
use Rattle.rules.specs.Tests.{◌and◌, Rule, first_broken}
use Rattle.rules.specs.TestLaws.{clash, case, on, off, is-off, and-true, both, or-second, kept_then}
use Rattle.machine.specs.Machine.{State, is_used, is_root, record_at, store_in, occupied, blank, frame_index, store_number, page_number}
use Rattle.machine.specs.Agreement.{parent_of, is_blank, reaches_root}
use Rattle.machine.proofs.Laws.Parents.{climb, climb-reach}
use Rattle.machine.proofs.Laws.AgreementFacts.{occupied-lt, occupied-used, make-occupied, Points, InRange, Agreed, tests}
use Rattle.machine.specs.Directory.{chains_agree}
use Rattle.machine.proofs.Laws.DirectoryFacts.{chains-tests}
use Rattle.machine.specs.Rules.{lengths_fit, stores_fit, rule1, rule2}
use Rattle.machine.proofs.Laws.Ready.{Kept, of-lengths, of-stores, of-directory}
use Rattle.machine.proofs.Theorem.Lift.{most_places, lift, lift-same, lift-zero, lift-number, lift-frame, frame-lift, lift-low}
use Rattle.machine.proofs.Theorem.View.{view, Reach, top, via, Occupied, Parent, Child}
use Rattle.machine.proofs.Theorem.Invariant.{NeatRecord, Fit}
use Rattle.machine.proofs.Theorem.FrameReads.{root-store, root-number, up-store, frame-read, read_number, nothing_read, word_below, word-placed, child-of}
use Rattle.machine.proofs.Theorem.Holders.{occupied-of, of-occupied}
use Rattle.machine.proofs.Theorem.RecordChange.{neat-blank}

-- ---- it passes rules 1 and 2

-- a blank record passes its test
blank-is : (r : FrameRecord) → r ≡ blank → is_blank r ≡ true
unfolding is_blank ◌and◌
blank-is r e = rw e refl

module _ (s : State) (I : Fit s) where
  -- a record that is no occupied frame's is blank
  pub fit-blank : (f : ℕ) → occupied s.pool f ≡ false → record_at s.pool.records f ≡ blank
  fit-blank f t = elim (dec_lt f s.pool.count) [
    | yes l ↦ (I.neat.at f).empty (is-off _ (λ u. clash (sym (make-occupied _ f l u) ∙ t)))
    | no l ↦ (I.neat.at f).empty (I.neat.beyond f (omega arith))
  ]

  -- ---- rule 2
  blank-range : (r : FrameRecord) → r ≡ blank → InRange s.pool r
  blank-range r e = rw e (record { page = I.sized.some; store = I.stores.some; pins = omega arith; usage = omega arith; parent = omega (arith, I.shape.least); slot = omega arith; used = omega arith; dirty = omega arith })

  root-range : (f : ℕ) → f < s.pool.stores → InRange s.pool (record_at s.pool.records f)
  root-range f l =
      let N : NeatRecord s.pool.stores s.pool.pages f (record_at s.pool.records f) = I.neat.at f in
      record { page = N.number; store = N.store; pins = N.pins; usage = N.usage; parent = rw (N.root_parent l) (omega (arith, I.shape.least)); slot = rw (N.root_slot l) (omega arith); used = N.used; dirty = N.dirty }

  other-range : (f : ℕ) → Occupied (view s) f → s.pool.stores ≤ f → InRange s.pool (record_at s.pool.records f)
  other-range f o n =
      let N : NeatRecord s.pool.stores s.pool.pages f (record_at s.pool.records f) = I.neat.at f in
      let P : Parent (view s) f = I.shape.parent f o n in
      record { page = N.number; store = N.store; pins = N.pins; usage = N.usage; parent = P.occupied.lt; slot = P.in_page; used = N.used; dirty = N.dirty }

  in-ranges : (f : ℕ) → InRange s.pool (record_at s.pool.records f)
  in-ranges f = elim (case (occupied s.pool f)) [
    | off t ↦ blank-range _ (fit-blank f t)
    | on t ↦ elim (dec_lt f s.pool.stores) [ yes l ↦ root-range f l | no l ↦ other-range f (occupied-of s f t) (omega arith) ]
  ]

  points : (f k : ℕ) → Occupied (view s) f → k < slot_count → Swizzled (name s.frames f k) → Points s.pool (frame_in (name s.frames f k)) f k
  points f k o h l =
      let C : Child (view s) f k (frame_in (name s.frames f k)) = child-of s I f k o h (frame_in (name s.frames f k)) (omega arith) in
      record { at = of-occupied s _ C.occupied; other = C.not_root; parent = C.back; parent_slot = C.back_slot }

  parents-below : (f : ℕ) → f < s.pool.count → parent_of s.pool f < s.pool.count
  parents-below f l = (in-ranges f).parent

  steps : (f : ℕ) → Reach (view s) f → (n : ℕ) × (climb (parent_of s.pool) n f < s.pool.stores)
  unfolding climb
  steps f (top l) = (0, l)
  steps f (via r) = let a = steps (parent_of s.pool f) r in (suc a.0, a.1)

  -- a number in a frame isn't that of a page in another; and it is there once in its store
  numbers-away : (f k : ℕ) → Occupied (view s) f → k < slot_count → Number (name s.frames f k) → name s.frames f k ≢ 0 → (g : ℕ) → Occupied (view s) g
      → (view s).page g ≢ store_place s.pool.pages (store_in s.pool.records f) (name s.frames f k)
  numbers-away f k o h l n g og e =
      I.shape.number_absent f k o h (read_number s I f k l) (λ z. n (nothing_read s I f k z)) g og (e ∙ sym (word-placed s I f k o h l n))

  numbers-once : (f k g j : ℕ) → Occupied (view s) f → k < slot_count → Occupied (view s) g → j < slot_count → store_in s.pool.records f ≡ store_in s.pool.records g
      → name s.frames f k ≢ 0 → Number (name s.frames f k) → name s.frames f k ≡ name s.frames g j → (f ≡ g) × (k ≡ j)
  numbers-once f k g j a hk b hj t n l e =
      I.shape.once f k g j a hk b hj (lift-same s.pool.pages _ _ _ _ t e) (λ z. n (nothing_read s I f k z)) (read_number s I f k l)

  pub fit-agreed : Agreed s.pool s.frames
  fit-agreed = record {
    root = λ t l. of-occupied s t (I.shape.root t l);
    root_page = root-number s I;
    root_store = root-store s I;
    root_parent = λ t l. (I.neat.at t).root_parent l;
    root_slot = λ t l. (I.neat.at t).root_slot l;
    apart = λ f g of og e. I.shape.apart f g (occupied-of s f of) (occupied-of s g og) e;
    hand = I.neat.hand;
    in_range = λ f l. in-ranges f;
    blank = λ f l t. blank-is _ (fit-blank f t);
    parent = λ f o n. of-occupied s _ (I.shape.parent f (occupied-of s f o) n).occupied;
    parent_word = λ f o n. frame-read s I _ _ f (I.shape.parent f (occupied-of s f o) n).names;
    parent_store = λ f o n. up-store s I f (occupied-of s f o) n;
    back = λ f k o h l. points f k (occupied-of s f o) h l;
    below = λ f k o h l n. word_below s I f k (occupied-of s f o) h l;
    away = λ f k o h l n g og. numbers-away f k (occupied-of s f o) h l n g (occupied-of s g og);
    once = λ f k g j of hk og hj t n l e. numbers-once f k g j (occupied-of s f of) hk (occupied-of s g og) hj t n l e;
    reach = λ f o. climb-reach s.pool s.pool.count parents-below f (occupied-lt _ f o) (steps f (I.shape.reach f (occupied-of s f o)));
    ceilings = I.by_store.ceilings;
  }

  -- ---- rule 1
  pub fit-lengths : lengths_fit s.pool.count s.pool.pages s.pool.stores s.frames s.store ≡ true
  fit-lengths = of-lengths _ _ _ _ _ I.sized

  pub fit-stores : stores_fit s.pool.count s.pool.stores s.pool.ceilings ≡ true
  fit-stores = of-stores _ _ _ I.stores

  -- what rule 2 asks of the directory
  pub fit-chains : chains_agree s.pool s.directory ≡ true
  fit-chains = chains-tests s.pool I.shape.most s.directory I.chained

  -- rules 1 and 2 are never broken, so that those after them decide
  pub fit-unbroken : (rs : List Rule) → first_broken (rule1 s ∷ rule2 s ∷ rs) ≡ first_broken rs
  fit-unbroken rs = kept_then 1 _ (both _ _ fit-lengths (both _ _ fit-stores (of-directory _ I.directory))) ∙ kept_then 2 rs (both _ _ (tests _ _ fit-agreed) fit-chains)

-- ---- what passes rules 1 and 2 is one

record-ext : (r : FrameRecord) → r.used ≡ 0 → r.dirty ≡ 0 → r.usage ≡ 0 → r.slot ≡ 0 → r.parent.0 ≡ 0 → r.store.0 ≡ 0 → r.pins ≡ 0 → r.page.0 ≡ 0 → r ≡ blank
record-ext r a b c d e f g h = made r.used r.dirty r.usage r.slot r.parent.0 r.store.0 r.pins r.page.0 a b c d e f g h
  where
    made : (u y h k p t n q : ℕ) → u ≡ 0 → y ≡ 0 → h ≡ 0 → k ≡ 0 → p ≡ 0 → t ≡ 0 → n ≡ 0 → q ≡ 0
        → ◌≡◌ {A = FrameRecord} (record { used = u; dirty = y; usage = h; slot = k; parent = frame_index p; store = store_number t; pins = n; page = page_number q }) blank
    made u y h k p t n q a b c d e f g i = rw (a, b, c, d, e, f, g, i) refl

is-blank : (r : FrameRecord) → is_blank r ≡ true → r ≡ blank
unfolding is_blank
is-blank r t =
    let a = and-true (eqb r.used 0) _ t in
    let b = and-true (eqb r.dirty 0) _ a.1 in
    let c = and-true (eqb r.usage 0) _ b.1 in
    let d = and-true (eqb r.slot 0) _ c.1 in
    let e = and-true (eqb r.parent.0 0) _ d.1 in
    let g = and-true (eqb r.store.0 0) _ e.1 in
    let f = and-true (eqb r.pins 0) _ g.1 in
    record-ext r (eqb-true _ 0 a.0) (eqb-true _ 0 b.0) (eqb-true _ 0 c.0) (eqb-true _ 0 d.0) (eqb-true _ 0 e.0) (eqb-true _ 0 g.0) (eqb-true _ 0 f.0) (eqb-true _ 0 f.1)

module _ (s : State) (n : length s.pool.records ≡ record_count) (o : Octets s.frames) (K : Kept s) where
  abbrev A : Agreed s.pool s.frames
  A = K.agreed

  beyond-blank : (f : ℕ) → record_count ≤ f → record_at s.pool.records f ≡ blank
  beyond-blank f l = get_or-eq_default s.pool.records blank (omega arith)

  empty-blank : (f : ℕ) → occupied s.pool f ≡ false → record_at s.pool.records f ≡ blank
  empty-blank f t = elim (dec_lt f record_count) [ yes l ↦ is-blank _ (A.blank f l t) | no l ↦ beyond-blank f (omega arith) ]

  abbrev N : ℕ
  N = s.pool.pages

  abbrev T : ℕ
  T = s.pool.stores

  abbrev rs : List FrameRecord
  rs = s.pool.records

  neat-record : (f : ℕ) → NeatRecord T N f (record_at rs f)
  neat-record f = elim (dec_lt f record_count) [
    | no l ↦ rw (beyond-blank f (omega arith)) (neat-blank T N f K.stores.some K.sized.some)
    | yes l ↦ record {
      number = (A.in_range f l).page;
      store = (A.in_range f l).store;
      used = (A.in_range f l).used;
      dirty = (A.in_range f l).dirty;
      usage = (A.in_range f l).usage;
      pins = (A.in_range f l).pins;
      empty = λ u. empty-blank f (is-off _ (λ t. clash (sym (occupied-used s.pool f t) ∙ u)));
      root_parent = λ z. A.root_parent f z;
      root_slot = λ z. A.root_slot f z;
    }
  ]

  range : (f : ℕ) → Occupied (view s) f → InRange s.pool (record_at rs f)
  range f u = A.in_range f (omega (arith, u.lt, K.sized.most))

  -- ---- the view's words, which name places

  few : N * T ≤ most_places
  few = mul-le-mul K.sized.pages K.stores.most

  some-place : 0 < N * T
  some-place = omega (arith, place-lt N 0 T 0 K.stores.some K.sized.some)

  fits : (f : ℕ) → Occupied (view s) f → N * store_in rs f + N ≤ N * T
  fits f u = store-room N (store_in rs f) T (range f u).store

  points-child : (f k g : ℕ) → Occupied (view s) f → k < slot_count → (view s).word f k ≡ frame_word g → Child (view s) f k g
  points-child f k g u hk q =
      let e : name s.frames f k ≡ frame_word g = lift-frame N (store_in rs f) (N * T) (fits f u) few (name s.frames f k) g q in
      let i : frame_in (name s.frames f k) ≡ g = omega arith in
      let P : Points s.pool g f k = rw i at (A.back f k (of-occupied s f u) hk (omega arith)) in
      record { occupied = occupied-of s g P.at; not_root = P.other; back = P.parent; back_slot = P.parent_slot }

  -- a number is one below N of the frame's store, read as its place
  record Placed (f k : ℕ) : Type 0 where
    number : Number (name s.frames f k)
    some : name s.frames f k ≢ 0
    below : name s.frames f k < N
    place : (view s).word f k ≡ store_place N (store_in rs f) (name s.frames f k)

  is-placed : (f k : ℕ) → Occupied (view s) f → k < slot_count → Number ((view s).word f k) → (view s).word f k ≢ 0 → Placed f k
  is-placed f k u hk l z =
      let t : ℕ = store_in rs f in
      let w : ℕ = name s.frames f k in
      let h : Number w = lift-low N t (N * T) (fits f u) few w l in
      let n : w ≢ 0 = λ y. z (ap (lift N t) y ∙ lift-zero N t) in
      let b : w < N = A.below f k (of-occupied s f u) hk h n in
      record { number = h; some = n; below = b; place = lift-number N t w n b }

  numbers-lt : (f k : ℕ) → Occupied (view s) f → k < slot_count → Number ((view s).word f k) → (view s).word f k < N * T
  numbers-lt f k u hk l = elim (ℕ_discrete ((view s).word f k) 0) [
    | yes z ↦ omega (arith, some-place)
    | no z ↦ let P : Placed f k = is-placed f k u hk l z in rw P.place (place-lt N (store_in rs f) T _ (range f u).store P.below)
  ]

  numbers-single : (f k g j : ℕ) → Occupied (view s) f → k < slot_count → Occupied (view s) g → j < slot_count → (view s).word f k ≡ (view s).word g j → (view s).word f k ≢ 0 → Number ((view s).word f k)
      → (f ≡ g) × (k ≡ j)
  numbers-single f k g j a hk b hj e z l =
      let P : Placed f k = is-placed f k a hk l z in
      let Q : Placed g j = is-placed g j b hj (rw (← e) l) (λ y. z (e ∙ y)) in
      let i = place-inj N _ _ _ _ P.below Q.below (sym P.place ∙ e ∙ Q.place) in
      A.once f k g j (of-occupied s f a) hk (of-occupied s g b) hj i.0 P.some P.number i.1

  reached : (m f : ℕ) → reaches_root s.pool m f ≡ true → Reach (view s) f
  unfolding reaches_root
  reached zero f t = top {f = f} (ltb-true f T t)
  reached (suc m) f t = elim (case (is_root T f)) [ on e ↦ top {f = f} (ltb-true f T e) | off e ↦ via {f = f} (reached m (parent_of s.pool f) (or-second (is_root T f) _ t e)) ]

  pub fit-kept : Fit s
  fit-kept = record {
    sized = K.sized;
    stores = K.stores;
    records = n;
    neat = record {
      hand = A.hand;
      at = neat-record;
      beyond = λ f l. ap is_used (empty-blank f (is-off _ (λ t. omega (arith, occupied-lt s.pool f t))));
    };
    by_store = record { child = λ f l u b. A.parent_store f (make-occupied s.pool f l u) b; ceilings = A.ceilings };
    frame_octets = o;
    shape = record {
      least = K.sized.least;
      most = K.sized.most;
      some = some-place;
      pages = few;
      some_roots = K.stores.some;
      root = λ f l. occupied-of s f (A.root f l);
      root_page = λ f l. rw (A.root_store f l, A.root_page f l) (omega arith);
      page_lt = λ f u. place-lt N _ T _ (range f u).store (range f u).page;
      apart = λ f g a b e. A.apart f g (of-occupied s f a) (of-occupied s g b) e;
      parent = λ f u l. record {
        occupied = occupied-of s _ (A.parent f (of-occupied s f u) l);
        in_page = (range f u).slot;
        names = let p : ℕ = parent_of s.pool f in
            frame-lift N (store_in rs p) (N * T) (fits p (occupied-of s p (A.parent f (of-occupied s f u) l))) few _ f (A.parent_word f (of-occupied s f u) l);
      };
      child = points-child;
      number_lt = numbers-lt;
      number_absent = λ f k u hk l z g b e. let P : Placed f k = is-placed f k u hk l z in A.away f k (of-occupied s f u) hk P.number P.some g (of-occupied s g b) (e ∙ P.place);
      once = numbers-single;
      reach = λ f u. reached s.pool.count f (A.reach f (of-occupied s f u));
    };
    directory = K.directory;
    chained = K.chained;
  }
