-- An accepted open over T sound stores: the invariant's start.
use Rattle.std.specs.Prelude.{◌≡◌, ◌≢◌, true, not, List, eqb}
use Rattle.std.proofs.Math.Path.{refl, sym}
use Rattle.std.proofs.Common.{ap, ◌∙◌, arith, mul-le-mul, ltb-true, eqb-true, eq-eqb, ne_eqb}
use Prim.Native.Nat.{ℕ, zero, suc, ◌*◌, ◌/◌, ◌%◌, ◌≤◌, ◌<◌}
use Rattle.std.proofs.Math.Decide.{ℕ_discrete, dec_lt}
use Rattle.std.proofs.Math.ListN.{length}
use Rattle.page.specs.Figures.{page_size, slot_count, record_count}
use Rattle.page.specs.Word.{is_marked, name_of}
use Rattle.page.specs.Page.{slot, name, lock, byte, page_of, page_of-length, put_page-length, slot-put_page-same, slot-put_page-other, byte-put_page-same, byte-put_page-other, slot-page_of, byte-page_of, byte-first}
use Rattle.page.specs.StorePlaces.{store_place}
use Rattle.page.proofs.StorePlaceLaws.{store-room, place-lt, place-store, place-inj, place-split}
use Rattle.page.specs.Octets.{Octets, octets-put_page, octets-page_of}
use Rattle.machine.specs.declared.FrameRecord.{FrameRecord}
use Rattle.rules.specs.TestLaws.{clash, and-true, use⇒, every_true}
use Rattle.machine.specs.Machine.{State, root_record, root_records, is_used, is_dirty, record_at, opened_pool}
use Rattle.machine.specs.Soundness.{stored_name, words_below, words_once, sound_store, sound}
use Rattle.machine.specs.Rules.{frames_in, pages_of_each, lengths_fit, stores_fit}
use Rattle.machine.specs.Calls.{root_frames, opened}
use Rattle.machine.proofs.Laws.Ready.{Lengths, Stores, lengths-of, stores-of}
use Rattle.machine.proofs.Laws.RootRecords.{roots-length, root-record, other-record}
use Rattle.machine.proofs.Laws.HeldLaws.{held-opened}
use Rattle.machine.specs.History.{start}
use Rattle.machine.proofs.Laws.PlainLaws.{plain-low}
use Rattle.machine.proofs.Theorem.Lift.{most_places, lift, lift-same, lift-zero, lift-number, lift-lt}
use Rattle.machine.proofs.Theorem.View.{View, view, top, Occupied, Shape, Content, MapSound}
use Rattle.machine.proofs.Theorem.Invariant.{Neat, ByStore, Invariant, map_view}
use Rattle.chains.specs.Chain.{bucket_of, opened_directory}
use Rattle.machine.proofs.Laws.AgreementFacts.{make-occupied}
use Rattle.machine.proofs.Laws.DirectoryFacts.{home_of, home-on, home_off}
use Rattle.machine.proofs.Theorem.Chains.{unused-empty, opened-size, opened-chained}
use Rattle.machine.proofs.Theorem.RecordChange.{neat-blank}

-- ---- rule 16, as facts of the maps

below_of : (st : List ℕ) (N t : ℕ) → words_below st N t ≡ true → (p k : ℕ) → p < N → k < slot_count → stored_name st N t p k < N
unfolding words_below
below_of st N t e p k hp hk = ltb-true _ N (every_true slot_count _ (every_true N _ e p hp) k hk)

once-of : (st : List ℕ) (N t : ℕ) → words_once st N t ≡ true → (p k q j : ℕ) → p < N → k < slot_count → q < N → j < slot_count → stored_name st N t p k ≢ 0 → stored_name st N t p k ≡ stored_name st N t q j
    → (p ≡ q) × (k ≡ j)
unfolding words_once
once-of st N t s p k q j hp hk hq hj n e =
    let others = use⇒ _ _ (every_true slot_count _ (every_true N _ s p hp) k hk) (ap not (ne_eqb _ 0 n)) in
    let a = and-true (eqb p q) (eqb k j) (use⇒ _ _ (every_true slot_count _ (every_true N _ others q hq) j hj) (eq-eqb _ _ e)) in
    (eqb-true p q a.0, eqb-true k j a.1)

module _ (st : List ℕ) (N T : ℕ) (few : N * T ≤ most_places) (some : 0 < N) (ok : sound st N T ≡ true) where
  parts : (t : ℕ) → t < T → (words_below st N t ≡ true) × (words_once st N t ≡ true)
  unfolding sound sound_store
  parts t l = and-true (words_below st N t) (words_once st N t) (every_true T _ ok t l)

  -- a word at any place is a number of its store, once in it
  number_lt_lem : (p k : ℕ) → p < N * T → k < slot_count → name st p k < N
  number_lt_lem p k hp hk =
      let c = place-split N T p hp in
      rw c.2 at (below_of st N (p / N) (parts (p / N) c.0).0 (p % N) k c.1 hk)

  number-once : (p k q j : ℕ) → p < N * T → k < slot_count → q < N * T → j < slot_count → p / N ≡ q / N → name st p k ≢ 0 → name st p k ≡ name st q j → (p ≡ q) × (k ≡ j)
  number-once p k q j hp hk hq hj s n e =
      let c = place-split N T p hp in
      let d = place-split N T q hq in
      let here : store_place N (p / N) (q % N) ≡ q = ap (λ (t : ℕ). store_place N t (q % N)) s ∙ d.2 in
      let r = once-of st N (p / N) (parts (p / N) c.0).1 (p % N) k (q % N) j c.1 hk d.1 hj
      (λ z. n (ap (λ (y : ℕ). name st y k) (sym c.2) ∙ z)) (ap (λ (y : ℕ). name st y k) c.2 ∙ e ∙ ap (λ (y : ℕ). name st y j) (sym here)) in
      (sym c.2 ∙ ap (store_place N (p / N)) r.0 ∙ here, r.1)

  -- where it names something, it is read as its place
  some_word : (p k : ℕ) → lift N (p / N) (name st p k) ≢ 0 → name st p k ≢ 0
  some_word p k n z = n (ap (lift N (p / N)) z ∙ lift-zero N (p / N))

  read : (p k : ℕ) → p < N * T → k < slot_count → name st p k ≢ 0 → lift N (p / N) (name st p k) ≡ store_place N (p / N) (name st p k)
  read p k hp hk n = lift-number N (p / N) (name st p k) n (number_lt_lem p k hp hk)

  sound-map : MapSound (map_view N st) (N * T) T N
  sound-map = record {
    below = λ p k hp hk. lift-lt N (p / N) (N * T) (store-room N (p / N) T (place-split N T p hp).0) few (name st p k) (number_lt_lem p k hp hk);
    once = λ p k q j hp hk hq hj n e.
        let a = some_word p k n in
        let b = some_word q j (λ z. n (e ∙ z)) in
        let s = place-inj N (p / N) (name st p k) (q / N) (name st q j) (number_lt_lem p k hp hk) (number_lt_lem q j hq hj) (sym (read p k hp hk a) ∙ e ∙ read q j hq hj b) in
        number-once p k q j hp hk hq hj s.0 a s.1;
    not_root = λ p k hp hk n u l e.
        let a = some_word p k n in
        a (place-inj N (p / N) (name st p k) u 0 (number_lt_lem p k hp hk) some (sym (read p k hp hk a) ∙ e ∙ omega arith)).1;
  }

-- ---- the frames that open makes

module _ (N T F : ℕ) (fs st : List ℕ) (lf : length fs ≡ page_size * F) (ls : length st ≡ page_size * (N * T)) (some : 0 < N) (room : T ≤ F) where
  -- page 0 of store t
  abbrev first : ℕ → List ℕ
  first t = page_of st (store_place N t 0)

  first-length : (t : ℕ) → t < T → length (first t) ≡ page_size
  first-length t l = page_of-length st (store_place N t 0) (N * T) ls (place-lt N t T 0 l some)

  frames-length : (n : ℕ) → n ≤ T → length (root_frames N fs st n) ≡ length fs
  unfolding root_frames
  frames-length zero h = refl
  frames-length (suc n) h = put_page-length (root_frames N fs st n) n (first n) F (frames-length n (omega arith) ∙ lf) (first-length n h) (omega arith) ∙ frames-length n (omega arith)

  frames-octets : Octets fs → Octets st → (n : ℕ) → Octets (root_frames N fs st n)
  unfolding root_frames
  frames-octets of os zero = of
  frames-octets of os (suc n) = octets-put_page (root_frames N fs st n) n (first n) (frames-octets of os n) (octets-page_of st (store_place N n 0) os)

  frame-slot : (n : ℕ) → n ≤ T → (g k : ℕ) → g < n → k < slot_count → slot (root_frames N fs st n) g k ≡ slot st (store_place N g 0) k
  unfolding root_frames
  frame-slot zero h g k l hk = absurd (omega arith)
  frame-slot (suc n) h g k l hk =
      let len : length (root_frames N fs st n) ≡ page_size * F = frames-length n (omega arith) ∙ lf in
      elim (ℕ_discrete g n) [
        | yes z ↦ rw z (slot-put_page-same (root_frames N fs st n) n (first n) F k len (first-length n h) (omega arith) hk ∙ slot-page_of st (store_place N n 0) k hk)
        | no z ↦ slot-put_page-other (root_frames N fs st n) n (first n) F g k len (first-length n h) (omega arith) (λ y. z (sym y)) hk ∙ frame-slot n (omega arith) g k (omega arith) hk
      ]

  frame_byte_lem : (n : ℕ) → n ≤ T → (g i : ℕ) → g < n → i < page_size → byte (root_frames N fs st n) g i ≡ byte st (store_place N g 0) i
  unfolding root_frames
  frame_byte_lem zero h g i l hi = absurd (omega arith)
  frame_byte_lem (suc n) h g i l hi =
      let len : length (root_frames N fs st n) ≡ page_size * F = frames-length n (omega arith) ∙ lf in
      elim (ℕ_discrete g n) [
        | yes z ↦ rw z (byte-put_page-same (root_frames N fs st n) n (first n) F i len (first-length n h) (omega arith) hi ∙ sym (byte-first (first n) i) ∙ byte-page_of st (store_place N n 0) i hi)
        | no z ↦ byte-put_page-other (root_frames N fs st n) n (first n) F g i len (first-length n h) (omega arith) (λ y. z (sym y)) hi ∙ frame_byte_lem n (omega arith) g i (omega arith) hi
      ]

-- ---- the invariant

module _ (F N T : ℕ) (ceilings fs st : List ℕ) (of : Octets fs) (os : Octets st) (Z : Lengths F N T fs st) (C : Stores F T ceilings) (ok : sound st N T ≡ true) where
  abbrev s : State
  s = record { pool = opened_pool F N T ceilings; frames = root_frames N fs st T; store = st; directory = opened_directory T }

  abbrev v : View
  v = view s

  places : N * T ≤ most_places
  places = mul-le-mul Z.pages C.most

  roomy : T ≤ record_count
  roomy = omega (arith, C.most)

  in_f : T ≤ F
  in_f = omega (arith, C.below)

  M : MapSound (map_view N st) (N * T) T N
  M = sound-map st N T places Z.some ok

  -- the roots' frames alone are occupied
  only : (g : ℕ) → Occupied v g → g < T
  only g o = elim (dec_lt g T) [ yes l ↦ l | no l ↦ absurd (clash (sym o.on ∙ ap is_used (other-record T g (omega arith)))) ]

  of-root : {A : Type 0} (part : FrameRecord → A) (g : ℕ) → g < T → part (record_at (root_records T) g) ≡ part (root_record g)
  of-root part g l = ap part (root-record T g roomy l)

  page-root : (g : ℕ) → g < T → v.page g ≡ store_place N g 0
  page-root g l = of-root (λ r. store_place N r.store.0 r.page.0) g l

  page-at : (g : ℕ) → g < T → v.page g ≡ N * g
  page-at g l = page-root g l ∙ omega arith

  place_at : (g : ℕ) → g < T → store_place N g 0 < N * T
  place_at g l = place-lt N g T 0 l Z.some

  pins-zero : (g : ℕ) → g < T → v.pins g ≡ 0
  pins-zero g l = of-root (λ r. r.pins) g l

  -- and have the words and bytes of page 0
  slot-zero : (g k : ℕ) → g < T → k < slot_count → slot s.frames g k ≡ slot st (store_place N g 0) k
  slot-zero g k l hk = frame-slot N T F fs st Z.frames Z.store Z.some in_f T (omega arith) g k l hk

  byte-zero : (g i : ℕ) → g < T → i < page_size → byte s.frames g i ≡ byte st (store_place N g 0) i
  byte-zero g i l hi = frame_byte_lem N T F fs st Z.frames Z.store Z.some in_f T (omega arith) g i l hi

  -- the words, read over the buffer, are the map's
  word-map : (g k : ℕ) → g < T → k < slot_count → v.word g k ≡ (map_view N st).map_word (v.page g) k
  word-map g k l hk =
      lift-same N _ (store_place N g 0 / N) _ (name st (store_place N g 0) k) (of-root (λ r. r.store.0) g l ∙ sym (place-store N g 0 Z.some)) (ap name_of (slot-zero g k l hk))
      ∙ ap (λ (p : ℕ). lift N (p / N) (name st p k)) (sym (page-root g l))

  page-lt : (g : ℕ) → g < T → v.page g < N * T
  page-lt g l = rw (page-root g l) (place_at g l)

  word_lt : (g k : ℕ) → g < T → k < slot_count → v.word g k < N * T
  word_lt g k l hk = rw (word-map g k l hk) (M.below (v.page g) k (page-lt g l) hk)

  pages-apart : (f g : ℕ) → f < T → g < T → v.page f ≡ v.page g → f ≡ g
  pages-apart f g a b e = (place-inj N f 0 g 0 Z.some Z.some (sym (page-root f a) ∙ e ∙ page-root g b)).0

  shape : Shape v
  shape = record {
    least = Z.least;
    most = Z.most;
    some = omega (arith, place_at 0 C.some);
    pages = places;
    some_roots = C.some;
    root = λ f l. record { lt = omega (arith, C.below); on = of-root is_used f l };
    root_page = page-at;
    page_lt = λ g o. page-lt g (only g o);
    apart = λ f g a b e. pages-apart f g (only f a) (only g b) e;
    parent = λ g o n. absurd (omega (arith, only g o));
    child = λ f k g o hk e. absurd (omega (arith, word_lt f k (only f o) hk, places));
    number_lt = λ f k o hk l. word_lt f k (only f o) hk;
    number_absent = λ f k o hk l n g og e.
        let w = word-map f k (only f o) hk in
        M.not_root (v.page f) k (page-lt f (only f o)) hk (λ z. n (w ∙ z)) g (only g og) (sym w ∙ sym e ∙ page-at g (only g og));
    once = λ f k g j a hk b hj e n l.
        let w = word-map f k (only f a) hk in
        let r = M.once (v.page f) k (v.page g) j (page-lt f (only f a)) hk (page-lt g (only g b)) hj (λ z. n (w ∙ z)) (sym w ∙ e ∙ word-map g j (only g b) hj) in
        (pages-apart f g (only f a) (only g b) r.0, r.1);
    reach = λ g o. top {f = g} (only g o);
  }

  content : Content v (map_view N st)
  content = record {
    frame_word = λ f k o hk. plain-low v.page _ (omega (arith, word_lt f k (only f o) hk, places)) ∙ word-map f k (only f o) hk;
    frame_mark = λ f k o hk. ap is_marked (slot-zero f k (only f o) hk) ∙ ap (λ (p : ℕ). lock st p k) (sym (page-root f (only f o)));
    frame_byte = λ f i o h l. byte-zero f i (only f o) l ∙ ap (λ (p : ℕ). byte st p i) (sym (page-root f (only f o)));
    absent_word = λ p k hp a hk. refl;
    absent_mark = λ p k hp a hk. refl;
    absent_byte = λ p i hp a h l. refl;
    clean_word = λ f k o d hk. refl;
    clean_mark = λ f k o d hk. refl;
    clean_byte = λ f i o d h l. refl;
    store_plain = λ p k hp hk. omega (arith, M.below p k hp hk, places);
    dirty_free = λ f o d. absurd (clash (sym d ∙ of-root is_dirty f (only f o)));
  }

  opened-neat : Neat (opened_pool F N T ceilings)
  opened-neat = record {
    hand = omega (arith, Z.least);
    at = λ g. elim (dec_lt g T) [
      | yes l ↦ rw (root-record T g roomy l) (record { number = Z.some; store = l; used = omega arith; dirty = omega arith; usage = omega arith; pins = omega arith; empty = λ e. absurd (clash e); root_parent = λ e. refl; root_slot = λ e. refl })
      | no l ↦ rw (other-record T g (omega arith)) (neat-blank T N g C.some Z.some)
    ];
    beyond = λ g h. ap is_used (other-record T g (omega (arith, C.below)));
  }

  opened-stores : ByStore (opened_pool F N T ceilings)
  opened-stores = record {
    child = λ f l u n. absurd (clash (sym u ∙ ap is_used (other-record T f n)));
    ceilings = λ t l. omega (arith, held-opened F N T ceilings t roomy in_f l, C.ceiling_least t l);
  }

  opened-keeps : Invariant (start s)
  opened-keeps = record {
    sized = record {
      least = Z.least;
      most = Z.most;
      some = Z.some;
      pages = Z.pages;
      frames = frames-length N T F fs st Z.frames Z.store Z.some in_f T (omega arith) ∙ Z.frames;
      store = Z.store;
    };
    stores = C;
    records = roots-length T;
    map_length = Z.store;
    neat = opened-neat;
    by_store = opened-stores;
    frame_octets = frames-octets N T F fs st Z.frames Z.store Z.some in_f of os T;
    store_octets = os;
    map_octets = os;
    shape = shape;
    content = content;
    sound = M;
    pins = record { count = λ f o. omega (arith, pins-zero f (only f o)); none = λ p a. refl; place = λ f o n. absurd (n (pins-zero f (only f o))) };
    directory = opened-size T;
    chained = opened-chained T (omega (arith, C.most)) (home_of (opened_pool F N T ceilings))
        (λ f l. home-on (opened_pool F N T ceilings) f (make-occupied (opened_pool F N T ceilings) f (omega (arith, C.below)) (of-root is_used f l)) ∙ of-root (λ r. bucket_of r.page.0) f l)
        (λ f l. home_off (opened_pool F N T ceilings) f (unused-empty (opened_pool F N T ceilings) f (ap is_used (other-record T f l))));
  }

pub open-keeps : (T : ℕ) (ceilings fs st : List ℕ) → Octets fs → Octets st → lengths_fit (frames_in fs) (pages_of_each T st) T fs st ≡ true → stores_fit (frames_in fs) T ceilings ≡ true
    → sound st (pages_of_each T st) T ≡ true → Invariant (start (opened T ceilings fs st))
open-keeps T ceilings fs st of os lengths stores t =
    opened-keeps (frames_in fs) (pages_of_each T st) T ceilings fs st of os (lengths-of _ _ _ fs st lengths) (stores-of _ _ ceilings stores) t
