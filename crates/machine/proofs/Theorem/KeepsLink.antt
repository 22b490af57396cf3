-- A number, with a mark or without, put in place of a number in a resident page that isn't locked keeps the invariant: link and unlink.
use Rattle.std.specs.Prelude.{◌≡◌, refl, ◌≢◌, Bool, false, List, ℕ, ◌*◌, ◌/◌, ◌%◌, ◌<◌, length, set}
use Rattle.std.proofs.Common.{sym, ap, ◌∙◌, arith, length-set}
use Rattle.page.specs.Figures.{page_size, slot_count, word_radix}
use Rattle.page.specs.Word.{Number, is_marked, name_of}
use Rattle.page.specs.Page.{name, put_slot, put_slot-length, slot-put_slot-same, slot-put_slot-page, byte-put_slot}
use Rattle.page.specs.StorePlaces.{store_place}
use Rattle.page.proofs.StorePlaceLaws.{store-room, place-inj, place-split}
use Rattle.page.specs.Octets.{octets-put_slot}
use Rattle.machine.specs.declared.FrameRecord.{FrameRecord}
use Rattle.machine.specs.Machine.{State, is_dirty, record_at, store_in, dirtied}
use Rattle.machine.specs.Calls.{relinked}
use Rattle.machine.specs.History.{Point}
use Rattle.machine.proofs.Theorem.Lift.{lift, lift-same, lift-zero, lift-number, lift-lt, lift-none}
use Rattle.machine.proofs.Theorem.View.{View, view, Occupied, Free, NoRoot}
use Rattle.machine.proofs.Theorem.Invariant.{Fit, fit_of, Invariant, map_view}
use Rattle.machine.proofs.Theorem.FrameReads.{store_below, placed-store, read_number}
use Rattle.machine.proofs.Theorem.Reads.{map_below}
use Rattle.machine.proofs.Theorem.LinkEffect.{LinkedView, MapLinked, Unnamed, link-sound, link-shape, link-content}
use Rattle.machine.proofs.Theorem.PinsEffect.{pins-kept}
use Rattle.machine.proofs.Theorem.SlotChange.{slot-put_slot-other}
use Rattle.machine.proofs.Theorem.Chains.{steady-chained}
use Rattle.machine.proofs.Theorem.RecordChange.{SamePlace, stores-kept, change-places, change-here, change-other, change-same, change-steady, neat-change, neat-place, record-lt, lengths-kept}

-- the maps, N pages each, with the word y, which names n, with the mark l, in slot k of the page at place p, of store t
map-linked : (N t : ℕ) (m : List ℕ) (M p k y n : ℕ) (l : Bool) → name_of y ≡ n → is_marked y ≡ l → p / N ≡ t → length m ≡ page_size * M → p < M → k < slot_count → y < word_radix
    → MapLinked (map_view N m) (map_view N (put_slot m p k y)) M p k (lift N t n) l
map-linked N t m M p k y n l names marks at e hp hk hy = record {
  word = lift-same N _ _ _ _ at (ap name_of (slot-put_slot-same m p k y M e hp hk hy) ∙ names);
  word_page = λ q j hq hj z. lift-same N _ _ _ _ refl (ap name_of (slot-put_slot-page m p k y q j hk hj (λ e. z (sym e))));
  word_slot = λ q j hq hj z. lift-same N _ _ _ _ refl (ap name_of (slot-put_slot-other m p k y q j hk hj z));
  mark = ap is_marked (slot-put_slot-same m p k y M e hp hk hy) ∙ marks;
  mark_page = λ q j hq hj z. ap is_marked (slot-put_slot-page m p k y q j hk hj (λ e. z (sym e)));
  mark_slot = λ q j hq hj z. ap is_marked (slot-put_slot-other m p k y q j hk hj z);
  bytes = λ q i hq h l. byte-put_slot m p k y q i hk h l;
}

-- y: a word of the frame's store that names nothing, or a page n that no word of the store's map names
module _ (x : Point) (I : Invariant x) (f : ℕ) (of : Occupied (view x.now) f) (k y n : ℕ) (l : Bool) (hk : k < slot_count) (low : Number (name x.now.frames f k)) (names : name_of y ≡ n) (marks : is_marked y ≡ l) (bare : n ≡ 0 → l ≡ false) (small : y < word_radix) (n_n : n < x.now.pool.pages)
    (unnamed : n ≢ 0 → (p j : ℕ) → p < x.now.pool.pages → j < slot_count → name x.map (store_place x.now.pool.pages (store_in x.now.pool.records f) p) j ≢ n)
    (free : Free (map_view x.now.pool.pages x.map) (view x.now).N ((view x.now).page f)) where
  abbrev N : ℕ
  N = x.now.pool.pages

  abbrev T : ℕ
  T = x.now.pool.stores

  abbrev t : ℕ
  t = store_in x.now.pool.records f

  abbrev J : Fit x.now
  J = fit_of x I

  -- the place that it names
  abbrev q : ℕ
  q = lift N t n

  old : Number ((view x.now).word f k)
  old = read_number x.now J f k low

  q_n : q < N * T
  q_n = lift-lt N t (N * T) (store-room N t T (store_below x.now J f)) I.shape.pages n n_n

  some-name : q ≢ 0 → n ≢ 0
  some-name z e = z (ap (lift N t) e ∙ lift-zero N t)

  q-is : q ≢ 0 → q ≡ store_place N t n
  q-is z = lift-number N t n (some-name z) n_n

  fresh : Unnamed (map_view N x.map) (N * T) q
  fresh z p j hp hj e =
      let c = place-split N T p hp in
      let w : ℕ = name x.map p j in
      let w_n : w < N = map_below x I p j hp hj in
      let wz : w ≢ 0 = λ y. z (sym e ∙ ap (lift N (p / N)) y ∙ lift-zero N (p / N)) in
      let same = place-inj N (p / N) w t n w_n n_n (sym (lift-number N (p / N) w wz w_n) ∙ e ∙ q-is z) in
      unnamed (some-name z) (p % N) j c.1 hj (ap (λ (u : ℕ). name x.map (store_place N u (p % N)) j) (sym same.0) ∙ ap (λ (u : ℕ). name x.map u j) c.2 ∙ same.1)

  bare-place : q ≡ 0 → l ≡ false
  bare-place z = bare (lift-none N t (N * T) (store-room N t T (store_below x.now J f)) I.shape.pages n z)

  -- a number but 0 is no root's page
  no_root : q ≢ 0 → NoRoot T N q
  no_root z u m e = some-name z (place-inj N t n u 0 n_n I.sized.some (sym (q-is z) ∙ e ∙ omega arith)).1

  abbrev s : State
  s = x.now

  abbrev v : View
  v = view x.now

  abbrev rs : List FrameRecord
  rs = x.now.pool.records

  abbrev r : FrameRecord
  r = dirtied (record_at rs f)

  lt : f < length rs
  lt = record-lt x I f of.lt

  same_place : SamePlace (record_at rs f) r
  same_place = record { used = refl; store = refl; page = refl; parent = refl; slot = refl }

  -- the frames' stores stay
  same_store : (g : ℕ) → store_in (set rs f r) g ≡ store_in rs g
  same_store = (change-places rs f r lt same_place).store

  linked : LinkedView v (view (relinked s f k y)) f k q l
  linked = record {
    steady = change-steady s f r (put_slot s.frames f k y) s.store s.directory lt same_place;
    pins = change-same rs f r (λ t. t.pins) lt refl;
    dirty_f = ap is_dirty (change-here rs f r lt);
    dirty = λ g m. ap is_dirty (change-other rs f r g m);
    word = lift-same N _ _ _ _ (same_store f) (ap name_of (slot-put_slot-same s.frames f k y _ I.sized.frames of.lt hk small) ∙ names);
    word_page = λ g j hg hj m. lift-same N _ _ _ _ (same_store g) (ap name_of (slot-put_slot-page s.frames f k y g j hk hj (λ z. m (sym z))));
    word_slot = λ g j hg hj m. lift-same N _ _ _ _ (same_store g) (ap name_of (slot-put_slot-other s.frames f k y g j hk hj m));
    mark = ap is_marked (slot-put_slot-same s.frames f k y _ I.sized.frames of.lt hk small) ∙ marks;
    mark_page = λ g j hg hj m. ap is_marked (slot-put_slot-page s.frames f k y g j hk hj (λ z. m (sym z)));
    mark_slot = λ g j hg hj m. ap is_marked (slot-put_slot-other s.frames f k y g j hk hj m);
    bytes = λ g i hg h l. byte-put_slot s.frames f k y g i hk h l;
    store_word = λ p j hp hj. refl;
    store_mark = λ p j hp hj. refl;
    store_bytes = λ p i hp l. refl;
  }

  map_linked : MapLinked (map_view N x.map) (map_view N (put_slot x.map (v.page f) k y)) v.N (v.page f) k q l
  map_linked = map-linked N t x.map v.N (v.page f) k y n l names marks (placed-store s J f) I.map_length (I.shape.page_lt f of) hk small

  pub relink-keeps : Invariant (record { now = relinked s f k y; map = put_slot x.map (v.page f) k y; balance = x.balance })
  relink-keeps = record {
    sized = lengths-kept _ s.store I.sized (put_slot-length s.frames f k y) refl;
    stores = I.stores;
    records = length-set rs f r ∙ I.records;
    map_length = put_slot-length x.map (v.page f) k y ∙ I.map_length;
    neat = neat-change s.pool f r lt of.lt (neat-place _ _ f (record_at rs f) r of.on same_place (omega arith) (I.neat.at f).usage (I.neat.at f).pins (I.neat.at f)) I.neat;
    by_store = stores-kept s.pool (set rs f r) s.pool.hand (change-places rs f r lt same_place) I.by_store;
    frame_octets = octets-put_slot s.frames f k y I.frame_octets;
    store_octets = I.store_octets;
    map_octets = octets-put_slot x.map (v.page f) k y I.map_octets;
    shape = link-shape v _ f k q l I.shape linked of hk old q_n (map_view N x.map) I.content fresh no_root;
    content = link-content v _ f k q l I.shape linked of hk old q_n (map_view N x.map) I.content fresh no_root _ map_linked free bare-place;
    sound = link-sound _ _ v.N (v.page f) k q l map_linked _ _ q_n fresh no_root I.sound;
    pins = pins-kept v _ linked.steady x.balance I.pins linked.pins;
    directory = I.directory;
    chained = steady-chained s.pool _ s.directory refl (change-places rs f r lt same_place) I.chained;
  }
