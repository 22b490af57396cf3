-- A stored page that comes into an empty frame keeps the invariant where its store is below its ceiling, and it always fits.
use Rattle.std.specs.Prelude.{◌≡◌, refl, ◌≢◌, false, List, ℕ, ◌*◌, ◌<◌, length, set}
use Rattle.std.proofs.Math.Path.{sym, ap}
use Rattle.std.proofs.Common.{◌∙◌, arith}
use Rattle.std.proofs.Math.Decide.{ℕ_discrete}
use Rattle.std.proofs.Math.ListN.{length-set}
use Rattle.page.specs.Figures.{page_size, slot_count, most_frames}
use Rattle.page.specs.Word.{Number, frame_word, is_marked, renamed, name_of}
use Rattle.page.proofs.NameLaws.{name-renamed-frame, mark-renamed-frame, renamed-lt}
use Rattle.page.specs.Page.{slot, name, lock, page_of, put_page, put_slot-length, slot-put_slot-same, slot-put_slot-page, byte-put_slot, page_of-length, put_page-length, slot-put_page-same, slot-put_page-other, byte-put_page-same, byte-put_page-other, slot-page_of, byte-page_of, byte-first}
use Rattle.page.specs.StorePlaces.{store_place}
use Rattle.page.proofs.StorePlaceLaws.{store-room, place-lt, place-store}
use Rattle.page.specs.Octets.{octets-put_slot, octets-page_of, octets-put_page}
use Rattle.machine.specs.declared.FrameRecord.{FrameRecord}
use Rattle.rules.specs.TestLaws.{clash}
use Rattle.machine.specs.Machine.{State, loaded_record, is_used, is_dirty, record_at, store_in, held, ceiling_of}
use Rattle.machine.specs.Moves.{occupy, loaded}
use Rattle.machine.specs.History.{Point, fixed_in}
use Rattle.machine.proofs.Laws.HeldLaws.{is-of, not-of, unused-of, held_kept, held_more}
use Rattle.machine.proofs.Theorem.Lift.{lift-same, lift-number, frame-lift}
use Rattle.machine.proofs.Theorem.View.{View, view, Occupied, Absent}
use Rattle.machine.proofs.Theorem.Invariant.{ByStore, Fit, fit_of, Invariant, map_view}
use Rattle.machine.proofs.Theorem.FrameReads.{store_below, up-store, word_below}
use Rattle.machine.proofs.Theorem.LoadEffect.{Loaded, MayComeIn, absent-fits, empty-other, load-shape, load-content}
use Rattle.machine.proofs.Theorem.PinsEffect.{pins-loaded}
use Rattle.machine.proofs.Theorem.SlotChange.{slot-put_slot-other, mark-put_slot}
use Rattle.chains.proofs.ChainLaws.{entered-length}
use Rattle.machine.proofs.Theorem.Chains.{load-chained}
use Rattle.machine.proofs.Theorem.RecordChange.{change-here, change-other, neat-change, record-lt, lengths-kept}

module _ (x : Point) (I : Invariant x) where
  abbrev s : State
  s = x.now

  abbrev v : View
  v = view x.now

  abbrev rs : List FrameRecord
  rs = x.now.pool.records

  abbrev N : ℕ
  N = x.now.pool.pages

  abbrev T : ℕ
  T = x.now.pool.stores

  abbrev J : Fit x.now
  J = fit_of x I

  -- a page named by a resident page's number fits
  pub always-fits : (f k : ℕ) → Occupied v f → k < slot_count → Number (v.word f k) → v.word f k ≢ 0 → MayComeIn v (v.word f k)
  always-fits f k of hk l nz = absent-fits v (map_view N x.map) I.shape I.content I.sound (v.word f k) (I.shape.number_lt f k of hk l) (I.shape.number_absent f k of hk l nz)

  -- page n of store t, which slot k of frame f names, comes into the empty frame e
  module _ (f k e t n : ℕ) (of : Occupied v f) (hk : k < slot_count) (e_f : e < v.F) (free : v.used e ≡ false) (store : store_in rs f ≡ t) (number : name s.frames f k ≡ n) (below : Number n) (filled : n ≢ 0)
      (space : held s.pool t < ceiling_of s.pool t) where
    abbrev r : FrameRecord
    r = loaded_record t n f k

    -- its place
    abbrev q : ℕ
    q = store_place N t n

    lt : e < length rs
    lt = record-lt x I e e_f

    t_t : t < T
    t_t = rw store at (store_below s J f)

    n_n : n < N
    n_n = rw number at (word_below s J f k of hk (rw number below))

    names : v.word f k ≡ q
    names = lift-same N (store_in rs f) t (name s.frames f k) n store number ∙ lift-number N t n filled n_n

    q_n : q < N * T
    q_n = place-lt N t T n t_t n_n

    low : Number q
    low = omega (arith, q_n, I.shape.pages)

    nz : q ≢ 0
    nz z = filled (omega arith)

    q_absent : Absent v q
    q_absent = rw names at (I.shape.number_absent f k of hk (rw names low) (rw names nz))

    q_fits : MayComeIn v q
    q_fits = rw names at (always-fits f k of hk (rw names low) (rw names nz))

    other : (g : ℕ) → Occupied v g → g ≢ e
    other = empty-other v e free

    page : List ℕ
    page = page_of s.store q

    page_length : length page ≡ page_size
    unfolding page
    page_length = page_of-length s.store q _ I.sized.store q_n

    -- the frames with the page, before the parent's word is swizzled
    between : List ℕ
    between = put_page s.frames e page

    between_length : length between ≡ length s.frames
    unfolding between
    between_length = put_page-length s.frames e page _ I.sized.frames page_length e_f

    between_slot : (g j : ℕ) → g ≢ e → j < slot_count → slot between g j ≡ slot s.frames g j
    unfolding between
    between_slot g j n hj = slot-put_page-other s.frames e page _ g j I.sized.frames page_length e_f (λ z. n (sym z)) hj

    -- the word in frame e is the store's
    slot_e : (j : ℕ) → j < slot_count → slot (loaded s f k e t n).frames e j ≡ slot s.store q j
    unfolding loaded between page
    slot_e j hj = slot-put_slot-page between f k _ e j hk hj (other f of) ∙ slot-put_page-same s.frames e page _ j I.sized.frames page_length e_f hj ∙ slot-page_of s.store q j hj

    e_small : e < most_frames
    e_small = omega (arith, I.shape.most)

    -- the parent's word keeps its mark
    same_mark : is_marked (renamed (slot s.frames f k) (frame_word e)) ≡ lock between f k
    same_mark = mark-renamed-frame (slot s.frames f k) e e_small ∙ sym (ap is_marked (between_slot f k (other f of) hk))

    same_store : (g : ℕ) → g ≢ e → store_in (set rs e r) g ≡ store_in rs g
    same_store g m = ap (λ u. u.store.0) (change-other rs e r g m)

    -- what is done to the view
    load-effect : Loaded v (view (loaded s f k e t n)) f k e q
    unfolding loaded between page
    load-effect = record {
      same_f = refl;
      same_n = refl;
      roots = refl;
      each = refl;
      used_e = ap is_used (change-here rs e r lt);
      page_e = ap (λ u. store_place N u.store.0 u.page.0) (change-here rs e r lt);
      up_e = ap (λ u. u.parent.0) (change-here rs e r lt);
      up_slot_e = ap (λ u. u.slot) (change-here rs e r lt);
      dirty_e = ap is_dirty (change-here rs e r lt);
      pins_e = ap (λ u. u.pins) (change-here rs e r lt);
      used = λ g m. ap is_used (change-other rs e r g m);
      page = λ g m. ap (λ u. store_place N u.store.0 u.page.0) (change-other rs e r g m);
      up = λ g m. ap (λ u. u.parent.0) (change-other rs e r g m);
      up_slot = λ g m. ap (λ u. u.slot) (change-other rs e r g m);
      dirty = λ g m. ap is_dirty (change-other rs e r g m);
      pins = λ g m. ap (λ u. u.pins) (change-other rs e r g m);
      word_e = λ j hj. lift-same N _ _ _ _ (ap (λ u. u.store.0) (change-here rs e r lt) ∙ sym (place-store N t n n_n)) (ap name_of (slot_e j hj));
      mark_e = λ j hj. ap is_marked (slot_e j hj);
      bytes_e = λ i h l. byte-put_slot between f k _ e i hk h l ∙ byte-put_page-same s.frames e page _ i I.sized.frames page_length e_f l ∙ sym (byte-first page i) ∙ byte-page_of s.store q i l;
      word_at_parent = lift-same N _ t _ (frame_word e) (same_store f (other f of) ∙ store)
          (ap name_of (slot-put_slot-same between f k _ _ (between_length ∙ I.sized.frames) of.lt hk (renamed-lt _ (frame_word e) (omega (arith, e_small)))) ∙ name-renamed-frame (slot s.frames f k) e e_small)
          ∙ frame-lift N t (N * T) (store-room N t T t_t) I.shape.pages (frame_word e) e refl;
      word_page = λ g j hg hj m o. lift-same N _ _ _ _ (same_store g m) (ap name_of (slot-put_slot-page between f k _ g j hk hj (λ z. o (sym z)) ∙ between_slot g j m hj));
      word_slot = λ g j hg hj m o. lift-same N _ _ _ _ (same_store g m) (ap name_of (slot-put_slot-other between f k _ g j hk hj o ∙ between_slot g j m hj));
      mark = λ g j hg hj m. mark-put_slot between f k _ _ (between_length ∙ I.sized.frames) of.lt hk (renamed-lt _ (frame_word e) (omega (arith, e_small))) same_mark g j hj ∙ ap is_marked (between_slot g j m hj);
      bytes = λ g i hg h l m. byte-put_slot between f k _ g i hk h l ∙ byte-put_page-other s.frames e page _ g i I.sized.frames page_length e_f (λ z. m (sym z)) l;
      store_word = λ p j hp hj. refl;
      store_mark = λ p j hp hj. refl;
      store_bytes = λ p i hp l. refl;
    }

    not_root : e < T → ⊥
    not_root l = other e (I.shape.root e l) refl

    -- one page more of store t alone
    load-stores : ByStore (occupy s.pool e r)
    load-stores = record {
      child = λ g l u z. elim (ℕ_discrete g e) [
        | yes y ↦ rw y (ap (λ u. u.store.0) (change-here rs e r lt) ∙ sym store ∙ sym (same_store f (other f of)) ∙ ap (λ (h : FrameRecord). store_in (set rs e r) h.parent.0) (sym (change-here rs e r lt)))
        | no y ↦
            let c : record_at (set rs e r) g ≡ record_at rs g = change-other rs e r g y in
            let o : Occupied v g = record { lt = l; on = ap is_used (sym c) ∙ u } in
            ap (λ u. u.store.0) c ∙ up-store s J g o z ∙ sym (same_store (v.up g) (other (v.up g) (I.shape.parent g o z).occupied)) ∙ ap (λ (h : FrameRecord). store_in (set rs e r) h.parent.0) (sym c)
      ];
      ceilings = λ u l. elim (ℕ_discrete u t) [
        | yes y ↦ rw y (omega (arith, held_more s.pool e r lt t e_f (unused-of t (record_at rs e) free) (is-of t r refl refl), space))
        | no y ↦ rw (held_kept s.pool e r lt u (not-of u r (λ z. y (sym z)) ∙ sym (unused-of u (record_at rs e) free))) (I.by_store.ceilings u l)
      ];
    }

    pub load-keeps : Invariant (record { now = loaded s f k e t n; map = x.map; balance = fixed_in e q x.balance })
    unfolding loaded between page
    load-keeps = record {
      sized = lengths-kept _ s.store I.sized (put_slot-length between f k _ ∙ between_length) refl;
      stores = I.stores;
      records = length-set rs e r ∙ I.records;
      map_length = I.map_length;
      neat = neat-change s.pool e r lt e_f
          (record { number = n_n; store = t_t; used = omega arith; dirty = omega arith; usage = omega arith; pins = omega arith; empty = λ z. absurd (clash z); root_parent = λ z. absurd (not_root z); root_slot = λ z. absurd (not_root z) }) I.neat;
      by_store = load-stores;
      frame_octets = octets-put_slot between f k _ (octets-put_page s.frames e page I.frame_octets (octets-page_of s.store q I.store_octets));
      store_octets = I.store_octets;
      map_octets = I.map_octets;
      shape = load-shape v _ f k e q I.shape load-effect of hk e_f free names low nz q_fits;
      content = load-content v _ f k e q I.shape load-effect of hk e_f free names low nz q_fits (map_view N x.map) I.content;
      sound = I.sound;
      pins = pins-loaded v _ f k e q load-effect e_f free q_absent x.balance I.pins;
      directory = entered-length s.directory _ e ∙ I.directory;
      chained = load-chained s.pool I.shape.most s.directory I.directory I.chained e lt e_f free r refl;
    }
