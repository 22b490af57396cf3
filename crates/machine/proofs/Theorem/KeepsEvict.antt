-- A page that leaves its frame keeps the invariant, where it is no root, not pinned and without a swizzled word.
use Rattle.std.specs.Prelude.{◌≡◌, ◌≢◌, List, ℕ, ◌≤◌, ◌<◌, length, set}
use Rattle.std.proofs.Math.Path.{refl, sym, ap}
use Rattle.std.proofs.Common.{◌∙◌, arith}
use Rattle.std.proofs.Math.ListN.{length-set}
use Rattle.page.specs.Figures.{slot_count, most_frames, most_pages}
use Rattle.page.specs.Word.{Number, frame_word, is_marked, name_of, number_word}
use Rattle.page.proofs.NameLaws.{name-renamed-number, mark-renamed-number, renamed-lt}
use Rattle.page.specs.Page.{name, put_slot-length, slot-put_slot-same, slot-put_slot-page, byte-put_slot}
use Rattle.page.specs.StorePlaces.{store_place}
use Rattle.page.specs.Octets.{Octets, octets-put_slot}
use Rattle.machine.specs.declared.FrameRecord.{FrameRecord}
use Rattle.rules.specs.TestLaws.{clash, case, on, off}
use Rattle.machine.specs.Machine.{State, blank, is_used, is_dirty, record_at, page_in, store_in, is_of}
use Rattle.machine.specs.Moves.{plain, vacate, evicted}
use Rattle.machine.specs.History.{Point}
use Rattle.machine.proofs.Theorem.Lift.{lift-same, lift-number}
use Rattle.machine.proofs.Theorem.View.{View, view, Occupied, Parent}
use Rattle.machine.proofs.Theorem.Invariant.{ByStore, Fit, fit_of, Invariant, map_view}
use Rattle.machine.proofs.Theorem.FrameReads.{paged-below, placed-store, number-some, up-store, read_number, plain-below, plain-some, plain-placed}
use Rattle.machine.proofs.Theorem.EvictEffect.{Evicted, evict-shape, evict-content}
use Rattle.machine.proofs.Theorem.PinsEffect.{pins-evicted}
use Rattle.machine.proofs.Laws.HeldLaws.{unused-of, held_kept, held-less}
use Rattle.machine.proofs.Laws.MoveLaws.{written_out_by-length}
use Rattle.machine.proofs.Theorem.ImageOut.{out-octets, out-slot_stays, out-byte_stays, out-word, out-mark, out-byte}
use Rattle.machine.proofs.Theorem.SlotChange.{slot-put_slot-other, mark-put_slot}
use Rattle.chains.proofs.ChainLaws.{taken-length}
use Rattle.machine.proofs.Theorem.Holders.{of-occupied}
use Rattle.machine.proofs.Theorem.Chains.{evict-chained}
use Rattle.machine.proofs.Theorem.RecordChange.{change-here, change-other, neat-blank, neat-change, lengths-kept}

module _ (s : State) (I : Fit s) (f : ℕ) (of : Occupied (view s) f) (nz : s.pool.stores ≤ f) (leaf : (k : ℕ) → k < slot_count → Number (name s.frames f k)) where
  abbrev N : ℕ
  N = s.pool.pages

  abbrev v : View
  v = view s

  abbrev rs : List FrameRecord
  rs = s.pool.records

  lt : f < length rs
  lt = omega (arith, of.lt, I.records, I.shape.most)

  p_n : v.page f < v.N
  p_n = I.shape.page_lt f of

  P : Parent v f
  P = I.shape.parent f of nz

  p_small : page_in rs f < most_pages
  p_small = omega (arith, paged-below s I f, I.sized.pages)

  p_some : page_in rs f ≢ 0
  p_some = number-some s I f of nz

  small : (k : ℕ) → k < slot_count → plain (page_in rs) (name s.frames f k) < most_pages
  small k hk = omega (arith, plain-below s I f k of hk, I.sized.pages)

  leaf-view : (k : ℕ) → k < slot_count → Number (v.word f k)
  leaf-view k hk = read_number s I f k (leaf k hk)

  -- no page's parent is here, so that its own is another frame
  not_up : (g : ℕ) → Occupied v g → s.pool.stores ≤ g → v.up g ≢ f
  not_up g o z e =
      let R : Parent v g = I.shape.parent g o z in
      let l : Number (v.word f (v.up_slot g)) = leaf-view (v.up_slot g) R.in_page in
      let h : v.word f (v.up_slot g) ≡ frame_word g = rw e at R.names in
      omega arith

  same_store : (g : ℕ) → g ≢ f → store_in (set rs f blank) g ≡ store_in rs g
  same_store g n = ap (λ r. r.store.0) (change-other rs f blank g n)

  -- what is done to the view
  pub evict-effect : Evicted v (view (evicted s f)) f
  unfolding evicted
  evict-effect = record {
    same_f = refl;
    same_n = refl;
    roots = refl;
    each = refl;
    gone = ap is_used (change-here rs f blank lt);
    used = λ g n. ap is_used (change-other rs f blank g n);
    page = λ g n. ap (λ r. store_place N r.store.0 r.page.0) (change-other rs f blank g n);
    up = λ g n. ap (λ r. r.parent.0) (change-other rs f blank g n);
    up_slot = λ g n. ap (λ r. r.slot) (change-other rs f blank g n);
    dirty = λ g n. ap is_dirty (change-other rs f blank g n);
    pins = λ g n. ap (λ r. r.pins) (change-other rs f blank g n);
    word_at_parent = lift-same N _ (store_in rs f) _ (page_in rs f) (same_store (v.up f) (not_up f of nz) ∙ sym (up-store s I f of nz))
        (ap name_of (slot-put_slot-same s.frames _ _ _ _ I.sized.frames P.occupied.lt P.in_page (renamed-lt _ (number_word (page_in rs f)) (omega (arith, p_small)))) ∙ name-renamed-number _ (page_in rs f) p_small (λ z. absurd (p_some z)))
        ∙ lift-number N (store_in rs f) (page_in rs f) p_some (paged-below s I f);
    word_page = λ g k hg hk m n. lift-same N _ _ _ _ (same_store g m) (ap name_of (slot-put_slot-page s.frames _ _ _ g k P.in_page hk (λ q. n (sym q))));
    word_slot = λ g k hg hk m n. lift-same N _ _ _ _ (same_store g m) (ap name_of (slot-put_slot-other s.frames _ _ _ g k P.in_page hk n));
    mark = λ g k hg hk. mark-put_slot s.frames _ _ _ _ I.sized.frames P.occupied.lt P.in_page (renamed-lt _ (number_word (page_in rs f)) (omega (arith, p_small))) (mark-renamed-number _ (page_in rs f) p_small (λ z. absurd (p_some z))) g k hk;
    bytes = λ g i hg h l. byte-put_slot s.frames _ _ _ g i P.in_page h l;
    dirty_word = λ k d hk. lift-same N _ (store_in rs f) _ _ (placed-store s I f)
        (out-word N (page_in rs) (record_at rs f) s.frames s.store f _ _ I.sized.frames of.lt I.sized.store p_n d small k hk (plain-some s I f k of hk)) ∙ plain-placed s I f k of hk;
    dirty_mark = λ k d hk. out-mark N (page_in rs) (record_at rs f) s.frames s.store f _ _ I.sized.frames of.lt I.sized.store p_n d small k hk (plain-some s I f k of hk);
    dirty_bytes = λ i d h l. out-byte N (page_in rs) (record_at rs f) s.frames s.store f _ _ I.sized.frames of.lt I.sized.store p_n d small i h l;
    store_word = λ p k hp hk h. lift-same N _ _ _ _ refl (ap name_of (out-slot_stays N (page_in rs) (record_at rs f) s.frames s.store f _ _ I.sized.frames of.lt I.sized.store p_n p k hk h));
    store_mark = λ p k hp hk h. ap is_marked (out-slot_stays N (page_in rs) (record_at rs f) s.frames s.store f _ _ I.sized.frames of.lt I.sized.store p_n p k hk h);
    store_bytes = λ p i hp l h. out-byte_stays N (page_in rs) (record_at rs f) s.frames s.store f _ _ I.sized.frames of.lt I.sized.store p_n p i l h;
  }

  evict-stores : ByStore (vacate s.pool f)
  evict-stores = record {
    child = λ g l u n.
        let d : g ≢ f = λ z. clash (sym u ∙ ap (λ (h : ℕ). is_used (record_at (set rs f blank) h)) z ∙ ap is_used (change-here rs f blank lt)) in
        let e : record_at (set rs f blank) g ≡ record_at rs g = change-other rs f blank g d in
        let o : Occupied v g = record { lt = l; on = ap is_used (sym e) ∙ u } in
        ap (λ r. r.store.0) e ∙ up-store s I g o n ∙ sym (same_store (v.up g) (not_up g o n)) ∙ ap (λ (h : FrameRecord). store_in (set rs f blank) h.parent.0) (sym e);
    ceilings = λ t l. elim (case (is_of t (record_at rs f))) [
      | on e ↦ omega (arith, held-less s.pool f blank lt t of.lt e (unused-of t blank refl), I.by_store.ceilings t l)
      | off e ↦ rw (held_kept s.pool f blank lt t (unused-of t blank refl ∙ sym e)) (I.by_store.ceilings t l)
    ];
  }

  pub evict-fit : Fit (evicted s f)
  unfolding evicted
  evict-fit = record {
    sized = lengths-kept _ _ I.sized (put_slot-length s.frames _ _ _) (written_out_by-length N (page_in rs) (record_at rs f) s.frames s.store f _ _ I.sized.frames I.sized.store of.lt p_n);
    stores = I.stores;
    records = length-set rs f blank ∙ I.records;
    neat = neat-change s.pool f blank lt of.lt (neat-blank _ _ f I.stores.some I.sized.some) I.neat;
    by_store = evict-stores;
    frame_octets = octets-put_slot s.frames _ _ _ I.frame_octets;
    shape = evict-shape v _ f I.shape evict-effect of nz leaf-view;
    directory = taken-length s.directory f most_frames _ ∙ I.directory;
    chained = evict-chained s.pool I.shape.most s.directory I.directory I.chained f lt (of-occupied s f of);
  }

module _ (x : Point) (I : Invariant x) (f : ℕ) (of : Occupied (view x.now) f) (nz : x.now.pool.stores ≤ f) (leaf : (k : ℕ) → k < slot_count → Number (name x.now.frames f k)) where
  abbrev E : Evicted (view x.now) (view (evicted x.now f)) f
  E = evict-effect x.now (fit_of x I) f of nz leaf

  pub evict-keeps : (view x.now).pins f ≡ 0 → Invariant (record { now = evicted x.now f; map = x.map; balance = x.balance })
  unfolding evicted
  evict-keeps free =
      let J : Fit (evicted x.now f) = evict-fit x.now (fit_of x I) f of nz leaf in
      record {
        sized = J.sized;
        stores = J.stores;
        records = J.records;
        map_length = I.map_length;
        neat = J.neat;
        by_store = J.by_store;
        frame_octets = J.frame_octets;
        store_octets = store-octets;
        map_octets = I.map_octets;
        shape = J.shape;
        content = evict-content (view x.now) _ f I.shape E of nz (λ k hk. read_number x.now (fit_of x I) f k (leaf k hk)) (map_view x.now.pool.pages x.map) I.content;
        sound = I.sound;
        pins = pins-evicted (view x.now) _ f E of free x.balance I.pins;
        directory = J.directory;
        chained = J.chained;
      }
    where
      store-octets : Octets (evicted x.now f).store
      store-octets = out-octets x.now.pool.pages (page_in x.now.pool.records) (record_at x.now.pool.records f) x.now.frames x.now.store f I.frame_octets I.store_octets
