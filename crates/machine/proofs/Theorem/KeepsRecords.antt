-- Effects on the records alone keep the invariant: a pin more or less, and the usage counts and the hand that a sweep leaves.
use Rattle.std.specs.Prelude.{◌≡◌, refl, ◌≢◌, List, ℕ, ◌≤◌, ◌<◌, length, set}
use Rattle.std.proofs.Common.{sym, ap, ◌∙◌, arith, length-set}
use Rattle.page.specs.Figures.{record_count, max_usage, max_pins}
use Rattle.machine.proofs.Laws.Flags.{same_flag}
use Rattle.page.specs.declared.FrameIndex.{FrameIndex}
use Rattle.machine.specs.declared.FrameRecord.{FrameRecord}
use Rattle.machine.specs.declared.Pool.{Pool}
use Rattle.machine.specs.Machine.{State, with_pool, with_record, blank, is_dirty, record_at, pinned, unpinned}
use Rattle.machine.specs.Sweep.{Swept, with_swept}
use Rattle.machine.proofs.Laws.SweepLaws.{Cooler, Cooled}
use Rattle.machine.specs.Calls.{change_record}
use Rattle.machine.specs.History.{Balance, Point, fixed_in, unfixed}
use Rattle.machine.proofs.Theorem.Lift.{lift-same}
use Rattle.machine.proofs.Theorem.View.{View, view, Occupied}
use Rattle.machine.proofs.Theorem.Invariant.{NeatRecord, Neat, Pins, Invariant, map_view}
use Rattle.machine.proofs.Theorem.KeepEffect.{Steady, KeptView, kept-shape, kept-content, quiet-rewritten}
use Rattle.machine.proofs.Theorem.PinsEffect.{pins-kept, pins-pinned, pins-unpinned}
use Rattle.machine.proofs.Theorem.Chains.{steady-chained}
use Rattle.machine.proofs.Theorem.RecordChange.{SamePlace, SamePlaces, stores-kept, change-places, change-here, change-other, change-same, change-steady, neat-change, neat-place, record-lt}

-- a record as a sweep leaves it is as neat: an empty frame's stays blank
cooler-neat : (T N f : ℕ) (r q : FrameRecord) → Cooler r q → NeatRecord T N f r → NeatRecord T N f q
cooler-neat T N f r q c n = record {
  number = rw c.page n.number;
  store = rw c.store n.store;
  used = rw c.used n.used;
  dirty = rw c.dirty n.dirty;
  usage = c.usage n.usage;
  pins = rw c.pins n.pins;
  empty = λ e. blanked (n.empty (sym (same_flag c.used) ∙ e));
  root_parent = λ z. ap (λ i. i.0) c.parent ∙ n.root_parent z;
  root_slot = λ z. c.slot ∙ n.root_slot z;
}
  where
    blanked : r ≡ blank → q ≡ blank
    blanked e =
        let u : q.used ≡ 0 = c.used ∙ ap (λ t. t.used) e in
        let d : q.dirty ≡ 0 = c.dirty ∙ ap (λ t. t.dirty) e in
        let h : q.usage ≡ 0 = omega (arith, c.falls (ap (λ (t : FrameRecord). t.pins) e), ap (λ (t : FrameRecord). t.usage) e) in
        let l : q.slot ≡ 0 = c.slot ∙ ap (λ t. t.slot) e in
        let a : q.parent ≡ blank.parent = c.parent ∙ ap (λ t. t.parent) e in
        let t : q.store ≡ blank.store = c.store ∙ ap (λ t. t.store) e in
        let b : q.pins ≡ 0 = c.pins ∙ ap (λ t. t.pins) e in
        let g : q.page ≡ blank.page = c.page ∙ ap (λ t. t.page) e in
        λ i. record { used = u i; dirty = d i; usage = h i; slot = l i; parent = a i; store = t i; pins = b i; page = g i }

module _ (x : Point) (I : Invariant x) where
  abbrev s : State
  s = x.now

  abbrev v : View
  v = view x.now

  abbrev rs : List FrameRecord
  rs = x.now.pool.records

  -- the pool with other records and another hand
  abbrev with : List FrameRecord → FrameIndex → Pool
  with qs h = record { records = qs; count = s.pool.count; pages = s.pool.pages; stores = s.pool.stores; ceilings = s.pool.ceilings; hand = h }

  -- other records of the same pages, as dirty as they were
  repooled : (qs : List FrameRecord) (h : FrameIndex) → Steady v (view (with_pool s (with qs h))) → SamePlaces rs qs → length qs ≡ record_count → Neat (with qs h)
      → ((g : ℕ) → is_dirty (record_at qs g) ≡ v.dirty g) → (b : Balance) → Pins (view (with_pool s (with qs h))) b → Invariant (record { now = with_pool s (with qs h); map = x.map; balance = b })
  repooled qs h K D len N dirty b B = record {
    sized = I.sized;
    stores = I.stores;
    records = len;
    map_length = I.map_length;
    neat = N;
    by_store = stores-kept s.pool qs h D I.by_store;
    frame_octets = I.frame_octets;
    store_octets = I.store_octets;
    map_octets = I.map_octets;
    shape = kept-shape _ _ kept I.shape;
    content = kept-content _ _ kept I.shape _ _ I.content (quiet-rewritten _ _ (map_view s.pool.pages x.map)
        (record { bytes = λ g i. refl; dirty = dirty; store_word = λ p k. refl; store_mark = λ p k. refl; store_bytes = λ p i. refl }));
    sound = I.sound;
    pins = B;
    directory = I.directory;
    chained = steady-chained s.pool (with qs h) s.directory refl D I.chained;
  }
    where
      kept : KeptView v (view (with_pool s (with qs h)))
      kept = record { steady = K; word = λ g k hg hk. lift-same s.pool.pages _ _ _ _ (D.store g) refl; mark = λ g k hg hk. refl }

  -- ---- pins

  module _ (f : ℕ) (of : Occupied v f) where
    lt : f < length rs
    lt = record-lt x I f of.lt

    -- the record r in place of frame f's, where its pins are the balance b's: those of f are r's, the others as they were
    repinned : (r : FrameRecord) → SamePlace (record_at rs f) r → r.dirty ≡ (record_at rs f).dirty → r.usage ≤ max_usage → r.pins ≤ max_pins → (b : Balance)
        → (Steady v (view (with_pool s (with_record s.pool f r))) → (record_at (with_record s.pool f r).records f).pins ≡ r.pins
        → ((g : ℕ) → g ≢ f → (record_at (with_record s.pool f r).records g).pins ≡ v.pins g) → Pins (view (with_pool s (with_record s.pool f r))) b)
        → Invariant (record { now = with_pool s (with_record s.pool f r); map = x.map; balance = b })
    repinned r P d hu hp b B =
        let K : Steady v (view (with_pool s (with_record s.pool f r))) = change-steady s f r s.frames s.store s.directory lt P in
        repooled (set rs f r) s.pool.hand K (change-places rs f r lt P) (length-set rs f r ∙ I.records)
        (neat-change s.pool f r lt of.lt (neat-place _ _ f (record_at rs f) r of.on P (rw d (I.neat.at f).dirty) hu hp (I.neat.at f)) I.neat) (change-same rs f r is_dirty lt (same_flag d)) b
        (B K (ap (λ t. t.pins) (change-here rs f r lt)) (λ g n. ap (λ t. t.pins) (change-other rs f r g n)))

    pub pin-keeps : v.pins f ≢ max_pins → Invariant (record { now = change_record s f pinned; map = x.map; balance = fixed_in f (v.page f) x.balance })
    pin-keeps few =
        repinned (pinned (record_at rs f)) (record { used = refl; store = refl; page = refl; parent = refl; slot = refl }) refl (omega arith) (omega (arith, (I.neat.at f).pins)) _
        (λ K here rest. pins-pinned _ _ K x.balance I.pins I.shape f of rest here)

    pub unpin-keeps : 0 < v.pins f → Invariant (record { now = change_record s f unpinned; map = x.map; balance = unfixed (v.page f) x.balance })
    unpin-keeps pos =
        repinned (unpinned (record_at rs f)) (record { used = refl; store = refl; page = refl; parent = refl; slot = refl }) refl (I.neat.at f).usage (omega (arith, (I.neat.at f).pins)) _
        (λ K here rest. pins-unpinned _ _ K x.balance I.pins I.shape f of rest pos here)

  -- ---- what a sweep leaves

  module _ (w : Swept) (C : Cooled s.pool.count rs w) where
    pub sweep-keeps : Invariant (record { now = with_pool s (with_swept s.pool w); map = x.map; balance = x.balance })
    sweep-keeps = repooled w.records w.hand K
        (record { used = λ g. same_flag (C.each g).used; store = λ g. ap (λ t. t.0) (C.each g).store; page = λ g. ap (λ p. p.0) (C.each g).page; parent = λ g. ap (λ p. p.0) (C.each g).parent })
        (C.size ∙ I.records)
        (record {
          hand = C.hand;
          at = λ f. cooler-neat _ _ f (record_at rs f) (record_at w.records f) (C.each f) (I.neat.at f);
          beyond = λ f h. same_flag (C.each f).used ∙ I.neat.beyond f h;
        })
        (λ g. same_flag (C.each g).dirty) x.balance (pins-kept _ _ K x.balance I.pins (λ g. (C.each g).pins))
      where
        K : Steady v (view (with_pool s (with_swept s.pool w)))
        K = record {
          same_f = refl;
          same_n = refl;
          roots = refl;
          each = refl;
          used = λ g. same_flag (C.each g).used;
          page = λ g. rw (ap (λ t. t.0) (C.each g).store, ap (λ p. p.0) (C.each g).page) refl;
          up = λ g. ap (λ p. p.0) (C.each g).parent;
          up_slot = λ g. (C.each g).slot;
        }
