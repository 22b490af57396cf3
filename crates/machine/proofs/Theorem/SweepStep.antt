-- A page that comes into the frame that a sweep takes: the sweep, the eviction and the load keep the invariant one after the other. Assumes nothing.
use Rattle.std.specs.Prelude.{ℕ, ◌<◌, ◌≡◌, ◌≢◌, true, false, leb}
use Rattle.std.proofs.Math.Path.{refl, sym, ap}
use Rattle.std.proofs.Common.{◌∙◌, arith}
use Rattle.std.proofs.Math.Decide.{ℕ_discrete}
use borrow.Author.Tests.{leb-false}
use Rattle.page.specs.declared.StoreNumber.{StoreNumber}
use Rattle.page.specs.Figures.{slot_count}
use Rattle.page.specs.Word.{name_of, frame_word, Number}
use Rattle.page.specs.Page.{name, slot-put_slot-page}
use Rattle.rules.specs.TestLaws.{clash, case, on, off}
use Rattle.machine.specs.declared.FrameRecord.{FrameRecord}
use Rattle.machine.specs.Machine.{State, with_pool, blank, record_at, store_in, is_of, held, ceiling_of, at_ceiling}
use Rattle.machine.specs.Moves.{evicted, loaded}
use Rattle.machine.specs.Sweep.{sweep, with_swept}
use Rattle.machine.specs.Calls.{swept_out}
use Rattle.machine.specs.History.{Point, fixed_in}
use Rattle.machine.specs.Demand3.{at}
use Rattle.machine.proofs.Laws.Flags.{same_flag}
use Rattle.machine.proofs.Laws.HeldLaws.{of_is, of-same, unused-of, held_same, held_kept, held-less}
use Rattle.machine.proofs.Laws.SweepLaws.{Cooled, Loose, loose-of, sweep-cooled, sweep_sound}
use Rattle.machine.proofs.Theorem.View.{view, Occupied, Parent}
use Rattle.machine.proofs.Theorem.Invariant.{fit_of, Invariant}
use Rattle.machine.proofs.Theorem.EvictEffect.{Evicted, evicted-is}
use Rattle.machine.proofs.Theorem.RecordChange.{change-other, record-lt}
use Rattle.machine.proofs.Theorem.SlotChange.{slot-put_slot-other}
use Rattle.machine.proofs.Theorem.FrameReads.{frame-read}
use Rattle.machine.proofs.Theorem.Keeps.{evict-effect, evict-keeps, load-keeps, sweep-keeps}
use Rattle.machine.proofs.Theorem.TestReads.{Open, open_of}

-- the point with another state
abbrev with_state : Point → State → Point
with_state x s = record { now = s; map = x.map; balance = x.balance }

-- ---- a page of store t, which a number in slot k of frame f names, comes into frame g, whose page is evicted; it is the store's own, where that is at its ceiling

module _ (x : Point) (I : Invariant x) (g : ℕ) (og : Occupied (view x.now) g) (O : Open x.now g) (t : ℕ) (t_t : t < x.now.pool.stores) (own : at_ceiling x.now.pool t ≡ true → is_of t (record_at x.now.pool.records g) ≡ true)
    (f k : ℕ) (of : Occupied (view x.now) f) (fg : f ≢ g) (store : store_in x.now.pool.records f ≡ t) (hk : k < slot_count) (low : Number (name x.now.frames f k)) (nz : name x.now.frames f k ≢ 0) where
  E : Evicted (view x.now) (view (evicted x.now g)) g
  E = evict-effect x.now (fit_of x I) g og O.not_root O.leaf

  -- the word is no parent's, which would be swizzled
  same_word : name (evicted x.now g).frames f k ≡ name x.now.frames f k
  unfolding evicted
  same_word =
      let P : Parent (view x.now) g = I.shape.parent g og O.not_root in
      elim (ℕ_discrete f ((view x.now).up g)) [
        | no a ↦ ap name_of (slot-put_slot-page x.now.frames _ _ _ f k P.in_page hk (λ q. a (sym q)))
        | yes a ↦ elim (ℕ_discrete k ((view x.now).up_slot g)) [
          | no b ↦ ap name_of (slot-put_slot-other x.now.frames _ _ _ f k P.in_page hk b)
          | yes b ↦ absurd (let w : name x.now.frames f k ≡ frame_word g = rw (a, b) (frame-read x.now (fit_of x I) _ _ g P.names) in omega arith)
        ]
      ]

  same_store : store_in (evicted x.now g).pool.records f ≡ t
  unfolding evicted
  same_store = ap (λ (r : FrameRecord). r.store.0) (change-other x.now.pool.records g blank f fg) ∙ store

  -- then the store is below its ceiling
  space : held (evicted x.now g).pool t < ceiling_of (evicted x.now g).pool t
  unfolding evicted at_ceiling
  space =
      let p = x.now.pool in
      let room = record-lt x I g og.lt in
      let none = unused-of t blank refl in
      elim (case (is_of t (record_at p.records g))) [
        | on o ↦ omega (arith, held-less p g blank room t og.lt o none, I.by_store.ceilings t t_t)
        | off o ↦ elim (case (leb (ceiling_of p t) (held p t))) [
          | on c ↦ absurd (clash (sym (own c) ∙ o))
          | off c ↦ omega (arith, held_kept p g blank room t (none ∙ sym o), leb-false (ceiling_of p t) (held p t) c)
        ]
      ]

  replace-keeps : Invariant (record { now = loaded (evicted x.now g) f k g t (name x.now.frames f k); map = x.map; balance = fixed_in g (at x t (name x.now.frames f k)) x.balance })
  unfolding evicted
  replace-keeps = load-keeps (with_state x (evicted x.now g)) (evict-keeps x I g og O.not_root O.leaf O.unpinned) f k g t (name x.now.frames f k)
      (evicted-is _ _ g E f of fg) hk (rw E.same_f og.lt) E.gone same_store same_word low nz space

-- ---- the same after a sweep for store t that took a frame

module _ (x : Point) (I : Invariant x) (t : ℕ) (t_t : t < x.now.pool.stores) (full : at_ceiling x.now.pool t ≡ false → (f : ℕ) → f < x.now.pool.count → (view x.now).used f ≡ true)
    (e : (sweep x.now.pool x.now.frames t).taken ≡ true) where
  cool : Cooled x.now.pool.count x.now.pool.records (sweep x.now.pool x.now.frames t)
  cool = sweep-cooled x.now.pool x.now.frames t I.neat.hand

  abbrev victim : ℕ
  victim = (sweep x.now.pool x.now.frames t).frame.0

  abbrev swept : State
  swept = with_pool x.now (with_swept x.now.pool (sweep x.now.pool x.now.frames t))

  victim-lt : victim < x.now.pool.count
  victim-lt = (sweep_sound x.now.pool x.now.frames t I.neat.hand e).0

  victim-loose : Loose x.now.pool x.now.frames t (record_at x.now.pool.records victim) victim
  victim-loose = loose-of x.now.pool x.now.frames t _ _ (sweep_sound x.now.pool x.now.frames t I.neat.hand e).1

  victim-open : Open x.now victim
  victim-open = open_of x.now victim victim-loose.evictable

  victim-used : (view x.now).used victim ≡ true
  victim-used = elim (case (at_ceiling x.now.pool t)) [
    | on c ↦ (of_is t (record_at x.now.pool.records victim) (victim-loose.own c)).0
    | off c ↦ full c victim victim-lt
  ]

  still-occupied : (f : ℕ) → Occupied (view x.now) f → Occupied (view swept) f
  still-occupied f o = record { lt = o.lt; on = same_flag (cool.each f).used ∙ o.on }

  still_open : Open swept victim
  still_open = record { not_root = victim-open.not_root; unpinned = (cool.each victim).pins ∙ victim-open.unpinned; leaf = victim-open.leaf }

  same-store-in : (f : ℕ) → store_in swept.pool.records f ≡ store_in x.now.pool.records f
  same-store-in f = ap (λ (u : StoreNumber). u.0) (cool.each f).store

  -- the store has as many pages as before, and so is at its ceiling where it was
  still-of : (f : ℕ) → is_of t (record_at swept.pool.records f) ≡ is_of t (record_at x.now.pool.records f)
  still-of f = of-same t (record_at x.now.pool.records f) (record_at swept.pool.records f) (same_flag (cool.each f).used) (same-store-in f)

  still-own : at_ceiling swept.pool t ≡ true → is_of t (record_at swept.pool.records victim) ≡ true
  unfolding at_ceiling
  still-own c = still-of victim ∙ victim-loose.own (ap (leb (ceiling_of x.now.pool t)) (sym (held_same x.now.pool swept.pool t refl (λ f l. still-of f))) ∙ c)

  pub swept_keeps : (f k : ℕ) → Occupied (view x.now) f → 0 < (view x.now).pins f → store_in x.now.pool.records f ≡ t → k < slot_count → Number (name x.now.frames f k) → name x.now.frames f k ≢ 0
      → Invariant (record { now = (swept_out x.now f k t (name x.now.frames f k) (sweep x.now.pool x.now.frames t)).left; map = x.map; balance = fixed_in victim (at x t (name x.now.frames f k)) x.balance })
  swept_keeps f k of pinned store hk low nz =
      replace-keeps (with_state x swept) (sweep-keeps x I (sweep x.now.pool x.now.frames t) cool) victim (still-occupied victim (record { lt = victim-lt; on = victim-used })) still_open t t_t still-own
      f k (still-occupied f of) (λ z. omega (arith, ap (view x.now).pins z, victim-open.unpinned)) (same-store-in f ∙ store) hk low nz
