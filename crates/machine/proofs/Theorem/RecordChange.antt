-- One frame's record changes: what is read of the records, that no page moves, and that they stay neat.
use Rattle.std.specs.Prelude.{◌≡◌, refl, ◌≢◌, true, List, ℕ, ◌≤◌, ◌<◌, length, set}
use Rattle.std.proofs.Common.{sym, ap, ◌∙◌, arith, get_or-set_same, get_or-set_other}
use Rattle.std.proofs.Math.Decide.{ℕ_discrete}
use Rattle.page.specs.Figures.{max_usage, max_pins}
use Rattle.machine.specs.declared.FrameRecord.{FrameRecord}
use Rattle.machine.specs.declared.Pool.{Pool}
use Rattle.rules.specs.TestLaws.{clash}
use Rattle.machine.specs.Machine.{State, state, blank, is_used, record_at, page_in, store_in, with_record}
use Rattle.page.specs.StorePlaces.{store_place}
use Rattle.page.specs.declared.FrameIndex.{FrameIndex}
use Rattle.machine.proofs.Laws.Flags.{same_flag}
use Rattle.machine.proofs.Laws.HeldLaws.{of-same, held_same}
use Rattle.machine.proofs.Laws.Ready.{Lengths}
use Rattle.machine.proofs.Theorem.View.{view}
use Rattle.machine.specs.History.{Point}
use Rattle.machine.proofs.Theorem.Invariant.{NeatRecord, Neat, ByStore, Invariant}
use Rattle.machine.proofs.Theorem.KeepEffect.{Steady}

module _ (rs : List FrameRecord) (f : ℕ) (r : FrameRecord) where
  pub change-other : (g : ℕ) → g ≢ f → record_at (set rs f r) g ≡ record_at rs g
  change-other g n = get_or-set_other rs f g r blank n

  pub change-here : f < length rs → record_at (set rs f r) f ≡ r
  change-here h = get_or-set_same rs f r blank h

  -- what the new record has in common with the old one
  pub change-same : {A : Type 0} (part : FrameRecord → A) → f < length rs → part r ≡ part (record_at rs f) → (g : ℕ) → part (record_at (set rs f r) g) ≡ part (record_at rs g)
  change-same part h e g = elim (ℕ_discrete g f) [
    | yes q ↦ rw q (ap part (change-here h) ∙ e)
    | no q ↦ ap part (change-other g q)
  ]

-- the same page with the same parent
pub record SamePlace (r t : FrameRecord) : Type 0 where
  pub used : t.used ≡ r.used
  pub store : t.store ≡ r.store
  pub page : t.page ≡ r.page
  pub parent : t.parent ≡ r.parent
  pub slot : t.slot ≡ r.slot

pub change-steady : (s : State) (f : ℕ) (r : FrameRecord) (fs st d : List ℕ) → f < length s.pool.records → SamePlace (record_at s.pool.records f) r
    → Steady (view s) (view (state (with_record s.pool f r) fs st d))
change-steady s f r fs st d h P = record {
  same_f = refl;
  same_n = refl;
  roots = refl;
  each = refl;
  used = change-same s.pool.records f r is_used h (same_flag P.used);
  page = change-same s.pool.records f r (λ t. store_place s.pool.pages t.store.0 t.page.0) h (rw (ap (λ p. p.0) P.store, ap (λ p. p.0) P.page) refl);
  up = change-same s.pool.records f r (λ t. t.parent.0) h (ap (λ p. p.0) P.parent);
  up_slot = change-same s.pool.records f r (λ t. t.slot) h P.slot;
}

-- ---- neat records

pub neat-blank : (T N f : ℕ) → 0 < T → 0 < N → NeatRecord T N f blank
neat-blank T N f h_t h_n = record { number = h_n; store = h_t; used = omega arith; dirty = omega arith; usage = omega arith; pins = omega arith; empty = λ e. refl; root_parent = λ e. refl; root_slot = λ e. refl }

pub neat-change : (p : Pool) (f : ℕ) (r : FrameRecord) → f < length p.records → f < p.count → NeatRecord p.stores p.pages f r → Neat p → Neat (with_record p f r)
neat-change p f r l hf n N = record {
  hand = N.hand;
  at = λ g. elim (ℕ_discrete g f) [ yes q ↦ rw (q, change-here p.records f r l) n | no q ↦ rw (change-other p.records f r g q) (N.at g) ];
  beyond = λ g h. rw (change-other p.records f r g (omega arith)) (N.beyond g h);
}

-- an occupied frame's record, with other pins and usage
pub neat-place : (T N f : ℕ) (r t : FrameRecord) → is_used r ≡ true → SamePlace r t → t.dirty ≤ 1 → t.usage ≤ max_usage → t.pins ≤ max_pins → NeatRecord T N f r → NeatRecord T N f t
neat-place T N f r t u P hd hu hp n = record {
  number = rw P.page n.number;
  store = rw P.store n.store;
  used = rw P.used n.used;
  dirty = hd;
  usage = hu;
  pins = hp;
  empty = λ e. absurd (clash (sym u ∙ sym (same_flag P.used) ∙ e));
  root_parent = λ z. ap (λ i. i.0) P.parent ∙ n.root_parent z;
  root_slot = λ z. P.slot ∙ n.root_slot z;
}

-- ---- stores

-- records of the same pages with the same parents
pub record SamePlaces (rs qs : List FrameRecord) : Type 0 where
  pub used : (g : ℕ) → is_used (record_at qs g) ≡ is_used (record_at rs g)
  pub store : (g : ℕ) → store_in qs g ≡ store_in rs g
  pub page : (g : ℕ) → page_in qs g ≡ page_in rs g
  pub parent : (g : ℕ) → (record_at qs g).parent.0 ≡ (record_at rs g).parent.0

pub stores-kept : (p : Pool) (qs : List FrameRecord) (h : FrameIndex) → SamePlaces p.records qs → ByStore p
    → ByStore (record { records = qs; count = p.count; pages = p.pages; stores = p.stores; ceilings = p.ceilings; hand = h })
stores-kept p qs h S D = record {
  child = λ f l u n. S.store f ∙ D.child f l (sym (S.used f) ∙ u) n ∙ ap (store_in p.records) (sym (S.parent f)) ∙ sym (S.store _);
  ceilings = λ t l. rw (held_same p (record { records = qs; count = p.count; pages = p.pages; stores = p.stores; ceilings = p.ceilings; hand = h }) t refl (λ f m. of-same t (record_at p.records f) (record_at qs f) (S.used f) (S.store f))) (D.ceilings t l);
}

pub change-places : (rs : List FrameRecord) (f : ℕ) (r : FrameRecord) → f < length rs → SamePlace (record_at rs f) r → SamePlaces rs (set rs f r)
change-places rs f r l P = record {
  used = change-same rs f r is_used l (same_flag P.used);
  store = change-same rs f r (λ t. t.store.0) l (ap (λ p. p.0) P.store);
  page = change-same rs f r (λ t. t.page.0) l (ap (λ p. p.0) P.page);
  parent = change-same rs f r (λ t. t.parent.0) l (ap (λ p. p.0) P.parent);
}

-- ---- lengths

-- every frame has its record
pub record-lt : (x : Point) → Invariant x → (f : ℕ) → f < x.now.pool.count → f < length x.now.pool.records
record-lt x I f h = omega (arith, I.records, I.shape.most)

-- buffers of the same lengths fit as well
pub lengths-kept : {F N T : ℕ} {fs st : List ℕ} (gs tt : List ℕ) → Lengths F N T fs st → length gs ≡ length fs → length tt ≡ length st → Lengths F N T gs tt
lengths-kept gs tt Z e d = record { least = Z.least; most = Z.most; some = Z.some; pages = Z.pages; frames = e ∙ Z.frames; store = d ∙ Z.store }
