-- The sweep over what it sees of the frames, and that it is the sweep over the records, by any class. Assumes nothing.
use Rattle.std.specs.Prelude.{ℕ, zero, suc, ◌+◌, ◌-◌, ◌%◌, ◌<◌, ◌≤◌, ◌≡◌, ◌≢◌, Bool, true, false, not, List, eqb, ltb, length, get_or, set, Some, None, is_some, unwrap_or}
use Rattle.std.proofs.Common.{refl, sym, ◌∙◌, ap, arith, ne_eqb, lt-ltb, le-ltb, length-set, get_or-set_same, get_or-set_other, ext_get_or}
use Rattle.std.proofs.Math.Decide.{dec_lt, ℕ_discrete}
use Rattle.std.proofs.Math.Seq.{set-get_or}
use Rattle.page.specs.Figures.{most_frames, max_usage}
use Rattle.machine.specs.declared.FrameRecord.{FrameRecord}
use Rattle.machine.specs.declared.Standing.{Standing}
use Rattle.machine.specs.declared.Pool.{Pool}
use Rattle.rules.specs.Tests.{pick, ◌and◌}
use Rattle.rules.specs.TestLaws.{and_yes, and_no, pick_yes, pick_no, pick_two}
use Rattle.machine.specs.Machine.{blank, frame_index, with_usage, record_at, is_of, at_ceiling}
use Rattle.machine.specs.Sweep.{Class, rest, warm, yield, Kind, class_of, kind, kind_for, standing, Swept, after, look_leaves, look_takes, most_looks, sweep_from, sweep}
use Rattle.machine.proofs.Laws.SweepLaws.{after-in, Cooler, UsageBlind, looked, looked-cooler, looked-here, looked-other, for-usage-blind, cooled-from}
use Rattle.scan.specs.declared.Walk.{Walk}

-- what a sweep sees of a frame, in one number: its class, and its usage in the lower two bits
unfoldable pub sight : Class → ℕ → ℕ
sight yield u = u
sight warm u = 4 + u
sight rest u = 8 + u

-- from here on a look leaves what it was: the usage of a frame that it warms is the largest, or the frame is left alone
abbrev pub warmest : ℕ
warmest = 7

-- what a look leaves of it: one usage less, one more to 3 at most, or what it was
unfoldable pub looked_at : ℕ → ℕ
looked_at v = pick (ltb v 4) (v - 1) (pick (ltb v warmest) (v + 1) v)

-- the record with the usage that a sweep left of it
unfoldable pub cooled_to : FrameRecord → ℕ → FrameRecord
cooled_to r v = with_usage r (v % 4)

-- a sweep's end, and what it left of what it saw
pub record WalkEnd : Type 0 where
  pub walk : Walk
  pub left : List ℕ

-- at most m looks more after n looks, the hand at h
unfoldable pub walk_from : ℕ → ℕ → ℕ → List ℕ → ℕ → WalkEnd
walk_from F zero n us h = record { walk = record { frame = None; looks = n; hand = frame_index h }; left = us }
walk_from F (suc m) n us h =
    let next = set us h (looked_at (get_or us h 0)) in
    pick (eqb (get_or us h 0) 0)
    (record { walk = record { frame = Some (frame_index h); looks = n + 1; hand = frame_index (after F h) }; left = next })
    (walk_from F m (n + 1) next (after F h))

-- the end of a sweep that leaves the records rs; where no frame was taken, 0 stands for one
abbrev pub swept_as : Walk → List FrameRecord → Swept
swept_as r rs = record { taken = is_some r.frame; frame = unwrap_or r.frame (frame_index 0); looks = r.looks; records = rs; hand = r.hand }

-- the sweep of F frames from h on, over what it saw, us, ended as r and left vs
pub record Walked (F h : ℕ) (us vs : List ℕ) (r : Walk) : Type 0 where
  pub ended : r ≡ (walk_from F (most_looks F) 0 us h).walk
  pub left : vs ≡ (walk_from F (most_looks F) 0 us h).left

-- us is what a sweep by the classes k sees of the first n frames
pub record Sees (k : Kind) (rs : List FrameRecord) (us : List ℕ) (n : ℕ) : Type 0 where
  pub size : length us ≡ most_frames
  pub right : (g : ℕ) → g < n → get_or us g 0 ≡ sight (k (record_at rs g) g) (record_at rs g).usage

-- the records ts are those of rs with what the sweep left of the first n frames; past the last record none is set
pub record Cools (rs ts : List FrameRecord) (vs : List ℕ) (n : ℕ) : Type 0 where
  pub size : length ts ≡ length rs
  pub done : (g : ℕ) → g < n → g < length rs → record_at ts g ≡ cooled_to (record_at rs g) (get_or vs g 0)
  pub kept : (g : ℕ) → n ≤ g → record_at ts g ≡ record_at rs g

-- ---- seen, and put back, frame by frame

pub sees-none : (k : Kind) (rs : List FrameRecord) (us : List ℕ) → length us ≡ most_frames → Sees k rs us 0
sees-none k rs us l = record { size = l; right = λ g h. absurd (omega arith) }

pub sees-next : {k : Kind} {rs : List FrameRecord} {us : List ℕ} {n v : ℕ} → Sees k rs us n → n < most_frames → v ≡ sight (k (record_at rs n) n) (record_at rs n).usage → Sees k rs (set us n v) (n + 1)
sees-next {k} {rs} {us} {n} {v} s l e = record { size = length-set us n v ∙ s.size; right = right }
  where
    right : (g : ℕ) → g < n + 1 → get_or (set us n v) g 0 ≡ sight (k (record_at rs g) g) (record_at rs g).usage
    right g h = elim (ℕ_discrete g n) [
      | yes q ↦ rw q (get_or-set_same us n v 0 (omega (arith, s.size)) ∙ e)
      | no q ↦ get_or-set_other us n g v 0 q ∙ s.right g (omega arith)
    ]

pub cools-none : (rs : List FrameRecord) (vs : List ℕ) → Cools rs rs vs 0
cools-none rs vs = record { size = refl; done = λ g k l. absurd (omega arith); kept = λ g k. refl }

pub cools-next : {rs ts : List FrameRecord} {vs : List ℕ} {n : ℕ} {r : FrameRecord} → Cools rs ts vs n → r ≡ cooled_to (record_at ts n) (get_or vs n 0) → Cools rs (set ts n r) vs (n + 1)
cools-next {rs} {ts} {vs} {n} {r} c e = record {
  size = length-set ts n r ∙ c.size;
  done = done;
  kept = λ g k. get_or-set_other ts n g r blank (omega arith) ∙ c.kept g (omega arith);
}
  where
    done : (g : ℕ) → g < n + 1 → g < length rs → record_at (set ts n r) g ≡ cooled_to (record_at rs g) (get_or vs g 0)
    done g k l = elim (ℕ_discrete g n) [
      | yes q ↦ rw q (get_or-set_same ts n r blank (omega (arith, c.size)) ∙ e ∙ ap (λ (x : FrameRecord). cooled_to x (get_or vs n 0)) (c.kept n (omega arith)))
      | no q ↦ get_or-set_other ts n g r blank q ∙ c.done g (omega arith) l
    ]

-- no other records are those
cools-same : (rs ts qs : List FrameRecord) (vs : List ℕ) (n : ℕ) → Cools rs ts vs n → Cools rs qs vs n → ts ≡ qs
cools-same rs ts qs vs n a b = ext_get_or blank ts qs (a.size ∙ sym b.size) each
  where
    each : (g : ℕ) → g < length ts → record_at ts g ≡ record_at qs g
    each g l = elim (dec_lt g n) [
      | yes k ↦ let i : g < length rs = omega (arith, a.size) in a.done g k i ∙ sym (b.done g k i)
      | no k ↦ a.kept g (omega arith) ∙ sym (b.kept g (omega arith))
    ]

-- ---- what the code sees

module _ (T : ℕ) (r : FrameRecord) (fs : List ℕ) (f u : ℕ) {resting : Bool} where
  -- a frame at rest, and one that isn't
  pub sight-resting : resting ≡ true → sight rest u ≡ sight (pick resting rest (kind T fs r f)) u
  sight-resting e = ap (λ (c : Class). sight c u) (pick_yes _ e refl)

  pub sight-by : {a : Standing} → a ≡ standing T r fs f → resting ≡ false → sight (class_of a) u ≡ sight (pick resting rest (kind T fs r f)) u
  sight-by e i = ap (λ (a : Standing). sight (class_of a) u) e ∙ ap (λ (c : Class). sight c u) (pick_no _ i refl)

-- at rest are, for a store at its ceiling, the frames that hold no page of it
pub sight-for : (p : Pool) (fs : List ℕ) (t : ℕ) (r : FrameRecord) (f u : ℕ) {resting : Bool} → resting ≡ (at_ceiling p t and not (is_of t r))
    → sight (pick resting rest (kind p.stores fs r f)) u ≡ sight (kind_for p fs t r f) u
unfolding kind_for
sight-for p fs t r f u e = rw e refl

-- ---- what a look at a number does

module _ (F m n : ℕ) (us : List ℕ) (h : ℕ) where
  pub walk-takes : get_or us h 0 ≡ 0 → walk_from F (suc m) n us h ≡ record { walk = record { frame = Some (frame_index h); looks = n + 1; hand = frame_index (after F h) }; left = us }
  unfolding walk_from looked_at pick
  walk-takes e =
      let l : set us h (get_or us h 0) ≡ us = set-get_or us h 0 in
      let s : set us h 0 ≡ us = rw e at l in
      rw (e, s)

  pub walk-goes : get_or us h 0 ≢ 0 → walk_from F (suc m) n us h ≡ walk_from F m (n + 1) (set us h (looked_at (get_or us h 0))) (after F h)
  unfolding walk_from
  walk-goes z = sym (pick_no _ (ne_eqb _ 0 z) refl)

  pub walk-passes : warmest ≤ get_or us h 0 → walk_from F (suc m) n us h ≡ walk_from F m (n + 1) us (after F h)
  unfolding looked_at
  walk-passes k =
      let v : looked_at (get_or us h 0) ≡ get_or us h 0 = sym (pick_no _ (le-ltb (get_or us h 0) 4 (omega arith)) (pick_no _ (le-ltb _ warmest k) refl)) in
      let s : set us h (get_or us h 0) ≡ us = set-get_or us h 0 in
      walk-goes (λ e. omega arith) ∙ rw (v, s)

-- ---- a look at the number is the look at the record

takes_same : (r : FrameRecord) (c : Class) → look_takes r c ≡ eqb (sight c r.usage) 0
unfolding look_takes sight
takes_same r rest = sym (and_no _ refl) ∙ sym (ne_eqb (8 + r.usage) 0 (λ e. omega arith))
takes_same r warm = sym (and_no _ refl) ∙ sym (ne_eqb (4 + r.usage) 0 (λ e. omega arith))
takes_same r yield = sym (and_yes refl refl)

leaves-same : (r : FrameRecord) (c : Class) → r.usage ≤ max_usage → looked_at (sight c r.usage) ≡ sight c (look_leaves r c).usage
unfolding looked_at sight look_leaves pick
leaves-same r rest l = rw (le-ltb (8 + r.usage) 4 (omega arith), le-ltb (8 + r.usage) 7 (omega arith))
leaves-same r warm l = rw (le-ltb (4 + r.usage) 4 (omega arith)) (elim (dec_lt (4 + r.usage) 7) [
  | yes k ↦ rw (lt-ltb (4 + r.usage) 7 k) (omega arith)
  | no k ↦ rw (le-ltb (4 + r.usage) 7 (omega arith)) (omega arith)
])
leaves-same r yield l = rw (lt-ltb r.usage 4 (omega arith))

usage-in : (c : Class) (u : ℕ) → u ≤ max_usage → sight c u % 4 ≡ u
unfolding sight
usage-in rest u l = omega arith
usage-in warm u l = omega arith
usage-in yield u l = omega arith

-- a record that differs in its usage is the other with that usage
cooled-to : (r q : FrameRecord) (v : ℕ) → Cooler r q → v % 4 ≡ q.usage → q ≡ cooled_to r v
unfolding cooled_to
cooled-to r q v c e = rw (e, ← c.used, ← c.dirty, ← c.slot, ← c.parent, ← c.store, ← c.pins, ← c.page)

-- ---- the same sweep

-- no usage of the first F frames is above the largest
abbrev pub Few : List FrameRecord → ℕ → Type 0
Few rs F = (g : ℕ) → g < F → (record_at rs g).usage ≤ max_usage

-- from the records rs the one ended as the other, and its records are seen as what that left
record Alike (k : Kind) (F : ℕ) (rs : List FrameRecord) (v : Swept) (e : WalkEnd) : Type 0 where
  ended : v ≡ swept_as e.walk v.records
  sees : Sees k v.records e.left F
  kept : (g : ℕ) → F ≤ g → record_at v.records g ≡ record_at rs g

module _ (k : Kind) (K : UsageBlind k) (F : ℕ) (most : F ≤ most_frames) where
  module _ (rs : List FrameRecord) (us : List ℕ) (h : ℕ) (l : h < F) (few : Few rs F) (s : Sees k rs us F) where
    abbrev next : List ℕ
    next = set us h (looked_at (get_or us h 0))

    few-next : Few (looked k rs h) F
    few-next g i = (looked-cooler k K rs h g).usage (few g i)

    same-take : look_takes (record_at rs h) (k (record_at rs h) h) ≡ eqb (get_or us h 0) 0
    same-take = takes_same (record_at rs h) (k (record_at rs h) h) ∙ ap (λ (v : ℕ). eqb v 0) (sym (s.right h l))

    sees-at : get_or next h 0 ≡ sight (k (record_at (looked k rs h) h) h) (record_at (looked k rs h) h).usage
    sees-at =
        get_or-set_same us h _ 0 (omega (arith, s.size)) ∙ ap looked_at (s.right h l) ∙ leaves-same (record_at rs h) (k (record_at rs h) h) (few h l)
        ∙ sym (rw (K.same (record_at rs h) (record_at (looked k rs h) h) h (looked-cooler k K rs h h), looked-here k K rs h) refl)

    sees-looked : Sees k (looked k rs h) next F
    sees-looked = record { size = length-set us h _ ∙ s.size; right = right }
      where
        right : (g : ℕ) → g < F → get_or next g 0 ≡ sight (k (record_at (looked k rs h) g) g) (record_at (looked k rs h) g).usage
        right g i = elim (ℕ_discrete g h) [
          | yes q ↦ rw q sees-at
          | no q ↦ get_or-set_other us h g _ 0 q ∙ s.right g i ∙ sym (rw (looked-other k rs h g q))
        ]

    kept-looked : (g : ℕ) → F ≤ g → record_at (looked k rs h) g ≡ record_at rs g
    kept-looked g i = looked-other k rs h g (λ q. omega arith)

    alike_then : (v : Swept) (e : WalkEnd) → Alike k F (looked k rs h) v e → Alike k F rs v e
    alike_then v e a = record { ended = a.ended; sees = a.sees; kept = λ g i. a.kept g i ∙ kept-looked g i }

  alike : (m n : ℕ) (rs : List FrameRecord) (us : List ℕ) (h : ℕ) → h < F → Few rs F → Sees k rs us F → Alike k F rs (sweep_from k F m n rs h) (walk_from F m n us h)
  unfolding sweep_from walk_from
  alike zero n rs us h l few s = record { ended = refl; sees = s; kept = λ g i. refl }
  alike (suc m) n rs us h l few s =
      rw (same-take rs us h l few s) (pick_two (Alike k F rs) (eqb (get_or us h 0) 0) _ _ _ _
      (record { ended = refl; sees = sees-looked rs us h l few s; kept = kept-looked rs us h l few s })
      (alike_then rs us h l few s _ _ (alike m (n + 1) (looked k rs h) (next rs us h l few s) (after F h) (after-in F h l) (few-next rs us h l few s) (sees-looked rs us h l few s))))

  -- the records that the sweep leaves are those of rs with what the other left
  cools-swept : (m n : ℕ) (rs : List FrameRecord) (us : List ℕ) (h : ℕ) → h < F → Few rs F → Sees k rs us F → Cools rs (sweep_from k F m n rs h).records (walk_from F m n us h).left F
  cools-swept m n rs us h l few s =
      let a = alike m n rs us h l few s in
      let c = cooled-from k K F m n rs h l in
      record {
        size = c.size;
        done = λ g i j. cooled-to (record_at rs g) _ _ (c.each g) (ap (λ (v : ℕ). v % 4) (a.sees.right g i) ∙ usage-in _ _ ((c.each g).usage (few g i)));
        kept = a.kept;
      }

-- the same sweep, where no usage is above the largest: it ends alike
module _ (p : Pool) (fs : List ℕ) (t : ℕ) (us vs : List ℕ) (r : Walk) (most : p.count ≤ most_frames) (hand : p.hand.0 < p.count) (few : Few p.records p.count) (s : Sees (kind_for p fs t) p.records us p.count) (w : Walked p.count p.hand.0 us vs r) where
  pub same_end : sweep p fs t ≡ swept_as r (sweep p fs t).records
  same_end = (alike (kind_for p fs t) (for-usage-blind p fs t) p.count most (most_looks p.count) 0 p.records us p.hand.0 hand few s).ended ∙ ap (λ (x : Walk). swept_as x (sweep p fs t).records) (sym w.ended)

  -- and leaves the same records
  pub same-sweep : (ts : List FrameRecord) → Cools p.records ts vs p.count → sweep p fs t ≡ swept_as r ts
  same-sweep ts c =
      let a = cools-swept (kind_for p fs t) (for-usage-blind p fs t) p.count most (most_looks p.count) 0 p.records us p.hand.0 hand few s in
      let e : ts ≡ (sweep p fs t).records = cools-same p.records ts _ vs p.count c (rw w.left a) in
      same_end ∙ ap (swept_as r) (sym e)
