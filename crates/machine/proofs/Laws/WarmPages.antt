-- Request A.5, "Pages in use should stay warm": the sweep, and fix by it, against document 01's, which leaves a pinned page its heat. Assumes nothing.
use Prim.Native.Nat.{ℕ, zero, suc, ◌+◌, ◌-◌, ◌<◌, ◌≤◌, min}
use Rattle.std.specs.Prelude.{◌≡◌, ◌≢◌, Bool, not, eqb, ltb, length, set}
use Rattle.std.proofs.Math.Path.{refl, sym, ap, fun_ext}
use Rattle.std.proofs.Common.{◌∙◌, arith, length-set, get_or-set_same}
use Rattle.std.proofs.Math.Bool.{true, false}
use mathlib.Core.List.{List, [], ◌∷◌, ◌++◌}
use Rattle.std.proofs.Math.Decide.{dec_lt, ℕ_discrete}
use Rattle.std.proofs.lemmas.Bool.{not-true, not-false}
use Rattle.std.proofs.Math.Seq.{get_or-set_other}
use Rattle.page.specs.Figures.{max_usage}
use Rattle.page.specs.Word.{is_number, frame_in}
use Rattle.page.specs.declared.StoreNumber.{StoreNumber}
use Rattle.machine.specs.declared.FrameRecord.{FrameRecord}
use Rattle.machine.specs.declared.Handle.{Handle}
use Rattle.machine.specs.declared.Pool.{Pool}
use Rattle.machine.specs.declared.Standing.{Standing}
use Rattle.machine.specs.declared.Standing.TheVariants.{Root, Pinned, Parent, Evictable}
use Rattle.rules.specs.Tests.{pick, ◌and◌, ◌or◌, some, Rule, first_broken, verdict}
use Rattle.machine.specs.Machine.{State, with_pool, blank, loaded_record, pinned, warmed, cooled, with_usage, record_at, page_in, is_of, at_ceiling}
use Rattle.machine.specs.Moves.{written_out_by, evicted, loaded}
use Rattle.machine.specs.Sweep.{Class, rest, warm, yield, Kind, class_of, kind, kind_for, standing, is_open, Swept, after, first_empty, look_leaves, look_takes, sweep_from, most_looks, sweep, with_swept}
use Rattle.machine.specs.Answers.{refused, handle, Out, out}
use Rattle.machine.specs.Rules.{word_of, rule13, rule14, rule15, rule27}
use Rattle.machine.specs.Calls.{decide, change_record, pinned_out, loaded_out, swept_out, miss_out, fix_entry_rules, fix_rules, fix_call}
use Rattle.machine.specs.History.{accepted}
use Rattle.rules.specs.TestLaws.{clash, case, on, off, is-off, and-true, both, first-kept, numbered, parts-kept, pick_yes, pick_no, pick-either, pick_two}
use Rattle.machine.proofs.Laws.Flags.{same_flag}
use Rattle.machine.proofs.Laws.HeldLaws.{of-same}
use Rattle.machine.proofs.Laws.Standings.{HasSwizzled, numbers-alone, root_stands, pinned_stands, parent_stands, open_stands, stands}
use Rattle.machine.proofs.Laws.SweepLaws.{Away, Cooler, cooler-self, cooler-then, rest-not-warm, yield-not-warm, UsageBlind, open-class, standing-same, for-usage-blind, looked, set_past, looked-here, looked-other, looked-cooler, is_loose, sweep-looks, sweep-looked, taken-exactly, RoundsOfBoth, rounds-of-both}
use Rattle.machine.proofs.Laws.Turns.{looks_at, Times, looks-at, looks_leave, looks-rest, looks-warm, looks-yield, looks-leave, Chosen, chosen}
use Rattle.machine.proofs.Laws.RuleLaws.{decide-yes}
use Rattle.machine.proofs.Laws.Outcomes.{answers-as, leaves-as, refused-by, refused-leaves, fix-accepted, load_rules}

-- ---- document 01's sweep, and fix by it: definitions for these laws alone, which no call cites

-- "The root, a pinned page and a page with a swizzled word are passed over."
abbrev pub class_before : Standing → Class
class_before Root = rest
class_before Pinned = rest
class_before Parent = rest
class_before Evictable = yield

abbrev pub kind_before : ℕ → List ℕ → Kind
kind_before T fs r f = class_before (standing T r fs f)

-- for a page of store t, as request A.11 has it: at its ceiling a store "sweeps its own pages only"
unfoldable pub kind_for_before : Pool → List ℕ → ℕ → Kind
kind_for_before p fs t r f = pick (at_ceiling p t and not (is_of t r)) rest (kind_before p.stores fs r f)

abbrev pub sweep_before : Pool → List ℕ → ℕ → Swept
sweep_before p fs t = sweep_from (kind_for_before p fs t) p.count (most_looks p.count) 0 p.records p.hand.0

-- 15. "No frame is empty and a sweep could take none.", and request A.11's 27 beside it
abbrev pub rule15_before : State → ℕ → Rule
rule15_before s t = (15, at_ceiling s.pool t or ltb (first_empty s.pool) s.pool.count or (sweep_before s.pool s.frames t).taken)

abbrev pub rule27_before : State → ℕ → Rule
rule27_before s t = (27, not (at_ceiling s.pool t) or (sweep_before s.pool s.frames t).taken)

-- "With an empty frame, loading uses the first empty one at or after the hand. Otherwise", a sweep
abbrev pub miss_out_before : State → ℕ → ℕ → ℕ → ℕ → Out
miss_out_before s f k t q =
    let e = first_empty s.pool in
    pick (not (at_ceiling s.pool t) and ltb e s.pool.count) (loaded_out s f k e t q 0) (swept_out s f k t q (sweep_before s.pool s.frames t))

abbrev pub fix_rules_before : State → Handle → ℕ → List Rule
fix_rules_before s h k =
    let w = word_of s h k in
    let t = h.store.0 in
    fix_entry_rules s h k ++ pick (is_number w) (rule14 s t w ∷ rule15_before s t ∷ rule27_before s t ∷ []) (rule13 s (frame_in w) ∷ [])

unfoldable pub fix_call_before : State → Handle → ℕ → Out
fix_call_before s h k =
    let w = word_of s h k in
    decide s (fix_rules_before s h k) (pick (is_number w) (miss_out_before s h.frame.0 k h.store.0 w) (pinned_out s (frame_in w)))

-- ---- what is claimed of a sweep for a page of store t, over any records

-- a frame that the sweep doesn't leave unchanged, whatever it holds: one of the store itself, where that is at its ceiling
abbrev pub TakesPart : Pool → ℕ → ℕ → Type 0
TakesPart p t g = at_ceiling p t ≡ true → is_of t (record_at p.records g) ≡ true

-- "a pinned page other than the root", any store's: in use, in the words of the title
abbrev pub InUse : Pool → ℕ → ℕ → Type 0
InUse p t g = TakesPart p t g × (p.stores ≤ g) × ((record_at p.records g).pins ≢ 0)

-- the looks of the sweep that fall on frame g
abbrev pub looks_on : Pool → List ℕ → ℕ → ℕ → ℕ
looks_on p fs t g = looks_at p.count (sweep p fs t).looks p.hand.0 g

-- two sweeps took the same frame, or none, by the same looks, and left the hand at the same place
pub record EndsAlike (v w : Swept) : Type 0 where
  pub taken : v.taken ≡ w.taken
  pub frame : v.frame ≡ w.frame
  pub looks : v.looks ≡ w.looks
  pub hand : v.hand ≡ w.hand

-- a record, r, beside document 01's, q: the same, or, where Warms, with another usage
pub data Beside (Warms : Type 0) (r q : FrameRecord) : Type 0 where
  unchanged : r ≡ q → Beside Warms r q
  other_usage : Warms → r ≡ with_usage q r.usage → Beside Warms r q

pub record StayWarm (p : Pool) (fs : List ℕ) (t : ℕ) : Type 0 where
  -- "Each look of a sweep that passes over a pinned page other than the root raises its heat by one, to 3 at most.": children or not, from a heat in its range
  pub raised : (g : ℕ) → InUse p t g → (record_at p.records g).usage ≤ max_usage
      → record_at (sweep p fs t).records g ≡ with_usage (record_at p.records g) (min max_usage ((record_at p.records g).usage + looks_on p fs t g))
  -- how many looks those are, of a frame d on from the hand
  pub often : p.hand.0 < p.count → (g d : ℕ) → g < p.count → Away p.count p.hand.0 g d → Times p.count (sweep p fs t).looks d (looks_on p fs t g)
  -- "other than the root"; request A.11: "every root passed over unchanged"
  pub root : (g : ℕ) → g < p.stores → record_at (sweep p fs t).records g ≡ record_at p.records g
  -- request A.11, at the ceiling: "any other frame costs a look and is left unchanged"
  pub others : (g : ℕ) → (TakesPart p t g → ⊥) → record_at (sweep p fs t).records g ≡ record_at p.records g
  -- "Pages passed over for children alone keep their heat."
  pub alone : (g : ℕ) → (record_at p.records g).pins ≡ 0 → HasSwizzled fs g → record_at (sweep p fs t).records g ≡ record_at p.records g
  -- document 01: "Any other with heat above 0 loses 1."
  pub lost : (g : ℕ) → TakesPart p t g → is_open p.stores (record_at p.records g) fs g ≡ true
      → record_at (sweep p fs t).records g ≡ with_usage (record_at p.records g) ((record_at p.records g).usage - looks_on p fs t g)
  -- "The 4 × F bound is to be shown again."
  pub bound : (sweep p fs t).looks ≤ most_looks p.count
  -- and so many looks are enough: a frame is taken exactly where the sweep could take one of the F, if hand and heats are in their ranges
  pub exactly : p.hand.0 < p.count → ((g : ℕ) → g < p.count → (record_at p.records g).usage ≤ max_usage)
      → (sweep p fs t).taken ≡ some p.count (λ g. is_loose p fs t (record_at p.records g) g)
  -- request A.11: both, for a store at its ceiling and for one below it, by what each could take
  pub rounds : RoundsOfBoth p fs t
  -- the frame that is taken is such a one, and of these the one whose look is due first: pages in use have no part in it
  pub goes : p.hand.0 < p.count → (sweep p fs t).taken ≡ true → Chosen (kind_for p fs t) p.count 0 p.hand.0 p.records (sweep p fs t)
  -- all else is document 01's
  pub ends : EndsAlike (sweep p fs t) (sweep_before p fs t)
  pub size : length (sweep p fs t).records ≡ length (sweep_before p fs t).records
  pub each : (g : ℕ) → Beside (InUse p t g) (record_at (sweep p fs t).records g) (record_at (sweep_before p fs t).records g)

-- ---- what is claimed of fix, on every input

-- two calls on the pool p, for a page of store t, answer the same, and leave the same but for the usage of pages in use
pub record LeftAlike (p : Pool) (t : ℕ) (a b : Out) : Type 0 where
  pub answer : a.answer ≡ b.answer
  pub frames : a.left.frames ≡ b.left.frames
  pub store : a.left.store ≡ b.left.store
  pub directory : a.left.directory ≡ b.left.directory
  pub count : a.left.pool.count ≡ b.left.pool.count
  pub pages : a.left.pool.pages ≡ b.left.pool.pages
  pub stores : a.left.pool.stores ≡ b.left.pool.stores
  pub ceilings : a.left.pool.ceilings ≡ b.left.pool.ceilings
  pub hand : a.left.pool.hand ≡ b.left.pool.hand
  pub size : length a.left.pool.records ≡ length b.left.pool.records
  pub each : (g : ℕ) → Beside (InUse p t g) (record_at a.left.pool.records g) (record_at b.left.pool.records g)

-- every record but that of frame f is as rs has it
abbrev pub OthersAs : List FrameRecord → ℕ → State → Type 0
OthersAs rs f t = (g : ℕ) → g ≢ f → record_at t.pool.records g ≡ record_at rs g

pub record OnlyUsages (s : State) (h : Handle) (k : ℕ) : Type 0 where
  -- all but the heat of pages in use is document 01's
  pub alike : LeftAlike s.pool h.store.0 (fix_call s h k) (fix_call_before s h k)
  -- where it made looks, they are those of the sweep, the frame is the one that this took, and every record but that of the page that came in is as it leaves it
  pub swept : (f t q n : ℕ) → n ≢ 0 → (fix_call s h k).answer ≡ handle f t q n → let v = sweep s.pool s.frames h.store.0 in
      (n ≡ v.looks) × (f ≡ v.frame.0) × OthersAs v.records f (fix_call s h k).left
  -- "Each look of a sweep": where it made none, all is document 01's, and every record but that of the page that it pinned is as it was
  pub unswept : (f t q : ℕ) → (fix_call s h k).answer ≡ handle f t q 0 → (fix_call s h k ≡ fix_call_before s h k) × OthersAs s.pool.records f (fix_call s h k).left
  -- document 01: "Nothing else changes." Refused, by whatever number, it leaves all as it was: so a denied load leaves every heat
  pub denied : (n : ℕ) → (fix_call s h k).answer ≡ refused n → (fix_call s h k).left ≡ s

-- ---- the classes

module _ (T : ℕ) (r : FrameRecord) (fs : List ℕ) (f : ℕ) where
  pinned-class : T ≤ f → r.pins ≢ 0 → kind T fs r f ≡ warm
  pinned-class n z = elim (stands T r fs f) [
    | root_stands e a ↦ absurd (omega arith)
    | pinned_stands e a b ↦ ap class_of e
    | parent_stands e a b c ↦ absurd (z b)
    | open_stands e a b c ↦ absurd (z b)
  ]

  parent-class : r.pins ≡ 0 → HasSwizzled fs f → kind T fs r f ≡ rest
  parent-class z w = elim (stands T r fs f) [
    | root_stands e a ↦ ap class_of e
    | pinned_stands e a b ↦ absurd (b z)
    | parent_stands e a b c ↦ ap class_of e
    | open_stands e a b c ↦ absurd (let l = numbers-alone fs f c w.0 w.1 in omega (arith, w.2))
  ]

  root-class : f < T → kind T fs r f ≡ rest
  root-class l = elim (stands T r fs f) [
    | root_stands e a ↦ ap class_of e
    | pinned_stands e a b ↦ absurd (omega arith)
    | parent_stands e a b c ↦ absurd (omega arith)
    | open_stands e a b c ↦ absurd (omega arith)
  ]

-- in a sweep for a page of store t: whether the frame is one that this leaves unchanged, whatever it holds
abbrev rests_for : Pool → ℕ → FrameRecord → Bool
rests_for p t r = at_ceiling p t and not (is_of t r)

module _ (p : Pool) (fs : List ℕ) (t : ℕ) (r : FrameRecord) (f : ℕ) where
  rests-class : rests_for p t r ≡ true → kind_for p fs t r f ≡ rest
  unfolding kind_for
  rests-class e = sym (pick_yes _ e refl)

  part-class : rests_for p t r ≡ false → kind_for p fs t r f ≡ kind p.stores fs r f
  unfolding kind_for
  part-class e = sym (pick_no _ e refl)

  rests-before : rests_for p t r ≡ true → kind_for_before p fs t r f ≡ rest
  unfolding kind_for_before
  rests-before e = sym (pick_yes _ e refl)

  part-before : rests_for p t r ≡ false → kind_for_before p fs t r f ≡ kind_before p.stores fs r f
  unfolding kind_for_before
  part-before e = sym (pick_no _ e refl)

  -- by the claims' words
  takes_part : (at_ceiling p t ≡ true → is_of t r ≡ true) → rests_for p t r ≡ false
  takes_part h = is-off _ (λ e. let a = and-true (at_ceiling p t) (not (is_of t r)) e in clash (sym (h a.0) ∙ not-true (is_of t r) a.1))

  rest-anyway : kind p.stores fs r f ≡ rest → kind_for p fs t r f ≡ rest
  rest-anyway e = elim (case (rests_for p t r)) [ on x ↦ rests-class x | off x ↦ part-class x ∙ e ]

  rest-apart : ((at_ceiling p t ≡ true → is_of t r ≡ true) → ⊥) → kind_for p fs t r f ≡ rest
  rest-apart n = elim (case (rests_for p t r)) [
    | on x ↦ rests-class x
    | off x ↦ absurd (n (λ a. not-false (is_of t r) (is-off _ (λ y. clash (sym (both (at_ceiling p t) _ a y) ∙ x)))))
  ]

before-usage-blind : (p : Pool) (fs : List ℕ) (t : ℕ) → UsageBlind (kind_for_before p fs t)
before-usage-blind p fs t = record { same = same_class; pinned = λ r f e. absurd (none-warm r f e) }
  where
    same_class : (r q : FrameRecord) (f : ℕ) → Cooler r q → kind_for_before p fs t q f ≡ kind_for_before p fs t r f
    same_class r q f c = unfold kind_for_before in rw (standing-same p.stores r q fs f c.pins, c.used, c.store)

    none : (a : Standing) → class_before a ≡ warm → ⊥
    none Root e = rest-not-warm e
    none Pinned e = rest-not-warm e
    none Parent e = rest-not-warm e
    none Evictable e = yield-not-warm e

    none-warm : (r : FrameRecord) (f : ℕ) → kind_for_before p fs t r f ≡ warm → ⊥
    none-warm r f = unfold kind_for_before in pick-either (λ (c : Class). c ≡ warm → ⊥) _ rest (kind_before p.stores fs r f) rest-not-warm (none (standing p.stores r fs f))

-- ---- one look of both

only-usage : {Warms : Type 0} {r q : FrameRecord} → Beside Warms r q → r ≡ with_usage q r.usage
only-usage (unchanged e) = rw e
only-usage (other_usage u e) = e

module _ (p : Pool) (fs : List ℕ) (t f : ℕ) {Warms : Type 0} {r q : FrameRecord} (B : Beside Warms r q) where
  same-standing : standing p.stores r fs f ≡ standing p.stores q fs f
  same-standing = standing-same p.stores q r fs f (ap (λ (x : FrameRecord). x.pins) (only-usage B))

  same-rests : rests_for p t r ≡ rests_for p t q
  same-rests = ap (rests_for p t) (only-usage B)

  -- of a page that isn't in use the records are the same
  same_otherwise : (Warms → ⊥) → r ≡ q
  same_otherwise n = elim B [ unchanged e ↦ e | other_usage u e ↦ absurd (n u) ]

  -- the two classes, by where the page stands
  both-classes : (a : Standing) → rests_for p t q ≡ false → standing p.stores q fs f ≡ a → (kind_for p fs t r f ≡ class_of a) × (kind_for_before p fs t q f ≡ class_before a)
  both-classes a x e = (part-class p fs t r f (same-rests ∙ x) ∙ ap class_of (same-standing ∙ e), part-before p fs t q f x ∙ ap class_before e)

  look-beside : (Warms → q.pins ≢ 0) → (rests_for p t q ≡ false → p.stores ≤ f → q.pins ≢ 0 → Warms) → Beside Warms (look_leaves r (kind_for p fs t r f)) (look_leaves q (kind_for_before p fs t q f))
  unfolding look_leaves
  look-beside n u = elim (case (rests_for p t q)) [
    | on x ↦ rw (rests-class p fs t r f (same-rests ∙ x), rests-before p fs t q f x) B
    | off x ↦ elim (stands p.stores q fs f) [
      | root_stands e a ↦ let c = both-classes _ x e in rw (c.0, c.1) B
      | pinned_stands e a b ↦ let c = both-classes _ x e in rw (c.0, c.1) (other_usage (u x a b) (ap warmed (only-usage B)))
      | parent_stands e a b d ↦ let c = both-classes _ x e in rw (c.0, c.1) B
      | open_stands e a b d ↦ let c = both-classes _ x e in rw (c.0, c.1) (unchanged (ap cooled (same_otherwise (λ y. n y b))))
    ]
  ]

  takes_beside : (Warms → q.pins ≢ 0) → look_takes r (kind_for p fs t r f) ≡ look_takes q (kind_for_before p fs t q f)
  unfolding look_takes ◌and◌
  takes_beside n = elim (case (rests_for p t q)) [
    | on x ↦ rw (rests-class p fs t r f (same-rests ∙ x), rests-before p fs t q f x)
    | off x ↦ elim (stands p.stores q fs f) [
      | root_stands e a ↦ let c = both-classes _ x e in rw (c.0, c.1)
      | pinned_stands e a b ↦ let c = both-classes _ x e in rw (c.0, c.1)
      | parent_stands e a b d ↦ let c = both-classes _ x e in rw (c.0, c.1)
      | open_stands e a b d ↦ let c = both-classes _ x e in rw (c.0, c.1, same_otherwise (λ y. n y b))
    ]
  ]

-- ---- the two sweeps side by side, from the records of p

-- as many records of the one as of the other, each beside its counterpart
record Side (p : Pool) (t : ℕ) (rs qs : List FrameRecord) : Type 0 where
  size : length rs ≡ length qs
  each : (g : ℕ) → Beside (InUse p t g) (record_at rs g) (record_at qs g)

record BothEnd (p : Pool) (t : ℕ) (v w : Swept) : Type 0 where
  ends : EndsAlike v w
  side : Side p t v.records w.records

module _ (p : Pool) (fs : List ℕ) (t : ℕ) where
  -- the records are p's but for their usage
  abbrev UsageApart : List FrameRecord → Type 0
  UsageApart qs = (g : ℕ) → Cooler (record_at p.records g) (record_at qs g)

  apart-looked : (qs : List FrameRecord) (h : ℕ) → UsageApart qs → UsageApart (looked (kind_for_before p fs t) qs h)
  apart-looked qs h P g = cooler-then _ _ _ (P g) (looked-cooler (kind_for_before p fs t) (before-usage-blind p fs t) qs h g)

  module _ (rs qs : List FrameRecord) (h : ℕ) (P : UsageApart qs) (S : Side p t rs qs) where
    in-use-pinned : (g : ℕ) → InUse p t g → (record_at qs g).pins ≢ 0
    in-use-pinned g u z = u.2 (sym (P g).pins ∙ z)

    -- what takes part is in use where it is pinned and no root
    part-in-use : rests_for p t (record_at qs h) ≡ false → p.stores ≤ h → (record_at qs h).pins ≢ 0 → InUse p t h
    part-in-use x l z = (
      λ a. sym (of-same t (record_at p.records h) (record_at qs h) (same_flag (P h).used) (ap (λ (u : StoreNumber). u.0) (P h).store)) ∙ not-false _ (is-off _ (λ y. clash (sym (both (at_ceiling p t) _ a y) ∙ x))),
      l,
      λ y. z ((P h).pins ∙ y),
    )

    takes-alike : look_takes (record_at rs h) (kind_for p fs t (record_at rs h) h) ≡ look_takes (record_at qs h) (kind_for_before p fs t (record_at qs h) h)
    takes-alike = takes_beside p fs t h (S.each h) (in-use-pinned h)

    side-looked : Side p t (looked (kind_for p fs t) rs h) (looked (kind_for_before p fs t) qs h)
    side-looked = record { size = length-set rs h _ ∙ S.size ∙ sym (length-set qs h _); each = each }
      where
        each : (g : ℕ) → Beside (InUse p t g) (record_at (looked (kind_for p fs t) rs h) g) (record_at (looked (kind_for_before p fs t) qs h) g)
        each g = elim (ℕ_discrete g h) [
          | yes e ↦ rw (e, looked-here (kind_for p fs t) (for-usage-blind p fs t) rs h, looked-here (kind_for_before p fs t) (before-usage-blind p fs t) qs h)
              (look-beside p fs t h (S.each h) (in-use-pinned h) part-in-use)
          | no q ↦ rw (looked-other (kind_for p fs t) rs h g q, looked-other (kind_for_before p fs t) qs h g q) (S.each g)
        ]

  both_end : (F m n : ℕ) (rs qs : List FrameRecord) (h : ℕ) → UsageApart qs → Side p t rs qs → BothEnd p t (sweep_from (kind_for p fs t) F m n rs h) (sweep_from (kind_for_before p fs t) F m n qs h)
  unfolding sweep_from
  both_end F zero n rs qs h P S = record { ends = record { taken = refl; frame = refl; looks = refl; hand = refl }; side = S }
  both_end F (suc m) n rs qs h P S =
      rw (takes-alike rs qs h P S) (pick_two (BothEnd p t) _ _ _ _ _
      (record { ends = record { taken = refl; frame = refl; looks = refl; hand = refl }; side = side-looked rs qs h P S })
      (both_end F m (n + 1) (looked (kind_for p fs t) rs h) (looked (kind_for_before p fs t) qs h) (after F h) (apart-looked qs h P) (side-looked rs qs h P S)))

  sweeps-end : BothEnd p t (sweep p fs t) (sweep_before p fs t)
  sweeps-end = both_end p.count (most_looks p.count) 0 p.records p.records p.hand.0 (λ g. cooler-self _) (record { size = refl; each = λ g. unchanged refl })

  -- ---- the claims

  -- what the looks at a frame leave, by the class of its record
  left_by : (g : ℕ) (c : Class) → kind_for p fs t (record_at p.records g) g ≡ c → record_at (sweep p fs t).records g ≡ looks_leave c (looks_on p fs t g) (record_at p.records g)
  left_by g c e =
      let z : (sweep p fs t).looks - 0 ≡ (sweep p fs t).looks = omega arith in
      looks-leave (kind_for p fs t) (for-usage-blind p fs t) p.count (most_looks p.count) 0 p.records p.hand.0 g
      ∙ ap (λ (a : Class). looks_leave a (looks_at p.count ((sweep p fs t).looks - 0) p.hand.0 g) (record_at p.records g)) e
      ∙ ap (λ (n : ℕ). looks_leave c (looks_at p.count n p.hand.0 g) (record_at p.records g)) z

  -- a frame that takes part has the class of where its page stands
  class-by : (g : ℕ) → TakesPart p t g → kind_for p fs t (record_at p.records g) g ≡ kind p.stores fs (record_at p.records g) g
  class-by g u = let r = record_at p.records g in part-class p fs t r g (takes_part p fs t r g u)

  left_alone : (g : ℕ) → kind_for p fs t (record_at p.records g) g ≡ rest → record_at (sweep p fs t).records g ≡ record_at p.records g
  left_alone g e = left_by g rest e ∙ looks-rest _ _

  pub stay-warm : StayWarm p fs t
  stay-warm = record {
    raised = λ g u l. left_by g warm (class-by g u.0 ∙ pinned-class p.stores (record_at p.records g) fs g u.1 u.2) ∙ looks-warm _ (record_at p.records g) l;
    often = λ l g d g_f a. looks-at p.count (sweep p fs t).looks p.hand.0 g d l g_f a;
    root = λ g l. left_alone g (rest-anyway p fs t _ g (root-class p.stores _ fs g l));
    others = λ g n. left_alone g (rest-apart p fs t _ g n);
    alone = λ g z w. left_alone g (rest-anyway p fs t _ g (parent-class p.stores _ fs g z w));
    lost = λ g u o. left_by g yield (class-by g u ∙ open-class p.stores fs (record_at p.records g) g o) ∙ looks-yield _ (record_at p.records g);
    bound = sweep-looks p fs t;
    exactly = taken-exactly p fs t;
    rounds = rounds-of-both p fs t;
    goes = chosen (kind_for p fs t) (for-usage-blind p fs t) p.count (most_looks p.count) 0 p.records p.hand.0;
    ends = sweeps-end.ends;
    size = sweeps-end.side.size;
    each = sweeps-end.side.each;
  }

-- ---- fix by both

alike_self : (p : Pool) (t : ℕ) (a : Out) → LeftAlike p t a a
alike_self p t a = record { answer = refl; frames = refl; store = refl; directory = refl; count = refl; pages = refl; stores = refl; ceilings = refl; hand = refl; size = refl; each = λ g. unchanged refl }

side_set : (p : Pool) (t : ℕ) (rs qs : List FrameRecord) (e : ℕ) (x : FrameRecord) → Side p t rs qs → Side p t (set rs e x) (set qs e x)
side_set p t rs qs e x S = record { size = length-set rs e x ∙ S.size ∙ sym (length-set qs e x); each = each }
  where
    each : (g : ℕ) → Beside (InUse p t g) (record_at (set rs e x) g) (record_at (set qs e x) g)
    each g = elim (ℕ_discrete g e) [
      | no q ↦ rw (get_or-set_other rs e g x blank q, get_or-set_other qs e g x blank q) (S.each g)
      | yes q ↦ rw q (elim (dec_lt e (length rs)) [
        | yes l ↦ unchanged (get_or-set_same rs e x blank l ∙ sym (get_or-set_same qs e x blank (omega (arith, S.size))))
        | no l ↦ unchanged (set_past rs e x (omega arith) ∙ sym (set_past qs e x (omega (arith, S.size))))
      ])
    ]

module _ (s : State) (t : ℕ) where
  abbrev after-sweep : Swept → State
  after-sweep v = with_pool s (with_swept s.pool v)

  module _ (v w : Swept) (S : Side s.pool t v.records w.records) (e : ℕ) where
    same-pages : page_in v.records ≡ page_in w.records
    same-pages = fun_ext (λ g. ap (λ (r : FrameRecord). r.page.0) (only-usage (S.each g)))

    evicts-frames : (evicted (after-sweep v) e).frames ≡ (evicted (after-sweep w) e).frames
    unfolding evicted
    evicts-frames = rw (only-usage (S.each e))

    evicts-store : (evicted (after-sweep v) e).store ≡ (evicted (after-sweep w) e).store
    unfolding evicted written_out_by
    evicts-store = rw (same-pages, only-usage (S.each e))

    evicts-directory : (evicted (after-sweep v) e).directory ≡ (evicted (after-sweep w) e).directory
    unfolding evicted
    evicts-directory = rw (only-usage (S.each e))

  swept-alike : (f k q : ℕ) (v w : Swept) → BothEnd s.pool t v w → LeftAlike s.pool t (swept_out s f k t q v) (swept_out s f k t q w)
  unfolding loaded evicted
  swept-alike f k q v w B =
      rw (B.ends.frame, B.ends.looks)
      (record {
        answer = refl;
        frames = rw (evicts-frames v w B.side w.frame.0, evicts-store v w B.side w.frame.0);
        store = evicts-store v w B.side w.frame.0;
        directory = rw (evicts-directory v w B.side w.frame.0);
        count = refl;
        pages = refl;
        stores = refl;
        ceilings = refl;
        hand = B.ends.hand;
        size = (side_set s.pool t _ _ w.frame.0 _ (side_set s.pool t v.records w.records w.frame.0 blank B.side)).size;
        each = (side_set s.pool t _ _ w.frame.0 _ (side_set s.pool t v.records w.records w.frame.0 blank B.side)).each;
      })

module _ (s : State) (h : Handle) (k : ℕ) where
  abbrev own : ℕ
  own = h.store.0

  abbrev now : Swept
  now = sweep s.pool s.frames own

  both-sweeps : BothEnd s.pool own now (sweep_before s.pool s.frames own)
  both-sweeps = sweeps-end s.pool s.frames own

  abbrev word : ℕ
  word = word_of s h k

  -- the page comes into an empty frame
  abbrev into_empty : Bool
  into_empty = not (at_ceiling s.pool own) and ltb (first_empty s.pool) s.pool.count

  abbrev when_kept : Out
  when_kept = pick (is_number word) (miss_out s h.frame.0 k own word) (pinned_out s (frame_in word))

  abbrev when_kept_before : Out
  when_kept_before = pick (is_number word) (miss_out_before s h.frame.0 k own word) (pinned_out s (frame_in word))

  same-rules : fix_rules s h k ≡ fix_rules_before s h k
  same-rules = rw both-sweeps.ends.taken

  fix-alike : LeftAlike s.pool own (fix_call s h k) (fix_call_before s h k)
  unfolding fix_call fix_call_before decide verdict miss_out
  fix-alike =
      rw same-rules (pick_two (LeftAlike s.pool own) (eqb (first_broken (fix_rules_before s h k)) 0) _ _ _ _
      (pick_two (LeftAlike s.pool own) (is_number word) _ _ _ _
      (pick_two (LeftAlike s.pool own) into_empty _ _ _ _ (alike_self s.pool own _) (swept-alike s own h.frame.0 k word _ _ both-sweeps))
      (alike_self s.pool own _))
      (alike_self s.pool own _))

  -- ---- by whether it swept

  -- no rule is broken: it sets the record of one frame as document 01's does, or it sweeps
  data Way : Type 0 where
    sets : (e t q : ℕ) (r : FrameRecord) (z : State) → z.pool.records ≡ set s.pool.records e r → fix_call s h k ≡ out (handle e t q 0) z → fix_call s h k ≡ fix_call_before s h k → Way
    sweeps : now.taken ≡ true → fix_call s h k ≡ swept_out s h.frame.0 k own word now → Way

  module _ (e : first_broken (fix_rules s h k) ≡ 0) where
    fixes : fix_call s h k ≡ when_kept
    unfolding fix_call
    fixes = sym (decide-yes s (fix_rules s h k) (sym e) refl refl)

    fixes-before : fix_call_before s h k ≡ when_kept_before
    unfolding fix_call_before
    fixes-before = sym (decide-yes s (fix_rules_before s h k) (sym e ∙ ap first_broken same-rules) refl refl)

    -- where the page comes into no empty frame, the sweep takes one
    room : is_number word ≡ true → into_empty ≡ false → now.taken ≡ true
    unfolding numbered ◌and◌ pick
    room t n =
        let a = parts-kept (fix_entry_rules s h k) (load_rules s own word) refl (rw t at e) in
        let b = first-kept 14 (rule15 s own).1 _ (first-kept 13 _ (rule15 s own ∷ rule27 s own ∷ []) a.1).1 in
        let c = first-kept 26 (rule27 s own).1 [] b.1 in
        by-ceiling (at_ceiling s.pool own) (ltb (first_empty s.pool) s.pool.count) now.taken n b.0 c.0
      where
        by-ceiling : (full vacant taken : Bool) → (not full and vacant) ≡ false → (full or vacant or taken) ≡ true → (not full or taken) ≡ true → taken ≡ true
        by-ceiling true vacant taken n b c = unfold ◌or◌ in c
        by-ceiling false true taken n b c = unfold ◌and◌ in absurd (clash n)
        by-ceiling false false taken n b c = unfold ◌or◌ in b

    resident-way : is_number word ≡ false → Way
    resident-way t =
        let g = frame_in word in
        let r = record_at s.pool.records g in
        let a = fixes ∙ sym (pick_no _ t refl) in
        sets g r.store.0 r.page.0 (pinned r) (change_record s g pinned) refl a (a ∙ pick_no _ t refl ∙ sym fixes-before)

    absent-way : is_number word ≡ true → Way
    unfolding miss_out loaded
    absent-way t = elim (case into_empty) [
      | on l ↦
          let g = first_empty s.pool in
          let a = fixes ∙ sym (pick_yes _ t (pick_yes _ l refl)) in
          sets g own word (loaded_record own word h.frame.0 k) (loaded s h.frame.0 k g own word) refl a (a ∙ pick_yes _ t (pick_yes _ l refl) ∙ sym fixes-before)
      | off l ↦ sweeps (room t l) (fixes ∙ sym (pick_yes _ t (pick_no _ l refl)))
    ]

    way : Way
    way = elim (case (is_number word)) [ on t ↦ absent-way t | off t ↦ resident-way t ]

  -- an accepted fix went one of the ways
  went : (f t q n : ℕ) → (fix_call s h k).answer ≡ handle f t q n → Way
  unfolding fix_call
  went f t q n a = elim (ℕ_discrete (first_broken (fix_rules s h k)) 0) [
    | yes e ↦ way e
    | no z ↦ absurd (clash (ap accepted (sym a ∙ answers-as (refused-by s (fix_rules s h k) when_kept _ z refl))))
  ]

  -- two answers that are one handle have its frame and its looks
  same-frame : {e f t u p q m n : ℕ} → handle e t p m ≡ handle f u q n → e ≡ f
  same-frame i = cc

  same-looks : {e f t u p q m n : ℕ} → handle e t p m ≡ handle f u q n → m ≡ n
  same-looks i = cc

  fix-swept : (f t q n : ℕ) → n ≢ 0 → (fix_call s h k).answer ≡ handle f t q n → (n ≡ now.looks) × (f ≡ now.frame.0) × OthersAs now.records f (fix_call s h k).left
  unfolding loaded evicted
  fix-swept f t q n z a = elim (went f t q n a) [
    | sets e v p r y m x w ↦ absurd (z (sym (same-looks (sym (answers-as x) ∙ a))))
    | sweeps u x ↦
        let i = sym (answers-as x) ∙ a in (
          sym (same-looks i),
          sym (same-frame i),
          λ g o. let c : g ≢ now.frame.0 = λ j. o (j ∙ same-frame i) in
              ap (λ (y : State). record_at y.pool.records g) (leaves-as x) ∙ get_or-set_other (set now.records now.frame.0 blank) now.frame.0 g _ blank c ∙ get_or-set_other now.records now.frame.0 g blank blank c,
        )
  ]

  fix-unswept : (f t q : ℕ) → (fix_call s h k).answer ≡ handle f t q 0 → (fix_call s h k ≡ fix_call_before s h k) × OthersAs s.pool.records f (fix_call s h k).left
  fix-unswept f t q a = elim (went f t q 0 a) [
    | sets e v p r y m x w ↦
        let i = sym (answers-as x) ∙ a in
        (w, λ g o. ap (λ (z : State). record_at z.pool.records g) (leaves-as x) ∙ ap (λ (rs : List FrameRecord). record_at rs g) m ∙ get_or-set_other s.pool.records e g r blank (λ j. o (j ∙ same-frame i)))
    | sweeps u x ↦ absurd (let l = sweep-looked s.pool s.frames own u in omega (arith, same-looks (sym (answers-as x) ∙ a)))
  ]

  fix-refused : (n : ℕ) → (fix_call s h k).answer ≡ refused n → (fix_call s h k).left ≡ s
  unfolding fix_call
  fix-refused = refused-leaves s (fix_rules s h k) when_kept (fix-accepted s h k)

  pub only-usages : OnlyUsages s h k
  only-usages = record { alike = fix-alike; swept = fix-swept; unswept = fix-unswept; denied = fix-refused }
