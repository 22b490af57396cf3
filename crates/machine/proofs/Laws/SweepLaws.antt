-- The laws of the sweep, for a store below its ceiling and for one at it: at most 4 × F looks, a frame is taken exactly where one is open to eviction, of the store itself at its ceiling, usage counts and the hand alone change; and rules 15 and 27 in those words. Assumes nothing.
use Rattle.std.specs.Prelude.{ℕ, zero, suc, ◌+◌, ◌*◌, ◌-◌, ◌<◌, ◌≤◌, ◌≡◌, ◌≢◌, ◌↔◌, Bool, not, List, eqb, ltb, length, set}
use Rattle.std.proofs.Math.Path.{refl}
use Rattle.std.proofs.Common.{sym, ◌∙◌, ap, arith, mul-le-mul_left, lt-ltb, le-ltb, length-set, get_or-set_same, get_or-set_other}
use Rattle.std.proofs.Math.Bool.{true, false}
use Rattle.std.proofs.Math.Decide.{dec_lt, ℕ_discrete}
use Rattle.std.proofs.lemmas.Bool.{eqb-false, not-false}
use Rattle.std.proofs.Math.ListN.{get_or-eq_default}
use Rattle.page.specs.Figures.{max_usage}
use Rattle.machine.specs.declared.FrameRecord.{FrameRecord}
use Rattle.machine.specs.declared.Pool.{Pool}
use Rattle.machine.specs.declared.Standing.{Standing}
use Rattle.machine.specs.declared.Standing.TheVariants.{Root, Pinned, Parent, Evictable}
use Rattle.rules.specs.Tests.{pick, ◌and◌, ◌⇒◌, some}
use Rattle.machine.proofs.Laws.Flags.{same_flag}
use Rattle.rules.specs.TestLaws.{clash, case, on, off, is-off, same, and_left, and-true, both, or-none, or_off, use⇒, make⇒, true-some, some-true, some-ext, pick-either, pick-by}
use Rattle.machine.specs.Machine.{State, with_pool, blank, is_used, record_at, is_of, at_ceiling}
use Rattle.machine.proofs.Laws.AgreementFacts.{InRange}
use Rattle.machine.specs.Sweep.{Class, rest, warm, yield, yields, Kind, class_of, kind, kind_for, Swept, after, empty_from, first_empty, standing, evictable, is_open, look_leaves, look_takes, sweep_from, most_looks, sweep, with_swept}
use Rattle.machine.specs.Rules.{rule15, rule27}
use Rattle.machine.proofs.Laws.Standings.{root_stands, pinned_stands, parent_stands, open_stands, stands}
use Rattle.machine.proofs.Laws.Ready.{Ready}

-- ---- going round

after_next : (F h : ℕ) → h + 1 < F → after F h ≡ h + 1
unfolding after pick
after_next F h l = rw (lt-ltb (h + 1) F l)

after_last : (F h : ℕ) → F ≤ h + 1 → after F h ≡ 0
unfolding after pick
after_last F h l = rw (le-ltb (h + 1) F l)

pub after-in : (F h : ℕ) → h < F → after F h < F
after-in F h l = elim (dec_lt (h + 1) F) [ yes k ↦ rw (after_next F h k) k | no k ↦ rw (after_last F h (omega arith)) (omega arith) ]

-- frame g lies d frames on from h, going round
pub data Away (F h g d : ℕ) : Type 0 where
  near : h + d ≡ g → Away F h g d
  round : h + d ≡ g + F → d < F → Away F h g d

-- every frame lies fewer than F on
pub away : (F h g : ℕ) → h < F → g < F → (d : ℕ) × (d < F) × Away F h g d
away F h g h_f g_f = elim (dec_lt g h) [ yes l ↦ (g + F - h, omega arith, round (omega arith) (omega arith)) | no l ↦ (g - h, omega arith, near (omega arith)) ]

pub away-few : (F h g d : ℕ) → g < F → Away F h g d → d < F
away-few F h g d g_f (near e) = omega arith
away-few F h g d g_f (round e l) = l

pub away-here : (F h g : ℕ) → h < F → Away F h g 0 → g ≡ h
away-here F h g h_f (near e) = omega arith
away-here F h g h_f (round e l) = absurd (omega arith)

pub away-own : (F h d : ℕ) → h < F → Away F h h d → d ≡ 0
away-own F h d h_f (near e) = omega arith
away-own F h d h_f (round e l) = absurd (omega arith)

pub away-next : (F h g d : ℕ) → h < F → g < F → Away F h g (suc d) → Away F (after F h) g d
away-next F h g d h_f g_f (near e) = rw (after_next F h (omega arith)) (near (omega arith))
away-next F h g d h_f g_f (round e l) = elim (dec_lt (h + 1) F) [
  | yes k ↦ rw (after_next F h k) (round (omega arith) (omega arith))
  | no k ↦ rw (after_last F h (omega arith)) (near (omega arith))
]

-- the frame that was just left lies F − 1 on
pub away-left : (F h d : ℕ) → h < F → suc d ≡ F → Away F (after F h) h d
away-left F h d h_f e = elim (dec_lt (h + 1) F) [
  | yes k ↦ rw (after_next F h k) (round (omega arith) (omega arith))
  | no k ↦ rw (after_last F h (omega arith)) (near (omega arith))
]

-- ---- one look

-- q is r as looks leave it: another usage count, in its range, and not more where there are no pins
pub record Cooler (r q : FrameRecord) : Type 0 where
  pub used : q.used ≡ r.used
  pub dirty : q.dirty ≡ r.dirty
  pub usage : r.usage ≤ max_usage → q.usage ≤ max_usage
  pub falls : r.pins ≡ 0 → q.usage ≤ r.usage
  pub slot : q.slot ≡ r.slot
  pub parent : q.parent ≡ r.parent
  pub pins : q.pins ≡ r.pins
  pub page : q.page ≡ r.page
  pub store : q.store ≡ r.store

pub cooler-self : (r : FrameRecord) → Cooler r r
cooler-self r = record { used = refl; dirty = refl; usage = λ h. h; falls = λ z. omega arith; slot = refl; parent = refl; pins = refl; page = refl; store = refl }

pub cooler-then : (r q t : FrameRecord) → Cooler r q → Cooler q t → Cooler r t
cooler-then r q t a b = record {
  used = b.used ∙ a.used;
  dirty = b.dirty ∙ a.dirty;
  usage = λ h. b.usage (a.usage h);
  falls = λ z. let x = a.falls z in let y = b.falls (a.pins ∙ z) in omega arith;
  slot = b.slot ∙ a.slot;
  parent = b.parent ∙ a.parent;
  pins = b.pins ∙ a.pins;
  page = b.page ∙ a.page;
  store = b.store ∙ a.store;
}

-- a class goes by the record without its usage, and no frame without pins is warmed
pub record UsageBlind (k : Kind) : Type 0 where
  pub same : (r q : FrameRecord) (f : ℕ) → Cooler r q → k q f ≡ k r f
  pub pinned : (r : FrameRecord) (f : ℕ) → k r f ≡ warm → r.pins ≢ 0

look-cooler : (r : FrameRecord) (c : Class) → (c ≡ warm → r.pins ≢ 0) → Cooler r (look_leaves r c)
unfolding look_leaves
look-cooler r rest p = cooler-self r
look-cooler r warm p = record { used = refl; dirty = refl; usage = λ h. omega arith; falls = λ z. absurd (p refl z); slot = refl; parent = refl; pins = refl; page = refl; store = refl }
look-cooler r yield p = record { used = refl; dirty = refl; usage = λ h. omega arith; falls = λ z. omega arith; slot = refl; parent = refl; pins = refl; page = refl; store = refl }

-- the records after a look at frame h
abbrev pub looked : Kind → List FrameRecord → ℕ → List FrameRecord
looked k rs h = set rs h (look_leaves (record_at rs h) (k (record_at rs h) h))

-- past the last record there is the blank one, of which a look leaves what it was
blank-left : (c : Class) → (c ≡ warm → blank.pins ≢ 0) → look_leaves blank c ≡ blank
unfolding look_leaves
blank-left rest p = refl
blank-left warm p = absurd (p refl refl)
blank-left yield p = refl

pub set_past : (rs : List FrameRecord) (h : ℕ) (r : FrameRecord) → length rs ≤ h → record_at (set rs h r) h ≡ blank
set_past rs h r l = let s : length (set rs h r) ≡ length rs = length-set rs h r in get_or-eq_default (set rs h r) blank (omega arith)

pub looked-here : (k : Kind) → UsageBlind k → (rs : List FrameRecord) (h : ℕ) → record_at (looked k rs h) h ≡ look_leaves (record_at rs h) (k (record_at rs h) h)
looked-here k K rs h = elim (dec_lt h (length rs)) [
  | yes l ↦ get_or-set_same rs h _ blank l
  | no l ↦
      let e : record_at rs h ≡ blank = get_or-eq_default rs blank (omega arith) in
      set_past rs h _ (omega arith) ∙ sym (rw e (blank-left (k blank h) (K.pinned blank h)))
]

pub looked-other : (k : Kind) (rs : List FrameRecord) (h g : ℕ) → g ≢ h → record_at (looked k rs h) g ≡ record_at rs g
looked-other k rs h g = get_or-set_other rs h g _ blank

pub looked-cooler : (k : Kind) → UsageBlind k → (rs : List FrameRecord) (h g : ℕ) → Cooler (record_at rs g) (record_at (looked k rs h) g)
looked-cooler k K rs h g = elim (ℕ_discrete g h) [
  | yes e ↦ rw (e, looked-here k K rs h) (look-cooler (record_at rs h) _ (K.pinned (record_at rs h) h))
  | no q ↦ rw (looked-other k rs h g q) (cooler-self (record_at rs g))
]

-- an open frame that is looked at loses one usage
leaves-cooled : (r : FrameRecord) (c : Class) → yields c ≡ true → (look_leaves r c).usage ≡ r.usage - 1
unfolding look_leaves
leaves-cooled r rest e = absurd (clash (sym e))
leaves-cooled r warm e = absurd (clash (sym e))
leaves-cooled r yield e = refl

looked-usage : (k : Kind) → UsageBlind k → (rs : List FrameRecord) (h : ℕ) → yields (k (record_at rs h) h) ≡ true → (record_at (looked k rs h) h).usage ≡ (record_at rs h).usage - 1
looked-usage k K rs h o = ap (λ (r : FrameRecord). r.usage) (looked-here k K rs h) ∙ leaves-cooled (record_at rs h) _ o

pub looked-open : (k : Kind) → UsageBlind k → (rs : List FrameRecord) (h g : ℕ) → yields (k (record_at (looked k rs h) g) g) ≡ yields (k (record_at rs g) g)
looked-open k K rs h g = ap yields (K.same (record_at rs g) (record_at (looked k rs h) g) g (looked-cooler k K rs h g))

pub takes-open : (r : FrameRecord) (c : Class) → look_takes r c ≡ true → yields c ≡ true
unfolding look_takes
takes-open r c t = and_left (yields c) (eqb r.usage 0) t

not-taken-used : (r : FrameRecord) (c : Class) → yields c ≡ true → look_takes r c ≡ false → r.usage ≢ 0
unfolding look_takes
not-taken-used r c e t = elim (case (eqb r.usage 0)) [ on z ↦ absurd (clash (sym (both (yields c) _ e z) ∙ t)) | off z ↦ eqb-false r.usage 0 z ]

-- ---- the classes by where a page stands

pub rest-not-warm : rest ≡ warm → ⊥
rest-not-warm e = let z : ◌≡◌ {A = ℕ} 0 1 = cc in omega arith

pub yield-not-warm : yield ≡ warm → ⊥
yield-not-warm e = let z : ◌≡◌ {A = ℕ} 0 1 = cc in omega arith

pub open-class : (T : ℕ) (fs : List ℕ) (r : FrameRecord) (f : ℕ) → is_open T r fs f ≡ true → kind T fs r f ≡ yield
open-class T fs r f = by-standing (standing T r fs f)
  where
    by-standing : (a : Standing) → evictable a ≡ true → class_of a ≡ yield
    by-standing Root e = absurd (clash (sym e))
    by-standing Pinned e = absurd (clash (sym e))
    by-standing Parent e = absurd (clash (sym e))
    by-standing Evictable e = refl

open-kind : (T : ℕ) (fs : List ℕ) (r : FrameRecord) (f : ℕ) → yields (kind T fs r f) ≡ is_open T r fs f
open-kind T fs r f = by-standing (standing T r fs f)
  where
    by-standing : (a : Standing) → yields (class_of a) ≡ evictable a
    by-standing Root = refl
    by-standing Pinned = refl
    by-standing Parent = refl
    by-standing Evictable = refl

-- where a page stands goes by the pins and the words
pub standing-same : (T : ℕ) (r q : FrameRecord) (fs : List ℕ) (f : ℕ) → q.pins ≡ r.pins → standing T q fs f ≡ standing T r fs f
unfolding standing
standing-same T r q fs f e = rw e

pub kind-usage-blind : (T : ℕ) (fs : List ℕ) → UsageBlind (kind T fs)
kind-usage-blind T fs = record { same = λ r q f c. ap class_of (standing-same T r q fs f c.pins); pinned = warmed-pinned }
  where
    warmed-pinned : (r : FrameRecord) (f : ℕ) → kind T fs r f ≡ warm → r.pins ≢ 0
    warmed-pinned r f w = elim (stands T r fs f) [
      | root_stands e a ↦ absurd (rest-not-warm (sym (ap class_of e) ∙ w))
      | pinned_stands e a b ↦ b
      | parent_stands e a b c ↦ absurd (rest-not-warm (sym (ap class_of e) ∙ w))
      | open_stands e a b c ↦ absurd (yield-not-warm (sym (ap class_of e) ∙ w))
    ]

-- ---- the classes in a sweep for a page of store t, at its ceiling or below it

pub for-usage-blind : (p : Pool) (fs : List ℕ) (t : ℕ) → UsageBlind (kind_for p fs t)
for-usage-blind p fs t = record { same = same_class; pinned = warmed-pinned }
  where
    same_class : (r q : FrameRecord) (f : ℕ) → Cooler r q → kind_for p fs t q f ≡ kind_for p fs t r f
    same_class r q f c = unfold kind_for in rw ((kind-usage-blind p.stores fs).same r q f c, c.used, c.store)

    warmed-pinned : (r : FrameRecord) (f : ℕ) → kind_for p fs t r f ≡ warm → r.pins ≢ 0
    warmed-pinned r f = unfold kind_for in pick-either (λ (c : Class). c ≡ warm → r.pins ≢ 0) _ rest (kind p.stores fs r f) (λ e. absurd (rest-not-warm e)) ((kind-usage-blind p.stores fs).pinned r f)

-- whether a sweep for store t could take the frame: it is open to eviction, and holds a page of that store where this is at its ceiling
unfoldable pub is_loose : Pool → List ℕ → ℕ → FrameRecord → ℕ → Bool
is_loose p fs t r f = (at_ceiling p t ⇒ is_of t r) and is_open p.stores r fs f

pub record Loose (p : Pool) (fs : List ℕ) (t : ℕ) (r : FrameRecord) (f : ℕ) : Type 0 where
  pub evictable : is_open p.stores r fs f ≡ true
  pub own : at_ceiling p t ≡ true → is_of t r ≡ true

pub loose-of : (p : Pool) (fs : List ℕ) (t : ℕ) (r : FrameRecord) (f : ℕ) → is_loose p fs t r f ≡ true → Loose p fs t r f
unfolding is_loose
loose-of p fs t r f e = let a = and-true (at_ceiling p t ⇒ is_of t r) _ e in record { evictable = a.1; own = use⇒ (at_ceiling p t) (is_of t r) a.0 }

pub of_loose : (p : Pool) (fs : List ℕ) (t : ℕ) (r : FrameRecord) (f : ℕ) → Loose p fs t r f → is_loose p fs t r f ≡ true
unfolding is_loose
of_loose p fs t r f L = both _ _ (make⇒ (at_ceiling p t) (is_of t r) L.own) L.evictable

-- the frames that yield in it
pub yields-loose : (p : Pool) (fs : List ℕ) (t : ℕ) (r : FrameRecord) (f : ℕ) → yields (kind_for p fs t r f) ≡ is_loose p fs t r f
unfolding kind_for is_loose
yields-loose p fs t r f = by_tests (at_ceiling p t) (is_of t r) (kind p.stores fs r f) ∙ ap (λ (b : Bool). (at_ceiling p t ⇒ is_of t r) and b) (open-kind p.stores fs r f)
  where
    by_tests : (full own : Bool) (c : Class) → yields (pick (full and not own) rest c) ≡ ((full ⇒ own) and yields c)
    by_tests true true c = unfold pick ◌and◌ ◌⇒◌ in refl
    by_tests true false c = unfold pick ◌and◌ ◌⇒◌ in refl
    by_tests false own c = unfold pick ◌and◌ ◌⇒◌ in refl

-- ---- how many looks

looks-most : (k : Kind) (F m n : ℕ) (rs : List FrameRecord) (h : ℕ) → (sweep_from k F m n rs h).looks ≤ n + m
unfolding sweep_from
looks-most k F zero n rs h = omega arith
looks-most k F (suc m) n rs h =
    let l : (sweep_from k F m (n + 1) (looked k rs h) (after F h)).looks ≤ n + 1 + m = looks-most k F m (n + 1) (looked k rs h) (after F h) in
    pick-either (λ (v : Swept). v.looks ≤ n + suc m) _ _ _ (omega arith) (omega arith)

pub looks-least : (k : Kind) (F m n : ℕ) (rs : List FrameRecord) (h : ℕ) → n ≤ (sweep_from k F m n rs h).looks
unfolding sweep_from
looks-least k F zero n rs h = omega arith
looks-least k F (suc m) n rs h =
    let l = looks-least k F m (n + 1) (looked k rs h) (after F h) in
    pick-either (λ (v : Swept). n ≤ v.looks) _ _ _ (omega arith) (omega arith)

looks-some : (k : Kind) (F m n : ℕ) (rs : List FrameRecord) (h : ℕ) → (sweep_from k F m n rs h).taken ≡ true → n + 1 ≤ (sweep_from k F m n rs h).looks
unfolding sweep_from
looks-some k F zero n rs h = λ e. absurd (clash (sym e))
looks-some k F (suc m) n rs h =
    pick-either (λ (v : Swept). v.taken ≡ true → n + 1 ≤ v.looks) _ _ _ (λ e. omega arith) (λ e. looks-least k F m (n + 1) (looked k rs h) (after F h))

-- "A sweep takes at most 4 × F looks", for a store at its ceiling too
pub sweep-looks : (p : Pool) (fs : List ℕ) (t : ℕ) → (sweep p fs t).looks ≤ most_looks p.count
sweep-looks p fs t = let l = looks-most (kind_for p fs t) p.count (most_looks p.count) 0 p.records p.hand.0 in omega arith

-- a sweep that takes a frame has looked
pub sweep-looked : (p : Pool) (fs : List ℕ) (t : ℕ) → (sweep p fs t).taken ≡ true → 1 ≤ (sweep p fs t).looks
sweep-looked p fs t e = let l = looks-some (kind_for p fs t) p.count (most_looks p.count) 0 p.records p.hand.0 e in omega arith

-- ---- the look at which an open frame would go

-- frame g, d frames on from the hand: it goes after a round for each usage that it has, at the next look that it gets
abbrev pub due : ℕ → List FrameRecord → ℕ → ℕ → ℕ
due F rs g d = F * (record_at rs g).usage + d + 1

round-off : (F u : ℕ) → u ≢ 0 → F * (u - 1) + F ≡ F * u
round-off F zero n = absurd (n refl)
round-off F (suc u) n = let e : suc u - 1 ≡ u = omega arith in rw e (omega arith)

module _ (k : Kind) (K : UsageBlind k) (F : ℕ) (rs : List FrameRecord) (h g : ℕ) (h_f : h < F) (g_f : g < F) (o : yields (k (record_at rs g) g) ≡ true)
    (t : look_takes (record_at rs h) (k (record_at rs h) h) ≡ false) where
  -- a look that takes nothing brings it nearer by one
  abbrev pub Nearer : ℕ → Type 0
  Nearer d = (e : ℕ) × Away F (after F h) g e × (due F rs g d ≡ suc (due F (looked k rs h) g e))

  -- the hand stands at g, whose usage is above 0
  nearer-here : (d : ℕ) → g ≡ h → Away F h g d → Nearer d
  nearer-here d e a =
      let oh : yields (k (record_at rs h) h) ≡ true = rw e at o in
      let u = round-off F (record_at rs h).usage (not-taken-used (record_at rs h) _ oh t) in
      let z : d ≡ 0 = away-own F h d h_f (rw e at a) in
      let l : (record_at (looked k rs h) h).usage ≡ (record_at rs h).usage - 1 = looked-usage k K rs h oh in
      (F - 1, rw e (away-left F h (F - 1) h_f (omega arith)), rw (e, l, z) (omega (arith, u)))

  nearer-further : (d : ℕ) → g ≢ h → Away F h g d → Nearer d
  nearer-further zero q a = absurd (q (away-here F h g h_f a))
  nearer-further (suc d) q a = (d, away-next F h g d h_f g_f a, rw (looked-other k rs h g q) (omega arith))

  pub nearer : (d : ℕ) → Away F h g d → Nearer d
  nearer d a = elim (ℕ_discrete g h) [ yes e ↦ nearer-here d e a | no q ↦ nearer-further d q a ]

-- with so many looks left a frame is taken: this one, if none before it
sweep-finds : (k : Kind) → UsageBlind k → (F m n : ℕ) (rs : List FrameRecord) (h g d : ℕ) → h < F → g < F → yields (k (record_at rs g) g) ≡ true → Away F h g d → due F rs g d ≤ m
    → (sweep_from k F m n rs h).taken ≡ true
unfolding sweep_from
sweep-finds k K F zero n rs h g d h_f g_f o a l = absurd (omega arith)
sweep-finds k K F (suc m) n rs h g d h_f g_f o a l = pick-by (λ (v : Swept). v.taken ≡ true) _ _ _ (λ t. refl) (λ t.
    let e = nearer k K F rs h g h_f g_f o t d a in
    sweep-finds k K F m (n + 1) (looked k rs h) (after F h) g e.0 (after-in F h h_f) g_f (looked-open k K rs h g ∙ o) e.1 (omega (arith, e.2)))

pub sweep-enough : (p : Pool) (fs : List ℕ) (t g : ℕ) → p.hand.0 < p.count → g < p.count → (record_at p.records g).usage ≤ max_usage
    → is_loose p fs t (record_at p.records g) g ≡ true → (sweep p fs t).taken ≡ true
sweep-enough p fs t g h_f g_f u o =
    let a = away p.count p.hand.0 g h_f g_f in
    sweep-finds (kind_for p fs t) (for-usage-blind p fs t) p.count (most_looks p.count) 0 p.records p.hand.0 g a.0 h_f g_f (yields-loose p fs t _ g ∙ o) a.2 (bound p.count (record_at p.records g).usage a.0 u a.1)
  where
    bound : (F u d : ℕ) → u ≤ max_usage → d < F → F * u + d + 1 ≤ most_looks F
    bound F u d h l = omega (arith, mul-le-mul_left F h)

-- ---- what is taken was open

-- a sweep over the records rs that took a frame took one of the F, open in rs
abbrev Sound : Kind → ℕ → List FrameRecord → Swept → Type 0
Sound k F rs v = v.taken ≡ true → (v.frame.0 < F) × (yields (k (record_at rs v.frame.0) v.frame.0) ≡ true)

sound-from : (k : Kind) → UsageBlind k → (F m n : ℕ) (rs : List FrameRecord) (h : ℕ) → h < F → Sound k F rs (sweep_from k F m n rs h)
unfolding sweep_from
sound-from k K F zero n rs h h_f = λ e. absurd (clash (sym e))
sound-from k K F (suc m) n rs h h_f = pick-by (Sound k F rs) _ _ _ (λ t e. (h_f, takes-open (record_at rs h) _ t)) (λ t e.
    let r = sound-from k K F m (n + 1) (looked k rs h) (after F h) (after-in F h h_f) e in
    (r.0, sym (looked-open k K rs h _) ∙ r.1))

pub sweep_sound : (p : Pool) (fs : List ℕ) (t : ℕ) → p.hand.0 < p.count → (sweep p fs t).taken ≡ true
    → ((sweep p fs t).frame.0 < p.count) × (is_loose p fs t (record_at p.records (sweep p fs t).frame.0) (sweep p fs t).frame.0 ≡ true)
sweep_sound p fs t h_f e =
    let r = sound-from (kind_for p fs t) (for-usage-blind p fs t) p.count (most_looks p.count) 0 p.records p.hand.0 h_f e in
    (r.0, sym (yields-loose p fs t _ (sweep p fs t).frame.0) ∙ r.1)

-- a frame is taken exactly where a sweep for the store could take one of the F
pub taken-exactly : (p : Pool) (fs : List ℕ) (t : ℕ) → p.hand.0 < p.count → ((g : ℕ) → g < p.count → (record_at p.records g).usage ≤ max_usage)
    → (sweep p fs t).taken ≡ some p.count (λ g. is_loose p fs t (record_at p.records g) g)
taken-exactly p fs t h_f u =
    same _ _
    (λ e. let r = sweep_sound p fs t h_f e in true-some p.count (λ g. is_loose p fs t (record_at p.records g) g) (sweep p fs t).frame.0 r.0 r.1)
    (λ e. let r = some-true p.count (λ g. is_loose p fs t (record_at p.records g) g) e in sweep-enough p fs t r.0 h_f r.1 (u r.0 r.1) r.2)

-- ---- request A.11: so many looks, and no more, for both kinds of sweep

-- how a sweep for store t ends, where the frames that it could take are those that the test holds of
pub record FourRounds (p : Pool) (fs : List ℕ) (t : ℕ) (test : ℕ → Bool) : Type 0 where
  pub bound : (sweep p fs t).looks ≤ most_looks p.count
  pub enough : p.hand.0 < p.count → ((g : ℕ) → g < p.count → (record_at p.records g).usage ≤ max_usage) → (sweep p fs t).taken ≡ some p.count test

pub record RoundsOfBoth (p : Pool) (fs : List ℕ) (t : ℕ) : Type 0 where
  -- "A store at its ceiling sweeps its own pages only, even where frames are empty; any other frame costs a look"
  pub full : at_ceiling p t ≡ true → FourRounds p fs t (λ g. is_of t (record_at p.records g) and is_open p.stores (record_at p.records g) fs g)
  -- "Below it, loading goes as in 01, every root passed over"
  pub below : at_ceiling p t ≡ false → FourRounds p fs t (λ g. is_open p.stores (record_at p.records g) fs g)

pub rounds-of-both : (p : Pool) (fs : List ℕ) (t : ℕ) → RoundsOfBoth p fs t
rounds-of-both p fs t = record { full = λ e. rounds _ (λ g. full-loose e _ g); below = λ e. rounds _ (λ g. below-loose e _ g) }
  where
    rounds : (test : ℕ → Bool) → ((g : ℕ) → is_loose p fs t (record_at p.records g) g ≡ test g) → FourRounds p fs t test
    rounds test h = record { bound = sweep-looks p fs t; enough = λ h_f u. taken-exactly p fs t h_f u ∙ some-ext p.count _ test (λ g l. h g) }

    full-loose : at_ceiling p t ≡ true → (r : FrameRecord) (f : ℕ) → is_loose p fs t r f ≡ (is_of t r and is_open p.stores r fs f)
    full-loose e r f = unfold is_loose ◌⇒◌ in rw e

    below-loose : at_ceiling p t ≡ false → (r : FrameRecord) (f : ℕ) → is_loose p fs t r f ≡ is_open p.stores r fs f
    below-loose e r f = unfold is_loose ◌⇒◌ ◌and◌ in rw e

-- ---- what a sweep leaves: all but usage counts and the hand

pub record Cooled (F : ℕ) (rs : List FrameRecord) (v : Swept) : Type 0 where
  pub size : length v.records ≡ length rs
  pub each : (g : ℕ) → Cooler (record_at rs g) (record_at v.records g)
  pub hand : v.hand.0 < F

cooled-then : (F : ℕ) (rs qs : List FrameRecord) (v : Swept) → length qs ≡ length rs → ((g : ℕ) → Cooler (record_at rs g) (record_at qs g)) → Cooled F qs v → Cooled F rs v
cooled-then F rs qs v l c t = record { size = t.size ∙ l; each = λ g. cooler-then (record_at rs g) (record_at qs g) (record_at v.records g) (c g) (t.each g); hand = t.hand }

pub cooled-from : (k : Kind) → UsageBlind k → (F m n : ℕ) (rs : List FrameRecord) (h : ℕ) → h < F → Cooled F rs (sweep_from k F m n rs h)
unfolding sweep_from
cooled-from k K F zero n rs h h_f = record { size = refl; each = λ g. cooler-self (record_at rs g); hand = h_f }
cooled-from k K F (suc m) n rs h h_f =
    let l : length (looked k rs h) ≡ length rs = length-set rs h _ in
    pick-either (Cooled F rs) _ _ _ (record { size = l; each = looked-cooler k K rs h; hand = after-in F h h_f })
    (cooled-then F rs (looked k rs h) _ l (looked-cooler k K rs h) (cooled-from k K F m (n + 1) (looked k rs h) (after F h) (after-in F h h_f)))

pub sweep-cooled : (p : Pool) (fs : List ℕ) (t : ℕ) → p.hand.0 < p.count → Cooled p.count p.records (sweep p fs t)
sweep-cooled p fs t h_f = cooled-from (kind_for p fs t) (for-usage-blind p fs t) p.count (most_looks p.count) 0 p.records p.hand.0 h_f

pub swept-ready : (s : State) (t : ℕ) → Ready s → Ready (with_pool s (with_swept s.pool (sweep s.pool s.frames t)))
swept-ready s t h =
    let c = sweep-cooled s.pool s.frames t h.hand in
    record {
      sized = h.sized;
      stores = h.stores;
      hand = c.hand;
      in_range = λ f l. in-range f (c.each f) (h.in_range f l);
      dirty_used = λ f l d. same_flag (c.each f).used ∙ h.dirty_used f l (sym (same_flag (c.each f).dirty) ∙ d);
      words = λ f k l u. h.words f k l (sym (same_flag (c.each f).used) ∙ u);
    }
  where
    after-sweep : Pool
    after-sweep = with_swept s.pool (sweep s.pool s.frames t)

    in-range : (f : ℕ) → Cooler (record_at s.pool.records f) (record_at after-sweep.records f) → InRange s.pool (record_at s.pool.records f) → InRange after-sweep (record_at after-sweep.records f)
    in-range f c r = record {
      page = rw c.page r.page;
      store = rw c.store r.store;
      pins = rw c.pins r.pins;
      usage = c.usage r.usage;
      parent = rw c.parent r.parent;
      slot = rw c.slot r.slot;
      used = rw c.used r.used;
      dirty = rw c.dirty r.dirty;
    }

-- ---- the first empty frame

-- of the n frames from h on, e is an empty one, or none is empty and e is F
data Vacant (rs : List FrameRecord) (F n h e : ℕ) : Type 0 where
  vacant : e < F → is_used (record_at rs e) ≡ false → Vacant rs F n h e
  none : e ≡ F → ((g d : ℕ) → g < F → Away F h g d → d < n → is_used (record_at rs g) ≡ true) → Vacant rs F n h e

vacant-suc : (rs : List FrameRecord) (F n h e : ℕ) → h < F → is_used (record_at rs h) ≡ true → Vacant rs F n (after F h) e → Vacant rs F (suc n) h e
vacant-suc rs F n h e h_f u (vacant l x) = vacant l x
vacant-suc rs F n h e h_f u (none x k) = none x go
  where
    go : (g d : ℕ) → g < F → Away F h g d → d < suc n → is_used (record_at rs g) ≡ true
    go g zero g_f a l = rw (away-here F h g h_f a) u
    go g (suc d) g_f a l = k g d g_f (away-next F h g d h_f g_f a) (omega arith)

vacant-from : (rs : List FrameRecord) (F n h : ℕ) → h < F → Vacant rs F n h (empty_from rs F n h)
unfolding empty_from
vacant-from rs F zero h h_f = none refl (λ g d g_f a l. absurd (omega arith))
vacant-from rs F (suc n) h h_f = pick-by (Vacant rs F (suc n) h) _ _ _ (λ u. vacant-suc rs F n h _ h_f u (vacant-from rs F n (after F h) (after-in F h h_f))) (λ u. vacant h_f u)

-- the first empty frame is below F and empty, or it is F and every frame is used
pub data FirstEmpty (p : Pool) : Type 0 where
  empty : first_empty p < p.count → is_used (record_at p.records (first_empty p)) ≡ false → FirstEmpty p
  full : ((f : ℕ) → f < p.count → is_used (record_at p.records f) ≡ true) → first_empty p ≡ p.count → FirstEmpty p

pub first-empty : (p : Pool) → p.hand.0 < p.count → FirstEmpty p
first-empty p h_f = go (vacant-from p.records p.count p.count p.hand.0 h_f)
  where
    go : Vacant p.records p.count p.count p.hand.0 (first_empty p) → FirstEmpty p
    go (vacant l u) = empty l u
    go (none e k) = full (λ f l. let a = away p.count p.hand.0 f h_f l in k f a.0 l a.2 a.1) e

-- ---- rules 15 and 27

-- "No frame is empty and a sweep could take none", of the frames alone: every one is used, and none is open to eviction
pub record Denied (s : State) : Type 0 where
  pub used : (f : ℕ) → f < s.pool.count → is_used (record_at s.pool.records f) ≡ true
  pub shut : (f : ℕ) → f < s.pool.count → is_open s.pool.stores (record_at s.pool.records f) s.frames f ≡ false

-- "a store at its ceiling has no page of its own that a sweep could take"
pub record DeniedOwn (s : State) (t : ℕ) : Type 0 where
  pub shut : (f : ℕ) → f < s.pool.count → is_of t (record_at s.pool.records f) ≡ true → is_open s.pool.stores (record_at s.pool.records f) s.frames f ≡ false

module _ (s : State) (t : ℕ) (h : Ready s) where
  none-loose : (sweep s.pool s.frames t).taken ≡ false → (f : ℕ) → f < s.pool.count → Loose s.pool s.frames t (record_at s.pool.records f) f → ⊥
  none-loose e f l L = clash (sym (sweep-enough s.pool s.frames t f h.hand l (h.in_range f l).usage (of_loose s.pool s.frames t _ f L)) ∙ e)

  pub rule15-denied : (rule15 s t).1 ≡ false → (at_ceiling s.pool t ≡ false) × Denied s
  rule15-denied e =
      let c = or-none (at_ceiling s.pool t) _ e in
      let r = or-none (ltb (first_empty s.pool) s.pool.count) (sweep s.pool s.frames t).taken c.1 in (
        c.0,
        record {
          used = all-used r.0 (first-empty s.pool h.hand);
          shut = λ f l. is-off _ (λ o. none-loose r.1 f l (record { evictable = o; own = λ a. absurd (clash (sym a ∙ c.0)) }));
        },
      )
    where
      all-used : ltb (first_empty s.pool) s.pool.count ≡ false → FirstEmpty s.pool → (f : ℕ) → f < s.pool.count → is_used (record_at s.pool.records f) ≡ true
      all-used n (empty l u) = absurd (clash (sym (lt-ltb _ _ l) ∙ n))
      all-used n (full u e) = u

  taken-loose : (e : (sweep s.pool s.frames t).taken ≡ true) → let f = (sweep s.pool s.frames t).frame.0 in (f < s.pool.count) × Loose s.pool s.frames t (record_at s.pool.records f) f
  taken-loose e = let r = sweep_sound s.pool s.frames t h.hand e in (r.0, loose-of s.pool s.frames t _ _ r.1)

  pub of-denied : (at_ceiling s.pool t ≡ false) × Denied s → (rule15 s t).1 ≡ false
  of-denied d = or_off d.0 (or_off (no-empty (first-empty s.pool h.hand)) (is-off _ (λ e. let r = taken-loose e in clash (sym r.1.evictable ∙ d.1.shut _ r.0))))
    where
      no-empty : FirstEmpty s.pool → ltb (first_empty s.pool) s.pool.count ≡ false
      no-empty (empty l u) = absurd (clash (sym (d.1.used _ l) ∙ u))
      no-empty (full u e) = le-ltb (first_empty s.pool) s.pool.count (omega arith)

  pub rule27-denied : (rule27 s t).1 ≡ false → (at_ceiling s.pool t ≡ true) × DeniedOwn s t
  rule27-denied e =
      let c = or-none (not (at_ceiling s.pool t)) (sweep s.pool s.frames t).taken e in
      (not-false _ c.0, record { shut = λ f l u. is-off _ (λ o. none-loose c.1 f l (record { evictable = o; own = λ a. u })) })

  pub of-denied-own : (at_ceiling s.pool t ≡ true) × DeniedOwn s t → (rule27 s t).1 ≡ false
  of-denied-own d = or_off (ap not d.0) (is-off _ (λ e. let r = taken-loose e in clash (sym r.1.evictable ∙ d.1.shut _ r.0 (r.1.own d.0))))

  -- 15 is answered exactly where the store is below its ceiling, every frame is used and none is open to eviction
  pub denied-exactly : ((rule15 s t).1 ≡ false) ↔ ((at_ceiling s.pool t ≡ false) × Denied s)
  denied-exactly = (rule15-denied, of-denied)

  -- 27 exactly where the store is at its ceiling, and no frame with a page of it is open to eviction
  pub own-denied-exactly : ((rule27 s t).1 ≡ false) ↔ ((at_ceiling s.pool t ≡ true) × DeniedOwn s t)
  own-denied-exactly = (rule27-denied, of-denied-own)
