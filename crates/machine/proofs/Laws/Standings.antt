-- Where a page stands: its facts, and the rule of evict that it breaks there. Assumes nothing.
use Rattle.std.specs.Prelude.{ℕ, ◌<◌, ◌≤◌, ◌≡◌, refl, ◌≢◌, Bool, true, false, not, List, [], ◌∷◌, eqb}
use Rattle.std.proofs.Common.{sym, ◌∙◌, ap, arith, eqb-true, ltb-true, ltb-false}
use Rattle.std.proofs.lemmas.Bool.{eqb-false}
use Rattle.page.specs.Figures.{slot_count}
use Rattle.page.specs.Word.{Number, Swizzled, number-yes, number-no}
use Rattle.page.specs.Page.{name}
use Rattle.machine.specs.declared.FrameRecord.{FrameRecord}
use Rattle.machine.specs.declared.Standing.{Standing}
use Rattle.machine.specs.declared.Standing.TheVariants.{Root, Pinned, Parent, Evictable}
use Rattle.rules.specs.Tests.{pick, first_broken}
use Rattle.rules.specs.TestLaws.{clash, case, on, off, every_true, false-every, pick_yes, pick_no}
use Rattle.machine.specs.Machine.{State, record_at, is_root, found_in}
use Rattle.machine.specs.Sweep.{childless, standing, evictable, is_open}
use Rattle.machine.specs.Calls.{stay_rules}

-- ---- its facts

-- frame f has a swizzled word
abbrev pub HasSwizzled : List ℕ → ℕ → Type 0
HasSwizzled fs f = (k : ℕ) × (k < slot_count) × Swizzled (name fs f k)

swizzled-in : (fs : List ℕ) (f : ℕ) → childless fs f ≡ false → HasSwizzled fs f
unfolding childless
swizzled-in fs f c = let w = false-every slot_count _ c in (w.0, w.1, number-no _ w.2)

pub numbers-alone : (fs : List ℕ) (f : ℕ) → childless fs f ≡ true → (k : ℕ) → k < slot_count → Number (name fs f k)
unfolding childless
numbers-alone fs f c k l = number-yes _ (every_true slot_count _ c k l)

-- the four places where a page can stand, each with what holds there
pub data Stands (T : ℕ) (r : FrameRecord) (fs : List ℕ) (f : ℕ) : Type 0 where
  root_stands : standing T r fs f ≡ Root → f < T → Stands T r fs f
  pinned_stands : standing T r fs f ≡ Pinned → T ≤ f → r.pins ≢ 0 → Stands T r fs f
  parent_stands : standing T r fs f ≡ Parent → T ≤ f → r.pins ≡ 0 → HasSwizzled fs f → Stands T r fs f
  open_stands : standing T r fs f ≡ Evictable → T ≤ f → r.pins ≡ 0 → childless fs f ≡ true → Stands T r fs f

pub stands : (T : ℕ) (r : FrameRecord) (fs : List ℕ) (f : ℕ) → Stands T r fs f
unfolding standing
stands T r fs f = elim (case (is_root T f)) [
  | on a ↦ root_stands (sym (pick_yes _ a refl)) (ltb-true f T a)
  | off a ↦ elim (case (eqb r.pins 0)) [
    | off b ↦ pinned_stands (sym (pick_no _ a (pick_no _ b refl))) (ltb-false f T a) (eqb-false _ 0 b)
    | on b ↦ elim (case (childless fs f)) [
      | off c ↦ parent_stands (sym (pick_no _ a (pick_yes _ b (pick_no _ c refl)))) (ltb-false f T a) (eqb-true _ 0 b) (swizzled-in fs f c)
      | on c ↦ open_stands (sym (pick_no _ a (pick_yes _ b (pick_yes _ c refl)))) (ltb-false f T a) (eqb-true _ 0 b) c
    ]
  ]
]

-- a frame that is open to eviction
pub open-stands : (T : ℕ) (r : FrameRecord) (fs : List ℕ) (f : ℕ) → is_open T r fs f ≡ true → (T ≤ f) × (r.pins ≡ 0) × (childless fs f ≡ true)
open-stands T r fs f o = elim (stands T r fs f) [
  | root_stands e a ↦ absurd (clash (sym o ∙ ap evictable e))
  | pinned_stands e a b ↦ absurd (clash (sym o ∙ ap evictable e))
  | parent_stands e a b c ↦ absurd (clash (sym o ∙ ap evictable e))
  | open_stands e a b c ↦ (a, b, c)
]

pub open-childless : (T : ℕ) (r : FrameRecord) (fs : List ℕ) (f : ℕ) → is_open T r fs f ≡ true → childless fs f ≡ true
open-childless T r fs f o = (open-stands T r fs f o).2

-- ---- the first that it breaks of evict's last rules

-- 0 where it breaks none
abbrev pub stay_number : Standing → ℕ
stay_number Root = 20
stay_number Pinned = 21
stay_number Parent = 22
stay_number Evictable = 0

-- where it breaks none, its frame is open to eviction
pub none_stays : (T : ℕ) (r : FrameRecord) (fs : List ℕ) (f : ℕ) → stay_number (standing T r fs f) ≡ 0 → is_open T r fs f ≡ true
none_stays T r fs f = by_number (standing T r fs f)
  where
    by_number : (a : Standing) → stay_number a ≡ 0 → evictable a ≡ true
    by_number Root e = absurd (omega arith)
    by_number Pinned e = absurd (omega arith)
    by_number Parent e = absurd (omega arith)
    by_number Evictable e = refl

-- of 20, 21 and 22, evict's page breaks first the one of where it stands
pub stays-first : (s : State) (t q : ℕ)
    → first_broken (stay_rules s t q) ≡ stay_number (standing s.pool.stores (record_at s.pool.records (found_in s.pool t q)) s.frames (found_in s.pool t q))
unfolding standing first_broken pick
stays-first s t q = let f = found_in s.pool t q in by_tests (is_root s.pool.stores f) (eqb (record_at s.pool.records f).pins 0) (childless s.frames f)
  where
    by_tests : (root free leaf : Bool) → first_broken ((20, not root) ∷ (21, free) ∷ (22, leaf) ∷ []) ≡ stay_number (pick root Root (pick free (pick leaf Evictable Parent) Pinned))
    by_tests true free leaf = refl
    by_tests false false leaf = refl
    by_tests false true false = refl
    by_tests false true true = refl
