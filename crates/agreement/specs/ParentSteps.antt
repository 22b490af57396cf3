-- Parents followed by a table: where each frame stands after some steps, and jumps that at least double them. Assumes nothing.
use Rattle.std.specs.Prelude.{ℕ, zero, suc, ◌+◌, ◌-◌, ◌<◌, ◌≤◌, ◌≡◌, refl, ◌≢◌, Bool, true, false, List, length, set}
use Rattle.std.proofs.Common.{sym, ◌∙◌, ap, arith, length-set, get_or-set_same, get_or-set_other}
use Rattle.std.proofs.Math.Decide.{ℕ_discrete}
use Rattle.machine.proofs.Laws.Parents.{climb, climb-add, climb-below, climb-more, climb-few}
use Rattle.rules.specs.Deciding.{Decides, decided, decide-flag}
use Rattle.agreement.specs.Fit.{entry, AllLead}

-- the entry of f is where at least s steps lead from f
pub record Led (up : ℕ → ℕ) (s : ℕ) (t : List ℕ) (f : ℕ) : Type 0 where
  pub steps : ℕ
  pub many : s ≤ steps
  pub leads : entry t f ≡ climb up steps f

-- so it is for each of F frames
abbrev pub Steps : (ℕ → ℕ) → ℕ → ℕ → List ℕ → Type 0
Steps up F s t = (f : ℕ) → f < F → Led up s t f

-- the table before and after jumps: whatever parents it stands for, the steps are doubled at least
abbrev pub Jumps : ℕ → List ℕ → List ℕ → Type 0
Jumps F t t' = (up : ℕ → ℕ) (s : ℕ) → ((f : ℕ) → f < F → up f < F) → Steps up F s t → Steps up F (s + s) t'

-- the table has an entry below F for each of F frames
pub record Below (F : ℕ) (t : List ℕ) : Type 0 where
  pub size : F ≤ length t
  pub lt : (f : ℕ) → f < F → entry t f < F

-- each entry is 0
abbrev pub AtRoot : ℕ → List ℕ → Type 0
AtRoot F t = (f : ℕ) → f < F → entry t f ≡ 0

-- what one round of jumps gives
pub record Round (F : ℕ) (t t' : List ℕ) (r : Bool) : Type 0 where
  pub jumps : Jumps F t t'
  pub below : Below F t'
  pub root : Decides r (AtRoot F t')

-- where jumps were made for the frames before g
pub record Jumped (F : ℕ) (t t' : List ℕ) (g : ℕ) : Type 0 where
  pub doubled : (up : ℕ → ℕ) (s : ℕ) → ((f : ℕ) → f < F → up f < F) → Steps up F s t → (f : ℕ) → f < g → Led up (s + s) t' f
  pub kept : (up : ℕ → ℕ) (s : ℕ) → ((f : ℕ) → f < F → up f < F) → Steps up F s t → Steps up F s t'
  pub below : Below F t'

pub jumped-none : (F : ℕ) (t : List ℕ) → Below F t → Jumped F t t 0
jumped-none F t b = record { doubled = λ up s h q f l. absurd (omega arith); kept = λ up s h q. q; below = b }

-- one jump, from f by way of its entry
led-jump : (up : ℕ → ℕ) (F s : ℕ) (t : List ℕ) → ((f : ℕ) → f < F → up f < F) → Steps up F s t → (f x : ℕ) → f < F → x ≡ entry t (entry t f) → (m : ℕ) × (s + s ≤ m) × (x ≡ climb up m f)
led-jump up F s t b q f x l e =
    let a = q f l in
    let k : entry t f < F = rw a.leads (climb-below up F b a.steps f l) in
    let c = q (entry t f) k in
    (a.steps + c.steps, omega (arith, a.many, c.many), e ∙ c.leads ∙ ap (climb up c.steps) a.leads ∙ sym (climb-add up a.steps c.steps f))

-- the table after an entry was put at g: at g, and at another frame
led-here : (up : ℕ → ℕ) (s : ℕ) (t : List ℕ) (g x m : ℕ) → g < length t → s ≤ m → x ≡ climb up m g → Led up s (set t g x) g
led-here up s t g x m h n e = record { steps = m; many = n; leads = get_or-set_same t g x 0 h ∙ e }

led-other : (up : ℕ → ℕ) (s : ℕ) (t : List ℕ) (g x f : ℕ) → f ≢ g → Led up s t f → Led up s (set t g x) f
led-other up s t g x f d a = record { steps = a.steps; many = a.many; leads = get_or-set_other t g f x 0 d ∙ a.leads }

pub jumped-more : (F : ℕ) (t t' : List ℕ) (g x : ℕ) → g < F → x ≡ entry t' (entry t' g) → Jumped F t t' g → Jumped F t (set t' g x) (g + 1)
jumped-more F t t' g x l e J =
    let h : g < length t' = omega (arith, J.below.size) in
    record {
      doubled = λ up s b q f m.
          let j = led-jump up F s t' b (J.kept up s b q) g x l e in
          elim (ℕ_discrete f g) [
            | yes z ↦ rw z (led-here up (s + s) t' g x j.0 h j.1 j.2)
            | no z ↦ led-other up (s + s) t' g x f z (J.doubled up s b q f (omega arith))
          ];
      kept = λ up s b q f m.
          let j = led-jump up F s t' b (J.kept up s b q) g x l e in
          elim (ℕ_discrete f g) [
            | yes z ↦ rw z (led-here up s t' g x j.0 h (omega (arith, j.1)) j.2)
            | no z ↦ led-other up s t' g x f z (J.kept up s b q f m)
          ];
      below = record {
        size = rw (length-set t' g x) J.below.size;
        lt = λ f m. elim (ℕ_discrete f g) [
          | yes z ↦ rw (z, get_or-set_same t' g x 0 h, e) (J.below.lt _ (J.below.lt g l))
          | no z ↦ rw (get_or-set_other t' g f x 0 z) (J.below.lt f m)
        ];
      };
    }

pub jumps-of : (F : ℕ) (t t' : List ℕ) → Jumped F t t' F → Jumps F t t'
jumps-of F t t' J up s b q f l = J.doubled up s b q f l

-- how the answer goes on by one entry: it turns false at one that is not 0
pub at-root-more : (F : ℕ) (t : List ℕ) (f x : ℕ) → f < F → F ≤ length t → (r r' : Bool) → Decides r (AtRoot f t) → (x ≢ 0 → r' ≡ false) → (x ≡ 0 → r' ≡ r) → Decides r' (AtRoot (f + 1) (set t f x))
at-root-more F t f x l h r r' d a b = elim (ℕ_discrete x 0) [
  | no n ↦ rw (a n) (λ q. n (sym (get_or-set_same t f x 0 (omega arith)) ∙ q f (omega arith)))
  | yes z ↦ rw (b z) (decide-flag r _
      (λ e g m. elim (ℕ_discrete g f) [
        | yes y ↦ rw (y, get_or-set_same t f x 0 (omega arith)) z
        | no y ↦ get_or-set_other t f g x 0 y ∙ decided r _ d e g (omega arith)
      ])
      (λ q. kept r d (λ g m. sym (get_or-set_other t f g x 0 (λ y. omega arith)) ∙ q g (omega arith))))
]
  where
    kept : (r : Bool) → Decides r (AtRoot f t) → AtRoot f t → r ≡ true
    kept true d q = refl
    kept false d q = absurd (d q)

-- each frame's parent is one step on
pub steps-one : (up : ℕ → ℕ) (F : ℕ) (t : List ℕ) → ((f : ℕ) → f < F → entry t f ≡ up f) → Steps up F 1 t
unfolding climb
steps-one up F t h f l = record { steps = 1; many = omega arith; leads = h f l }

-- where all have come to frame 0, following parents leads there
pub lead-of : (up : ℕ → ℕ) (F s : ℕ) (t : List ℕ) → Steps up F s t → AtRoot F t → AllLead up F
lead-of up F s t q r f l = ((q f l).steps, sym (q f l).leads ∙ r f l)

-- and where it leads there, all have come after F steps
pub at-root : (up : ℕ → ℕ) (F s : ℕ) (t : List ℕ) → ((f : ℕ) → f < F → up f < F) → up 0 ≡ 0 → F ≤ s → Steps up F s t → AllLead up F → AtRoot F t
at-root up F s t b z h q lead f l =
    let r = lead f l in
    let s : climb up r.0 f < 1 = omega (arith, r.1) in
    let a = climb-few 1 up F b f l (r.0, s) in
    let c = q f l in
    let e : c.steps ≡ a.0 + (c.steps - a.0) = omega (arith, c.many, a.1) in
    let m : climb up (a.0 + (c.steps - a.0)) f < 1 = climb-more up 1 (λ g h. stays g h) a.0 (c.steps - a.0) f a.2 in
    c.leads ∙ ap (λ (k : ℕ). climb up k f) e ∙ omega arith
  where
    stays : (g : ℕ) → g < 1 → up g < 1
    stays g h = let e : up g ≡ 0 = ap up (let q : g ≡ 0 = omega arith in q) ∙ z in omega arith

-- each parent lies before its frame, frame 0's excepted
abbrev pub InOrder : ℕ → List ℕ → Type 0
InOrder F t = (f : ℕ) → 0 < f → f < F → entry t f < f

-- before frame f, so many have a parent that doesn't lie before them: frame 0 alone where there is one at most
pub record Late (t : List ℕ) (f late : ℕ) : Type 0 where
  pub root : 0 < f → 0 < late
  pub rest : late ≤ 1 → InOrder f t

pub late-none : (t : List ℕ) → Late t 0 0
late-none t = record { root = λ h. h; rest = λ h f l m. absurd (omega arith) }

pub late-more : (t : List ℕ) (f late : ℕ) → f ≤ entry t f → Late t f late → Late t (f + 1) (late + 1)
late-more t f late l L = record {
  root = λ h. omega arith;
  rest = λ h g a b. elim (ℕ_discrete f 0) [
    | yes e ↦ absurd (omega arith)
    | no e ↦ let q : 0 < late = L.root (omega arith) in absurd (omega arith)
  ];
}

pub late-same : (t : List ℕ) (f late : ℕ) → entry t f < f → Late t f late → Late t (f + 1) late
late-same t f late l L = record {
  root = λ h. L.root (omega arith);
  rest = λ h g a b. elim (ℕ_discrete g f) [
    | yes e ↦ rw e l
    | no e ↦ L.rest h g a (omega arith)
  ];
}

-- in order, f steps lead from f to frame 0
climb-down : (up : ℕ → ℕ) (F : ℕ) → up 0 ≡ 0 → ((f : ℕ) → 0 < f → f < F → up f < f) → (n f : ℕ) → f ≤ n → f < F → climb up n f ≡ 0
unfolding climb
climb-down up F z h zero f l m = omega arith
climb-down up F z h (suc n) f l m = elim (ℕ_discrete f 0) [
  | yes e ↦ let q : up f ≡ 0 = ap up e ∙ z in climb-down up F z h n (up f) (omega arith) (omega arith)
  | no e ↦ let q : up f < f = h f (omega arith) m in climb-down up F z h n (up f) (omega arith) (omega arith)
]

pub lead-in-order : (F M : ℕ) (t : List ℕ) → F ≤ M → entry t 0 ≡ 0 → InOrder M t → AllLead (entry t) F
lead-in-order F M t l z h f m = (f, climb-down (entry t) M z h f f (omega arith) (omega arith))

-- by parents that are the same below F
pub climb-same : (up down : ℕ → ℕ) (F : ℕ) → ((f : ℕ) → f < F → up f ≡ down f) → ((f : ℕ) → f < F → up f < F) → (n f : ℕ) → f < F → climb up n f ≡ climb down n f
unfolding climb
climb-same up down F e b zero f l = refl
climb-same up down F e b (suc n) f l = climb-same up down F e b n (up f) (b f l) ∙ ap (climb down n) (e f l)
