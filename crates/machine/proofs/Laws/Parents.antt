-- Following parents: a root, a frame below T, is reached in F steps or never. Assumes nothing.
use Prim.Native.Nat.{ℕ, zero, suc, ◌+◌, ◌-◌, ◌<◌, ◌≤◌}
use Rattle.std.specs.Prelude.{◌≡◌, ◌≢◌, true, cond, eqb}
use Rattle.std.proofs.Math.Path.{refl, ap}
use Rattle.std.proofs.Common.{sym, ◌∙◌, arith, zero-add, suc-add, eq-eqb, ne_eqb, lt-ltb, ltb-true}
use Rattle.std.proofs.Math.Decide.{ℕ_discrete, dec_lt}
use Rattle.machine.specs.declared.Pool.{Pool}
use Rattle.rules.specs.TestLaws.{case, on, off, or_left, or_right, or-second}
use Rattle.machine.specs.Machine.{is_root}
use Rattle.machine.specs.Agreement.{parent_of, reaches_root}

-- ---- steps to the parent, which `up` gives

-- n steps up from f
unfoldable pub climb : (ℕ → ℕ) → ℕ → ℕ → ℕ
climb up zero f = f
climb up (suc n) f = climb up n (up f)

module _ (up : ℕ → ℕ) where
  pub climb-zero : (f : ℕ) → climb up 0 f ≡ f
  unfolding climb
  climb-zero f = refl

  pub climb-suc : (n f : ℕ) → climb up (suc n) f ≡ climb up n (up f)
  unfolding climb
  climb-suc n f = refl

  pub climb-add : (m n f : ℕ) → climb up (m + n) f ≡ climb up n (climb up m f)
  unfolding climb
  climb-add zero n f = ap (λ (k : ℕ). climb up k f) (zero-add n)
  climb-add (suc m) n f = ap (λ (k : ℕ). climb up k f) (suc-add m n) ∙ climb-add m n (up f)

  pub climb-below : (F : ℕ) → ((f : ℕ) → f < F → up f < F) → (n f : ℕ) → f < F → climb up n f < F
  unfolding climb
  climb-below F b zero f h = h
  climb-below F b (suc n) f h = climb-below F b n (up f) (b f h)

  -- a root's parent fields lead to a root: steps from there stay among them
  module _ (T : ℕ) (stays : (f : ℕ) → f < T → up f < T) where
    pub climb-root : (n f : ℕ) → f < T → climb up n f < T
    unfolding climb
    climb-root zero f l = l
    climb-root (suc n) f l = climb-root n (up f) (stays f l)

    pub climb-more : (m n f : ℕ) → climb up m f < T → climb up (m + n) f < T
    climb-more m n f e = rw (climb-add m n f) (climb-root n (climb up m f) e)

-- ---- fewer than n values cannot serve n places

-- t with the value F, where it stands, replaced by the value at c
shift : (ℕ → ℕ) → ℕ → ℕ → ℕ → ℕ
shift t F c i = cond (eqb (t i) F) (t c) (t i)

shift_same : (t : ℕ → ℕ) (F c i : ℕ) → t i ≡ F → shift t F c i ≡ t c
unfolding shift
shift_same t F c i e = rw (eq-eqb (t i) F e)

shift-other : (t : ℕ → ℕ) (F c i : ℕ) → t i ≢ F → shift t F c i ≡ t i
unfolding shift
shift-other t F c i e = rw (ne_eqb (t i) F e)

pub pigeonhole : (F n : ℕ) (t : ℕ → ℕ) → ((i : ℕ) → i < n → t i < F) → ((i j : ℕ) → i < n → j < n → t i ≡ t j → i ≡ j) → n ≤ F
pigeonhole zero zero t lt inj = omega arith
pigeonhole zero (suc n) t lt inj = absurd (omega (arith, lt 0 (omega arith)))
pigeonhole (suc F) zero t lt inj = omega arith
pigeonhole (suc F) (suc n) t lt inj = suc-le (pigeonhole F n (shift t F n)
    (λ i h. elim (ℕ_discrete (t i) F) [
      | yes e ↦ rw (shift_same t F n i e) (elim (ℕ_discrete (t n) F) [ yes q ↦ absurd (omega (arith, inj i n (omega arith) (omega arith) (e ∙ sym q))) | no q ↦ omega (arith, lt n (omega arith)) ])
      | no e ↦ rw (shift-other t F n i e) (omega (arith, lt i (omega arith)))
    ])
    (λ i j hi hj e. elim (ℕ_discrete (t i) F) [
      | yes a ↦ elim (ℕ_discrete (t j) F) [
        | yes b ↦ inj i j (omega arith) (omega arith) (a ∙ sym b)
        | no b ↦ absurd (omega (arith, inj n j (omega arith) (omega arith) (sym (shift_same t F n i a) ∙ e ∙ shift-other t F n j b)))
      ]
      | no a ↦ elim (ℕ_discrete (t j) F) [
        | yes b ↦ absurd (omega (arith, inj i n (omega arith) (omega arith) (sym (shift-other t F n i a) ∙ e ∙ shift_same t F n j b)))
        | no b ↦ inj i j (omega arith) (omega arith) (sym (shift-other t F n i a) ∙ e ∙ shift-other t F n j b)
      ]
    ]))
  where
    suc-le : n ≤ F → suc n ≤ suc F
    suc-le h = omega arith

-- ---- n steps lead to a root, and no fewer do
record First (T : ℕ) (up : ℕ → ℕ) (f n : ℕ) : Type 0 where
  ends : climb up n f < T
  before : (i : ℕ) → i < n → T ≤ climb up i f

first-zero : (T : ℕ) (up : ℕ → ℕ) (f : ℕ) → f < T → First T up f 0
unfolding climb
first-zero T up f e = record { ends = e; before = λ i h. absurd (omega arith) }

first-suc : (T : ℕ) (up : ℕ → ℕ) (f n : ℕ) → T ≤ f → First T up (up f) n → First T up f (suc n)
unfolding climb
first-suc T up f n z r = record { ends = r.ends; before = λ i h. go i h }
  where
    go : (i : ℕ) → i < suc n → T ≤ climb up i f
    go zero h = z
    go (suc i) h = r.before i (omega arith)

first : (T : ℕ) (up : ℕ → ℕ) (m f : ℕ) → climb up m f < T → (n : ℕ) × First T up f n
unfolding climb
first T up zero f e = (0, first-zero T up f e)
first T up (suc m) f e = elim (dec_lt f T) [
  | yes z ↦ (0, first-zero T up f z)
  | no z ↦ let a = first T up m (up f) e in (suc a.0, first-suc T up f a.0 (omega arith) a.1)
]

-- the frames on the way are all different, so there are at most F of them
steps-few : (T : ℕ) (up : ℕ → ℕ) (F : ℕ) → ((f : ℕ) → f < F → up f < F) → (f n : ℕ) → f < F → First T up f n → n ≤ F
steps-few T up F b f n l r = pigeonhole F n (λ i. climb up i f) (λ i h. climb-below up F b i f l)
    (λ i j hi hj e. elim (dec_lt i j) [
      | yes l ↦ absurd (twice i j hj l e)
      | no l ↦ elim (dec_lt j i) [ yes m ↦ absurd (twice j i hi m (sym e)) | no m ↦ omega arith ]
    ])
  where
    twice : (i j : ℕ) → j < n → i < j → climb up i f ≡ climb up j f → ⊥
    twice i j hj l e =
        let same : climb up (i + (n - j)) f ≡ climb up n f =
        climb-add up i (n - j) f ∙ ap (climb up (n - j)) e ∙ sym (climb-add up j (n - j) f) ∙ ap (λ (k : ℕ). climb up k f) (omega arith) in
        omega (arith, r.before (i + (n - j)) (omega arith), r.ends, same)

-- ---- the test that walks at most n steps

-- as many steps as lead to a root, or more
reach-in : (p : Pool) (n m f : ℕ) → n ≤ m → climb (parent_of p) n f < p.stores → reaches_root p m f ≡ true
unfolding reaches_root climb
reach-in p zero zero f l e = lt-ltb f p.stores e
reach-in p zero (suc m) f l e = or_left _ (lt-ltb f p.stores e)
reach-in p (suc n) zero f l e = absurd (omega arith)
reach-in p (suc n) (suc m) f l e = or_right (is_root p.stores f) (reach-in p n m (parent_of p f) (omega arith) e)

-- where any number of steps leads to a root, at most F do
pub climb-few : (T : ℕ) (up : ℕ → ℕ) (F : ℕ) → ((f : ℕ) → f < F → up f < F) → (f : ℕ) → f < F → (n : ℕ) × (climb up n f < T) → (n : ℕ) × (n ≤ F) × (climb up n f < T)
climb-few T up F b f l s =
    let a = first T up s.0 f s.1 in
    (a.0, steps-few T up F b f a.0 l a.1, a.1.ends)

pub climb-reach : (p : Pool) (F : ℕ) → ((f : ℕ) → f < F → parent_of p f < F) → (f : ℕ) → f < F → (n : ℕ) × (climb (parent_of p) n f < p.stores) → reaches_root p F f ≡ true
climb-reach p F b f l s = let a = climb-few p.stores (parent_of p) F b f l s in reach-in p a.0 F f a.1 a.2

-- where at most n steps lead to a root, so do m of them and more, since roots lead to roots
pub reach-climb : (p : Pool) → ((f : ℕ) → f < p.stores → parent_of p f < p.stores) → (n m f : ℕ) → n ≤ m → reaches_root p n f ≡ true → climb (parent_of p) m f < p.stores
unfolding reaches_root climb
reach-climb p z zero m f l e = climb-root (parent_of p) p.stores z m f (ltb-true f p.stores e)
reach-climb p z (suc n) zero f l e = absurd (omega arith)
reach-climb p z (suc n) (suc m) f l e = elim (case (is_root p.stores f)) [
  | on q ↦ climb-root (parent_of p) p.stores z (suc m) f (ltb-true f p.stores q)
  | off q ↦ reach-climb p z n m (parent_of p f) (omega arith) (or-second (is_root p.stores f) _ e q)
]

-- ---- the same without a number of steps

-- following parents reaches a root
pub data ClimbsTo (T : ℕ) (up : ℕ → ℕ) : ℕ → Type 0 where
  top : {f : ℕ} → f < T → ClimbsTo T up f
  via : {f : ℕ} → ClimbsTo T up (up f) → ClimbsTo T up f

pub reach-steps : (T : ℕ) (up : ℕ → ℕ) (f : ℕ) → ClimbsTo T up f → (n : ℕ) × (climb up n f < T)
unfolding climb
reach-steps T up f (top l) = (0, l)
reach-steps T up f (via r) = let a = reach-steps T up (up f) r in (suc a.0, a.1)

pub steps-reach : (T : ℕ) (up : ℕ → ℕ) (n f : ℕ) → climb up n f < T → ClimbsTo T up f
unfolding climb
steps-reach T up zero f e = top {f = f} e
steps-reach T up (suc n) f e = via {f = f} (steps-reach T up n (up f) e)

-- F steps are enough
pub reach-complete : (p : Pool) (F : ℕ) → ((f : ℕ) → f < F → parent_of p f < F) → (f : ℕ) → f < F → ClimbsTo p.stores (parent_of p) f → reaches_root p F f ≡ true
reach-complete p F b f l r = climb-reach p F b f l (reach-steps p.stores (parent_of p) f r)

pub reach-sound : (p : Pool) (n f : ℕ) → reaches_root p n f ≡ true → ClimbsTo p.stores (parent_of p) f
unfolding reaches_root
reach-sound p zero f e = top {f = f} (ltb-true f p.stores e)
reach-sound p (suc n) f e = elim (case (is_root p.stores f)) [
  | on q ↦ top {f = f} (ltb-true f p.stores q)
  | off q ↦ via {f = f} (reach-sound p n (parent_of p f) (or-second (is_root p.stores f) _ e q))
]
