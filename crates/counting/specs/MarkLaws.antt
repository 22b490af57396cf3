-- The marks since a page's last reference are as many as the different pages since. Assumes nothing.
use Rattle.std.specs.Prelude.{ℕ, zero, suc, ◌+◌, ◌*◌, ◌<◌, ◌≤◌, ◌≡◌, refl, true, false, List, [], ◌∷◌, ltb, length, take}
use Rattle.std.proofs.Common.{sym, ap, ◌∙◌, suc-mul, arith, eq-eqb, ne_eqb, lt-ltb, le-ltb}
use Rattle.std.proofs.Math.Decide.{ℕ_discrete, dec_lt}
use Rattle.depths.specs.Depths.{is_in, since, different, depth, last_use}
use Rattle.depths.proofs.PageListLaws.{bit, bit-on, bit-off, bits-join, picked, passed, in-nil, in-here, in-there, since-here, since-there, different-nil, different-cons, last-nil, last-here, last-there, last-le}
use Rattle.counting.specs.Marks.{lowered, raised, mark, sum_of}

-- ---- one mark less, one mark more

module _ (f : ℕ → ℕ) (s j : ℕ) where
  pub lowered-here : suc j ≡ s → lowered f s j ≡ 0
  unfolding lowered
  lowered-here e = picked 0 (f j) (eq-eqb (suc j) s e)

  pub lowered-other : (suc j ≡ s → ⊥) → lowered f s j ≡ f j
  unfolding lowered
  lowered-other n = passed 0 (f j) (ne_eqb (suc j) s n)

  pub raised-here : j ≡ s → raised f s j ≡ 1
  unfolding raised
  raised-here e = picked 1 (f j) (eq-eqb j s e)

  pub raised-other : (j ≡ s → ⊥) → raised f s j ≡ f j
  unfolding raised
  raised-other n = passed 1 (f j) (ne_eqb j s n)

pub mark-nil : (j : ℕ) → mark [] j ≡ 0
unfolding mark
mark-nil j = refl

pub mark-cons : (x : ℕ) (h : List ℕ) (j : ℕ) → mark (x ∷ h) j ≡ raised (lowered (mark h) (last_use h x)) (length h) j
unfolding mark
mark-cons x h j = refl

module _ (x : ℕ) (h : List ℕ) (j : ℕ) where
  mark-new : j ≡ length h → mark (x ∷ h) j ≡ 1
  mark-new e = mark-cons x h j ∙ raised-here (lowered (mark h) (last_use h x)) (length h) j e

  mark-cleared : (j ≡ length h → ⊥) → suc j ≡ last_use h x → mark (x ∷ h) j ≡ 0
  mark-cleared n e = mark-cons x h j ∙ raised-other (lowered (mark h) (last_use h x)) (length h) j n ∙ lowered-here (mark h) (last_use h x) j e

  mark-kept : (j ≡ length h → ⊥) → (suc j ≡ last_use h x → ⊥) → mark (x ∷ h) j ≡ mark h j
  mark-kept n m = mark-cons x h j ∙ raised-other (lowered (mark h) (last_use h x)) (length h) j n ∙ lowered-other (mark h) (last_use h x) j m

pub mark-le : (h : List ℕ) (j : ℕ) → mark h j ≤ 1
mark-le [] j = rw (mark-nil j) (omega arith)
mark-le (x ∷ h) j = elim (ℕ_discrete j (length h)) [
  | yes e ↦ rw (mark-new x h j e) (omega arith)
  | no n ↦ elim (ℕ_discrete (suc j) (last_use h x)) [
    | yes e ↦ rw (mark-cleared x h j n e) (omega arith)
    | no m ↦ rw (mark-kept x h j n m) (mark-le h j)
  ]
]

-- none is set ahead
pub mark-ahead : (h : List ℕ) (j : ℕ) → length h ≤ j → mark h j ≡ 0
mark-ahead [] j l = mark-nil j
mark-ahead (x ∷ h) j l = let u = last-le x h in mark-kept x h j (λ e. omega arith) (λ e. omega arith) ∙ mark-ahead h j (omega arith)

-- two pages are not referenced at one time
last-once : (x y j : ℕ) (h : List ℕ) → last_use h x ≡ suc j → last_use h y ≡ suc j → x ≡ y
last-once x y j [] a b = let z = last-nil x in absurd (omega arith)
last-once x y j (z ∷ h) a b = elim (ℕ_discrete z x) [
  | yes e ↦ elim (ℕ_discrete z y) [
    | yes f ↦ sym e ∙ f
    | no n ↦ let u = last-here x z h e in let v = last-there y z h n in let w = last-le y h in absurd (omega arith)
  ]
  | no m ↦ elim (ℕ_discrete z y) [
    | yes f ↦ let u = last-there x z h m in let v = last-here y z h f in let w = last-le x h in absurd (omega arith)
    | no n ↦ last-once x y j h (sym (last-there x z h m) ∙ a) (sym (last-there y z h n) ∙ b)
  ]
]

-- a page's last reference is marked
pub mark-last : (p j : ℕ) (h : List ℕ) → last_use h p ≡ suc j → mark h j ≡ 1
mark-last p j [] e = let z = last-nil p in absurd (omega arith)
mark-last p j (x ∷ h) e = elim (ℕ_discrete x p) [
  | yes z ↦ let u = last-here p x h z in mark-new x h j (omega arith)
  | no n ↦
      let u : last_use h p ≡ suc j = sym (last-there p x h n) ∙ e in
      let v = last-le p h in
      mark-kept x h j (λ w. omega arith) (λ w. n (last-once x p j h (sym w) u)) ∙ mark-last p j h u
]

-- ---- sums of a row

pub sum-zero : (f : ℕ → ℕ) (s : ℕ) → sum_of f s 0 ≡ 0
unfolding sum_of
sum-zero f s = refl

pub sum-suc : (f : ℕ → ℕ) (s n : ℕ) → sum_of f s (suc n) ≡ sum_of f s n + f (s + n)
unfolding sum_of
sum-suc f s n = refl

pub sum-ext : (f g : ℕ → ℕ) (s n : ℕ) → ((i : ℕ) → i < n → f (s + i) ≡ g (s + i)) → sum_of f s n ≡ sum_of g s n
sum-ext f g s zero h = sum-zero f s ∙ sym (sum-zero g s)
sum-ext f g s (suc n) h =
    let a = sum-suc f s n in let b = sum-suc g s n in
    let c = sum-ext f g s n (λ i l. h i (omega arith)) in
    let d = h n (omega arith) in
    omega arith

pub sum-split : (f : ℕ → ℕ) (s n m : ℕ) → sum_of f s (n + m) ≡ sum_of f s n + sum_of f (s + n) m
sum-split f s n zero = let a = sum-zero f (s + n) in let e : n + 0 ≡ n = omega arith in rw e (omega arith)
sum-split f s n (suc m) =
    let e : n + suc m ≡ suc (n + m) = omega arith in
    let d : s + n + m ≡ s + (n + m) = omega arith in
    let a = sum-suc f s (n + m) in
    let b : sum_of f (s + n) (suc m) ≡ sum_of f (s + n) m + f (s + (n + m)) = sum-suc f (s + n) m ∙ ap (λ (k : ℕ). sum_of f (s + n) m + f k) d in
    let c = sum-split f s n m in
    rw e (omega arith)

pub sum-none : (f : ℕ → ℕ) (s n : ℕ) → ((i : ℕ) → i < n → f (s + i) ≡ 0) → sum_of f s n ≡ 0
sum-none f s zero h = sum-zero f s
sum-none f s (suc n) h = let a = sum-suc f s n in let b = sum-none f s n (λ i l. h i (omega arith)) in let c = h n (omega arith) in omega arith

pub sum-le : (f : ℕ → ℕ) (b s n : ℕ) → ((i : ℕ) → i < n → f (s + i) ≤ b) → sum_of f s n ≤ n * b
sum-le f b s zero h = rw (sum-zero f s) (omega arith)
sum-le f b s (suc n) h =
    let a = sum-suc f s n in
    let c = sum-le f b s n (λ i l. h i (omega arith)) in
    let d = h n (omega arith) in
    let e = suc-mul n b in
    omega arith

-- ---- marks count different pages

-- was p referenced in the last m
in-last : (p : ℕ) (h : List ℕ) (s m : ℕ) → s + m ≡ length h → is_in p (take m h) ≡ ltb s (last_use h p)
in-last p h s zero e = let l = last-le p h in in-nil p ∙ sym (le-ltb s (last_use h p) (omega arith))
in-last p [] s (suc m) e = absurd (omega arith)
in-last p (x ∷ h) s (suc m) e = elim (ℕ_discrete x p) [
  | yes z ↦ in-here p x (take m h) z ∙ sym (lt-ltb s (last_use (x ∷ h) p) (let u = last-here p x h z in omega arith))
  | no n ↦ rw (in-there p x (take m h) n, last-there p x h n) (in-last p h s m (omega arith))
]

-- a reference to x clears no mark of a part in which x was not referenced last
cleared-none : (x : ℕ) (h : List ℕ) (s m : ℕ) → s + m ≤ length h → ((i : ℕ) → i < m → suc (s + i) ≡ last_use h x → ⊥)
    → sum_of (mark (x ∷ h)) s m ≡ sum_of (mark h) s m
cleared-none x h s m l n = sum-ext (mark (x ∷ h)) (mark h) s m (λ i u. mark-kept x h (s + i) (λ w. omega arith) (n i u))

-- .. and one mark of any other part
cleared-one : (x : ℕ) (h : List ℕ) (s m : ℕ) → s + m ≤ length h → s < last_use h x → last_use h x ≤ s + m
    → sum_of (mark (x ∷ h)) s m + 1 ≡ sum_of (mark h) s m
cleared-one x h s zero l a b = absurd (omega arith)
cleared-one x h s (suc m) l a b =
    let u = sum-suc (mark (x ∷ h)) s m in
    let v = sum-suc (mark h) s m in
    elim (ℕ_discrete (suc (s + m)) (last_use h x)) [
      | yes e ↦
          let w = cleared-none x h s m (omega arith) (λ i g k. omega arith) in
          let y = mark-cleared x h (s + m) (λ g. omega arith) e in
          let z = mark-last x (s + m) h (sym e) in
          omega arith
      | no n ↦
          let w = cleared-one x h s m (omega arith) a (omega arith) in
          let y = mark-kept x h (s + m) (λ g. omega arith) n in
          omega arith
    ]

marks-count : (h : List ℕ) (s n : ℕ) → s + n ≡ length h → sum_of (mark h) s n ≡ different (take n h)
marks-count h s zero e = sum-zero (mark h) s ∙ sym different-nil
marks-count [] s (suc n) e = absurd (omega arith)
marks-count (x ∷ h) s (suc n) e =
    let u = sum-suc (mark (x ∷ h)) s n in
    let v = different-cons x (take n h) in
    let w = mark-new x h (s + n) (omega arith) in
    let ih = marks-count h s n (omega arith) in
    let b = bits-join (is_in x (take n h)) in
    let le = last-le x h in
    let t : is_in x (take n h) ≡ ltb s (last_use h x) = in-last x h s n (omega arith) in
    elim (dec_lt s (last_use h x)) [
      | yes a ↦
          let c = cleared-one x h s n (omega arith) a (omega arith) in
          let f : bit (is_in x (take n h)) ≡ 1 = ap bit (t ∙ lt-ltb s (last_use h x) a) ∙ bit-on in
          omega arith
      | no a ↦
          let c = cleared-none x h s n (omega arith) (λ i g k. omega arith) in
          let f : bit (is_in x (take n h)) ≡ 0 = ap bit (t ∙ le-ltb s (last_use h x) (omega arith)) ∙ bit-off in
          omega arith
    ]

-- what was referenced since p is what came after its time
since-take : (p : ℕ) (h : List ℕ) (n : ℕ) → last_use h p + n ≡ length h → (last_use h p ≡ 0 → ⊥) → since p h ≡ take n h
since-take p [] n e m = absurd (m (last-nil p))
since-take p (x ∷ h) zero e m = elim (ℕ_discrete x p) [
  | yes z ↦ since-here p x h z
  | no z ↦ let u = last-there p x h z in let l = last-le p h in absurd (omega arith)
]
since-take p (x ∷ h) (suc n) e m = elim (ℕ_discrete x p) [
  | yes z ↦ let u = last-here p x h z in absurd (omega arith)
  | no z ↦
      let u = last-there p x h z in
      since-there p x h z ∙ ap (λ (k : List ℕ). x ∷ k) (since-take p h n (omega arith) (λ w. m (u ∙ w)))
]

never-used : (p : ℕ) (h : List ℕ) → last_use h p ≡ 0 → is_in p h ≡ false
never-used p [] e = in-nil p
never-used p (x ∷ h) e = elim (ℕ_discrete x p) [
  | yes z ↦ let u = last-here p x h z in absurd (omega arith)
  | no z ↦ in-there p x h z ∙ never-used p h (sym (last-there p x h z) ∙ e)
]

once-used : (p : ℕ) (h : List ℕ) → (last_use h p ≡ 0 → ⊥) → is_in p h ≡ true
once-used p [] n = absurd (n (last-nil p))
once-used p (x ∷ h) n = elim (ℕ_discrete x p) [
  | yes z ↦ in-here p x h z
  | no z ↦ in-there p x h z ∙ once-used p h (λ e. n (last-there p x h z ∙ e))
]

-- ---- the depth by times and marks

pub depth-first : (h : List ℕ) (p : ℕ) → last_use h p ≡ 0 → depth h p ≡ 0
unfolding depth
depth-first h p e = passed (1 + different (since p h)) 0 (never-used p h e)

pub depth-again : (h : List ℕ) (p n : ℕ) → (last_use h p ≡ 0 → ⊥) → last_use h p + n ≡ length h → depth h p ≡ sum_of (mark h) (last_use h p) n + 1
unfolding depth
depth-again h p n m e =
    picked (1 + different (since p h)) 0 (once-used p h m)
    ∙ (let b = ap different (since-take p h n e m) in let c = marks-count h (last_use h p) n e in omega arith)
