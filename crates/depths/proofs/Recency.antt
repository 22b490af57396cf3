-- The cache of f pages is the first f of the recency list, and the depth of a reference is its page's place there. Assumes nothing.
use Rattle.std.specs.Prelude.{ℕ, zero, suc, ◌+◌, ◌<◌, ◌≤◌, ◌≡◌, refl, Bool, true, false, List, [], ◌∷◌, ltb, length, take}
use Rattle.std.proofs.Common.{sym, ap, ◌∙◌, length-take, take-take, take_all, arith, lt-ltb, le-ltb}
use Rattle.std.proofs.Math.Dec.{leb-suc-suc, leb-suc-zero}
use Rattle.std.proofs.Math.Seq.{take-nil}
use Rattle.std.proofs.Math.Decide.{ℕ_discrete, dec_lt}
use Rattle.rules.specs.Tests.{pick, ◌and◌}
use Rattle.rules.specs.TestLaws.{clash, on, off, case, and_yes, and_no, and-off}
use Rattle.depths.specs.Depths.{is_in, since, different, depth, depths_after, is_up_to, depths_up_to, without_page, without_last, replaced, after_use, cache, hits_after, recency, last_use}
use Rattle.depths.proofs.PageListLaws.{bit, bits-join, picked, passed, in-nil, in-here, in-there, since-nil, since-here, since-there, without-nil, without-here, without-there, length_without, without-none, in_without, since-without, nothing-in, different-nil, different-cons, last-here, last-there, last-le}
use Rattle.depths.specs.HowMany.{ForEverySize}

-- ---- a reference takes the first f of what was used last

shorter : (x : ℕ) (l : List ℕ) → without_last (x ∷ l) ≡ take (length l) (x ∷ l)
unfolding without_last
shorter x [] = refl
shorter x (y ∷ l) = ap (λ (k : List ℕ). x ∷ k) (shorter y l)

full-takes : (f p : ℕ) (c : List ℕ) → length c ≡ f → replaced p c ≡ take f (p ∷ c)
unfolding replaced
full-takes f p [] e = rw (← e)
full-takes f p (x ∷ c) e = rw (← e) (ap (λ (k : List ℕ). p ∷ k) (shorter x c))

-- hit, miss with room, and miss without
use-takes : (f p : ℕ) (c : List ℕ) → length c ≤ f → after_use f c p ≡ take f (p ∷ without_page p c)
unfolding after_use
use-takes f p c l = elim (case (is_in p c)) [
  | on t ↦
      let n : length (without_page p c) + bit (is_in p c) ≡ length c = length_without p c in
      let b : bit (is_in p c) ≡ 1 = picked 1 0 t in
      picked (p ∷ without_page p c) _ t ∙ sym (take_all f (p ∷ without_page p c) (omega arith))
  | off t ↦
      passed (p ∷ without_page p c) _ t
      ∙ elim (dec_lt (length c) f) [
        | yes r ↦ picked (p ∷ c) (replaced p c) (lt-ltb (length c) f r) ∙ sym (take_all f (p ∷ c) (omega arith))
        | no r ↦ passed (p ∷ c) (replaced p c) (le-ltb (length c) f (omega arith)) ∙ full-takes f p c (omega arith)
      ]
      ∙ ap (λ (k : List ℕ). take f (p ∷ k)) (sym (without-none p c t))
]

take-without : (p : ℕ) (r : List ℕ) (g : ℕ) → take g (without_page p (take (suc g) r)) ≡ take g (without_page p r)
take-without p [] g = refl
take-without p (x ∷ r) zero = refl
take-without p (x ∷ r) (suc g) = elim (ℕ_discrete x p) [
  | yes e ↦ rw (without-here p x (take (suc g) r) e, without-here p x r e) (take-take (suc g) (suc g) r (omega arith))
  | no n ↦ rw (without-there p x (take (suc g) r) n, without-there p x r n) (ap (λ (k : List ℕ). x ∷ k) (take-without p r g))
]

first-takes : (f p : ℕ) (r : List ℕ) → take f (p ∷ without_page p (take f r)) ≡ take f (p ∷ without_page p r)
first-takes zero p r = refl
first-takes (suc g) p r = ap (λ (k : List ℕ). p ∷ k) (take-without p r g)

take-le : (f : ℕ) (r : List ℕ) → length (take f r) ≤ f
take-le f r = rw length-take (omega arith)

cache-first : (f : ℕ) (h : List ℕ) → cache f h ≡ take f (recency h)
unfolding cache recency
cache-first f [] = sym (take-nil f)
cache-first f (p ∷ h) =
    ap (λ (c : List ℕ). after_use f c p) (cache-first f h)
    ∙ use-takes f p (take f (recency h)) (take-le f (recency h))
    ∙ first-takes f p (recency h)

-- ---- a larger cache

in-first : (p f : ℕ) (c : List ℕ) → is_in p (take f c) ≡ true → is_in p c ≡ true
in-first p zero c t = absurd (nothing-in p t)
in-first p (suc f) [] t = t
in-first p (suc f) (x ∷ c) t = elim (ℕ_discrete x p) [
  | yes e ↦ in-here p x c e
  | no n ↦ in-there p x c n ∙ in-first p f c (sym (in-there p x (take f c) n) ∙ t)
]

larger-starts : (f g : ℕ) → f ≤ g → (h : List ℕ) → cache f h ≡ take f (cache g h)
larger-starts f g l h = cache-first f h ∙ sym (take-take f g (recency h) l) ∙ ap (take f) (sym (cache-first g h))

larger-contains : (f g : ℕ) → f ≤ g → (h : List ℕ) (p : ℕ) → is_in p (cache f h) ≡ true → is_in p (cache g h) ≡ true
larger-contains f g l h p t = in-first p f (cache g h) (rw (larger-starts f g l h) at t)

-- ---- the recency list and the depth

in-recency : (p : ℕ) (h : List ℕ) → is_in p (recency h) ≡ is_in p h
unfolding recency
in-recency p [] = refl
in-recency p (x ∷ h) = elim (ℕ_discrete x p) [
  | yes e ↦ rw (in-here p x (without_page x (recency h)) e, in-here p x h e)
  | no n ↦ rw (in-there p x (without_page x (recency h)) n, in-there p x h n) (in_without p x n (recency h) ∙ in-recency p h)
]

since-recency : (p : ℕ) (h : List ℕ) → since p (recency h) ≡ recency (since p h)
unfolding recency
since-recency p [] = rw (since-nil p)
since-recency p (x ∷ h) = elim (ℕ_discrete x p) [
  | yes e ↦ rw (since-here p x (without_page x (recency h)) e, since-here p x h e)
  | no n ↦ rw (since-there p x (without_page x (recency h)) n, since-there p x h n) (ap (λ (k : List ℕ). x ∷ k) (since-without p x n (recency h) ∙ ap (without_page x) (since-recency p h)))
]

length-recency : (h : List ℕ) → length (recency h) ≡ different h
unfolding recency
length-recency [] = sym different-nil
length-recency (x ∷ h) =
    let a : length (without_page x (recency h)) + bit (is_in x (recency h)) ≡ length (recency h) = length_without x (recency h) in
    let b : bit (is_in x (recency h)) ≡ bit (is_in x h) = ap bit (in-recency x h) in
    let c = bits-join (is_in x h) in
    let d = length-recency h in
    let e = different-cons x h in
    omega arith

-- a page is in the first f of a list exactly if fewer than f stand before it
in_take : (p f : ℕ) (r : List ℕ) → is_in p (take f r) ≡ (is_in p r and ltb (length (since p r)) f)
in_take p zero r = rw (leb-suc-zero (length (since p r)), and-off (is_in p r)) (in-nil p)
in_take p (suc f) [] = in-nil p ∙ and_no (ltb (length (since p [])) (suc f)) (in-nil p)
in_take p (suc f) (x ∷ r) = elim (ℕ_discrete x p) [
  | yes e ↦ rw (in-here p x (take f r) e, in-here p x r e, since-here p x r e) (and_yes refl (sym (lt-ltb 0 (suc f) (omega arith))))
  | no n ↦ rw (in-there p x (take f r) n, in-there p x r n, since-there p x r n, leb-suc-suc (suc (length (since p r))) f) (in_take p f r)
]

by-case : (f n : ℕ) (b : Bool) → bit (b and ltb n f) ≡ bit (is_up_to f (pick b (1 + n) 0))
unfolding is_up_to pick ◌and◌
by-case f n true = let e : 1 + n ≡ suc n = omega arith in rw e
by-case f n false = refl

-- a reference hits the cache of f pages exactly if it has a depth up to f
hit-is-depth : (f : ℕ) (h : List ℕ) (p : ℕ) → bit (is_in p (cache f h)) ≡ bit (is_up_to f (depth h p))
unfolding depth
hit-is-depth f h p =
    ap (λ (c : List ℕ). bit (is_in p c)) (cache-first f h)
    ∙ ap bit (in_take p f (recency h))
    ∙ rw (in-recency p h, since-recency p h, length-recency (since p h)) (by-case f (different (since p h)) (is_in p h))

hits-after : (f : ℕ) (h ps : List ℕ) → hits_after f h ps ≡ depths_up_to f (depths_after h ps)
unfolding hits_after depths_up_to depths_after
hits-after f h [] = refl
hits-after f h (p ∷ ps) = rw (hit-is-depth f h p) (ap (λ (k : ℕ). bit (is_up_to f (depth h p)) + k) (hits-after f (p ∷ h) ps))

-- ---- the recency list goes from the last use to the first

data Descending (time : ℕ → ℕ) : List ℕ → Type 0 where
  ends : Descending time []
  falls : {x : ℕ} {l : List ℕ} → ((y : ℕ) → is_in y l ≡ true → time y < time x) → Descending time l → Descending time (x ∷ l)

-- no page stands twice
gone-without : {time : ℕ → ℕ} (p : ℕ) {l : List ℕ} → Descending time l → is_in p (without_page p l) ≡ true → ⊥
gone-without p ends t = nothing-in p (rw (without-nil p) at t)
gone-without {time} p (falls {x} {l} low d) t = elim (ℕ_discrete x p) [
  | yes e ↦ let z : time p < time x = low p (rw (without-here p x l e) at t) in let w : time x ≡ time p = ap time e in absurd (omega arith)
  | no n ↦ gone-without p d (sym (in-there p x (without_page p l) n) ∙ (rw (without-there p x l n) at t))
]

falls-without : {time : ℕ → ℕ} (p : ℕ) {l : List ℕ} → Descending time l → Descending time (without_page p l)
falls-without p ends = rw (without-nil p) ends
falls-without {time} p (falls {x} {l} low d) = elim (ℕ_discrete x p) [
  | yes e ↦ rw (without-here p x l e) d
  | no n ↦ rw (without-there p x l n) (falls (λ y t. low y (kept y t)) (falls-without p d))
]
  where
    kept : (y : ℕ) → is_in y (without_page p l) ≡ true → is_in y l ≡ true
    kept y t = elim (ℕ_discrete p y) [
      | yes e ↦ absurd (gone-without p d (ap (λ (k : ℕ). is_in k (without_page p l)) e ∙ t))
      | no n ↦ sym (in_without y p n l) ∙ t
    ]

-- times that agree on the pages of the list
same-times : {a b : ℕ → ℕ} {l : List ℕ} → Descending a l → ((y : ℕ) → is_in y l ≡ true → a y ≡ b y) → Descending b l
same-times ends s = ends
same-times {a} {b} (falls {x} {l} low d) s =
    falls {x = x} {l = l}
    (λ y t. let u = low y t in let v = s y (behind y t) in let w = s x (in-here x x l refl) in omega arith)
    (same-times d (λ y t. s y (behind y t)))
  where
    behind : (y : ℕ) → is_in y l ≡ true → is_in y (x ∷ l) ≡ true
    behind y t = elim (ℕ_discrete x y) [ yes e ↦ in-here y x l e | no n ↦ in-there y x l n ∙ t ]

module _ (p : ℕ) (h : List ℕ) (d : Descending (last_use h) (recency h)) where
  other : (y : ℕ) → is_in y (without_page p (recency h)) ≡ true → p ≡ y → ⊥
  other y t e = gone-without p d (ap (λ (k : ℕ). is_in k (without_page p (recency h))) e ∙ t)

  used-before : (y : ℕ) → is_in y (without_page p (recency h)) ≡ true → last_use (p ∷ h) y < last_use (p ∷ h) p
  used-before y t =
      let a = last-there y p h (other y t) in
      let b = last-here p p h refl in
      let c = last-le y h in
      omega arith

recency-falls : (h : List ℕ) → Descending (last_use h) (recency h)
unfolding recency
recency-falls [] = ends
recency-falls (p ∷ h) =
    let d : Descending (last_use h) (recency h) = recency-falls h in
    falls (used-before p h d) (same-times (falls-without p d) (λ y t. sym (last-there y p h (other p h d y t))))

-- what stands behind the first f was used before each of those
behind-first : {time : ℕ → ℕ} (f v q : ℕ) {r : List ℕ} → Descending time r → is_in v r ≡ true → is_in v (take f r) ≡ false → is_in q (take f r) ≡ true → time v < time q
behind-first zero v q d t u w = absurd (nothing-in q w)
behind-first (suc f) v q ends t u w = absurd (nothing-in q w)
behind-first {time} (suc f) v q (falls {x} {l} low d) t u w = elim (ℕ_discrete x v) [
  | yes e ↦ absurd (clash (sym (in-here v x (take f l) e) ∙ u))
  | no n ↦ elim (ℕ_discrete x q) [
    | yes e ↦ let z : time v < time x = low v (sym (in-there v x l n) ∙ t) in let y : time x ≡ time q = ap time e in omega arith
    | no m ↦ behind-first f v q d (sym (in-there v x l n) ∙ t) (sym (in-there v x (take f l) n) ∙ u) (sym (in-there q x (take f l) m) ∙ w)
  ]
]

-- a page that was held was referenced
held_in : (f v p : ℕ) (h : List ℕ) → is_in v (cache f h) ≡ true → is_in v (recency (p ∷ h)) ≡ true
held_in f v p h t =
    let u : is_in v h ≡ true = sym (in-recency v h) ∙ in-first v f (recency h) (rw (cache-first f h) at t) in
    in-recency v (p ∷ h) ∙ elim (ℕ_discrete p v) [ yes e ↦ in-here v p h e | no n ↦ in-there v p h n ∙ u ]

-- ---- request A.12's claim about the cache of every size

pub for-every-size : (f : ℕ) → ForEverySize f
for-every-size f = record {
  exact = λ ps. hits-after f [] ps;
  contained = λ g l h p t. larger-contains f g l h p t;
  recent = cache-first f;
  small = λ h. rw (cache-first f h) (take-le f (recency h));
  oldest = λ h p v q t u w. behind-first f v q (recency-falls (p ∷ h)) (held_in f v p h t) (rw (cache-first f (p ∷ h)) at u) (rw (cache-first f (p ∷ h)) at w);
}
