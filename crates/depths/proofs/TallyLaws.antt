-- The counters by one reference, by a recording, and by one counter more. Assumes nothing.
use Rattle.std.specs.Prelude.{ℕ, zero, suc, ◌+◌, ◌<◌, ◌≤◌, ◌≡◌, refl, true, List, [], ◌∷◌, length, take, get_or, set, replicate}
use Rattle.std.proofs.Common.{sym, ap, ◌∙◌, length-set, length-take, get_or-take, take_all, arith, add-one, le-leb}
use Rattle.std.proofs.lemmas.List.{take-set-le}
use Rattle.std.proofs.Math.Seq.{take-set-lt, take-nil}
use Rattle.std.proofs.Math.Decide.{ℕ_discrete, dec_lt}
use Rattle.std.proofs.lemmas.Bool.{lt-leb}
use Rattle.rules.specs.TestLaws.{on, off, case}
use Rattle.depths.specs.Depths.{is_in, since, different, depth, depths_after, is_up_to, depths_up_to}
use Rattle.depths.proofs.PageListLaws.{bit, bit-on, bit-off, bits-join, picked, passed, nothing-in, different-cons, different-nil, since-here, since-there, in-there}
use Rattle.depths.specs.Tallying.{one_counted, all_counted, total, within}

-- ---- a depth is at most the count of earlier references

different-le : (l : List ℕ) → different l ≤ length l
different-le [] = rw different-nil (omega arith)
different-le (x ∷ l) = let a = bits-join (is_in x l) in let b = different-le l in let c = different-cons x l in omega arith

since-lt : (p : ℕ) (h : List ℕ) → is_in p h ≡ true → length (since p h) < length h
since-lt p [] t = absurd (nothing-in p t)
since-lt p (x ∷ h) t = elim (ℕ_discrete x p) [
  | yes e ↦ rw (since-here p x h e) (omega arith)
  | no n ↦ rw (since-there p x h n) (let ih : length (since p h) < length h = since-lt p h (sym (in-there p x h n) ∙ t) in omega arith)
]

pub depth_le : (h : List ℕ) (p : ℕ) → depth h p ≤ length h
unfolding depth
depth_le h p = elim (case (is_in p h)) [
  | on e ↦ rw (picked (1 + different (since p h)) 0 e) (let a = since-lt p h e in let b = different-le (since p h) in omega arith)
  | off e ↦ rw (passed (1 + different (since p h)) 0 e) (omega arith)
]

-- all of these are at most n
pub data AtMost (n : ℕ) : List ℕ → Type 0 where
  none : AtMost n []
  more : {d : ℕ} {ds : List ℕ} → d ≤ n → AtMost n ds → AtMost n (d ∷ ds)

pub depths-at-most : (n : ℕ) (h ps : List ℕ) → length h + length ps ≤ suc n → AtMost n (depths_after h ps)
unfolding depths_after
depths-at-most n h [] l = none
depths-at-most n h (p ∷ ps) l = let a : depth h p ≤ n = (let b = depth_le h p in omega arith) in more a (depths-at-most n (p ∷ h) ps (omega arith))

-- ---- one reference more

total-set : (c : List ℕ) (k : ℕ) → k < length c → total (set c k (get_or c k 0 + 1)) ≡ total c + 1
unfolding total
total-set [] k l = absurd (omega arith)
total-set (x ∷ c) zero l = omega arith
total-set (x ∷ c) (suc k) l = let ih = total-set c k (omega arith) in omega arith

within-counted : (f : ℕ) (c : List ℕ) (d : ℕ) → d ≤ length c → within f (one_counted c d) ≡ within f c + bit (is_up_to f d)
unfolding within one_counted is_up_to
within-counted f c zero l = rw bit-off (omega arith)
within-counted f c (suc k) l = elim (dec_lt k f) [
  | yes h ↦
      let n : k < length (take f c) = rw length-take (omega arith) in
      let e : get_or (take f c) k 0 ≡ get_or c k 0 = get_or-take f c k 0 h in
      rw (take-set-lt f c k (get_or c k 0 + 1) h, le-leb (suc k) f (omega arith), bit-on) (rw e at (total-set (take f c) k n))
  | no h ↦ rw (take-set-le f c k (get_or c k 0 + 1) (omega arith), lt-leb (suc k) f (omega arith), bit-off) (omega arith)
]

pub length-counted : (c : List ℕ) (d : ℕ) → length (one_counted c d) ≡ length c
unfolding one_counted
length-counted c zero = refl
length-counted c (suc k) = length-set c k (get_or c k 0 + 1)

pub length-all : (c ds : List ℕ) → length (all_counted c ds) ≡ length c
unfolding all_counted
length-all c [] = refl
length-all c (d ∷ ds) = length-all (one_counted c d) ds ∙ length-counted c d

pub within_all : (f : ℕ) (c ds : List ℕ) → AtMost (length c) ds → within f (all_counted c ds) ≡ within f c + depths_up_to f ds
unfolding all_counted depths_up_to
within_all f c [] none = omega arith
within_all f c (d ∷ ds) (more l w) =
    let a = within-counted f c d l in
    let b = within_all f (one_counted c d) ds (rw (length-counted c d) w) in
    omega arith

-- ---- one counter more

pub within_none : (c : List ℕ) → within 0 c ≡ 0
unfolding within total
within_none c = refl

total-next : (l : List ℕ) (n : ℕ) → total (take (suc n) l) ≡ total (take n l) + get_or l n 0
unfolding total
total-next [] n = rw (take-nil n) (omega arith)
total-next (x ∷ l) zero = omega arith
total-next (x ∷ l) (suc n) = let ih = total-next l n in omega arith

pub within-next : (c : List ℕ) (n : ℕ) → within (n + 1) c ≡ within n c + get_or c n 0
unfolding within
within-next c n = rw (add-one n) (total-next c n)

pub within-whole : (f : ℕ) (c : List ℕ) → length c ≤ f → within f c ≡ total c
unfolding within
within-whole f c l = ap total (take_all f c l)

-- no counter is above the sum of all
pub counter-le : (c : List ℕ) (j : ℕ) → get_or c j 0 ≤ total c
unfolding total
counter-le [] j = omega arith
counter-le (x ∷ c) zero = omega arith
counter-le (x ∷ c) (suc j) = let ih = counter-le c j in omega arith

pub within-zeros : (f n : ℕ) → within f (replicate n 0) ≡ 0
unfolding within total
within-zeros zero n = refl
within-zeros (suc f) zero = refl
within-zeros (suc f) (suc n) = let ih = within-zeros f n in omega arith
