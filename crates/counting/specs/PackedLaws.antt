-- Marks packed into blocks: what a block tells, and a block with one mark less or more. Assumes nothing.
use Rattle.std.specs.Prelude.{ℕ, zero, suc, ◌+◌, ◌-◌, ◌*◌, ◌/◌, ◌%◌, ◌^◌, ◌<◌, ◌≤◌, ◌≡◌, refl, List, length, get_or, set}
use Rattle.std.proofs.Common.{sym, ap, ◌∙◌, length-set, get_or-set_same, get_or-set_other, shr-shr, pow-suc, div-one, arith}
use Rattle.std.proofs.Math.Pow.{high}
use Rattle.std.specs.Int.Count.{ones}
use Rattle.std.proofs.lemmas.Nat.{ones_cat}
use Rattle.std.proofs.Math.Decide.{ℕ_discrete}
use Rattle.counting.specs.Marks.{lowered, raised, sum_of, packed, block_size, Blocks}
use Rattle.counting.specs.MarkLaws.{lowered-here, lowered-other, raised-here, raised-other, sum-zero, sum-suc, sum-ext, sum-split, sum-le}

-- ---- digits

-- each number of the row is 0 or 1
pub record Digits (f : ℕ → ℕ) : Type 0 where
  pub small : (j : ℕ) → f j ≤ 1

packed_zero : (f : ℕ → ℕ) (s : ℕ) → packed f s 0 ≡ 0
unfolding packed
packed_zero f s = refl

packed-suc : (f : ℕ → ℕ) (s n : ℕ) → packed f s (suc n) ≡ packed f (s + 1) n * 2 + f s
unfolding packed
packed-suc f s n = refl

packed-ext : (f g : ℕ → ℕ) (s n : ℕ) → ((i : ℕ) → i < n → f (s + i) ≡ g (s + i)) → packed f s n ≡ packed g s n
packed-ext f g s zero h = packed_zero f s ∙ sym (packed_zero g s)
packed-ext f g s (suc n) h =
    let a = packed-suc f s n in
    let b = packed-suc g s n in
    let c = packed-ext f g (s + 1) n (λ i l. shifted i l) in
    let d : f s ≡ g s = (let e : s + 0 ≡ s = omega arith in rw e at (h 0 (omega arith))) in
    omega arith
  where
    shifted : (i : ℕ) → i < n → f (s + 1 + i) ≡ g (s + 1 + i)
    shifted i l = let e : s + suc i ≡ s + 1 + i = omega arith in rw e at (h (suc i) (omega arith))

pub packed_none : (f : ℕ → ℕ) (s n : ℕ) → ((i : ℕ) → i < n → f (s + i) ≡ 0) → packed f s n ≡ 0
packed_none f s zero h = packed_zero f s
packed_none f s (suc n) h =
    let a = packed-suc f s n in
    let b = packed_none f (s + 1) n (λ i l. let e : s + suc i ≡ s + 1 + i = omega arith in rw e at (h (suc i) (omega arith))) in
    let c : f s ≡ 0 = (let e : s + 0 ≡ s = omega arith in rw e at (h 0 (omega arith))) in
    omega arith

packed_lt : (f : ℕ → ℕ) → Digits f → (s n : ℕ) → packed f s n < 2 ^ n
packed_lt f d s zero = rw (packed_zero f s) (omega arith)
packed_lt f d s (suc n) =
    let a = packed-suc f s n in
    let b = packed_lt f d (s + 1) n in
    let c = d.small s in
    let e = pow-suc 2 n in
    omega arith

-- the rest of the digits, from the one after j others on
packed-rest : (f : ℕ → ℕ) → Digits f → (s n j : ℕ) → packed f s (j + n) / 2 ^ j ≡ packed f (s + j) n
packed-rest f d s n zero = let e : s + 0 ≡ s = omega arith in let z : 0 + n ≡ n = omega arith in rw (z, e) (div-one (packed f s n))
packed-rest f d s n (suc j) =
    let z : suc j + n ≡ suc (j + n) = omega arith in
    let o : f s < 2 ^ 1 = (let c = d.small s in omega arith) in
    let y : 1 + j ≡ suc j = omega arith in
    let x : s + 1 + j ≡ s + (1 + j) = omega arith in
    let h : packed f s (suc (j + n)) / 2 ^ 1 ≡ packed f (s + 1) (j + n) = ap (λ (m : ℕ). m / 2 ^ 1) (packed-suc f s (j + n)) ∙ high (packed f (s + 1) (j + n)) 1 o in
    rw (z, ← y) (sym (shr-shr (packed f s (suc (j + n))) 1 j) ∙ ap (λ (m : ℕ). m / 2 ^ j) h ∙ (rw x at (packed-rest f d (s + 1) n j)))

sum_head : (f : ℕ → ℕ) (s n : ℕ) → sum_of f s (suc n) ≡ f s + sum_of f (s + 1) n
sum_head f s zero = let a = sum-suc f s 0 in let b = sum-zero f s in let c = sum-zero f (s + 1) in let e : s + 0 ≡ s = omega arith in let g : f (s + 0) ≡ f s = ap f e in omega arith
sum_head f s (suc n) =
    let a = sum-suc f s (suc n) in
    let b = sum_head f s n in
    let c = sum-suc f (s + 1) n in
    let e : f (s + suc n) ≡ f (s + 1 + n) = ap f (omega arith) in
    omega arith

digit_ones : (r : ℕ) → r ≤ 1 → ones r ≡ r
unfolding ones
digit_ones zero l = refl
digit_ones (suc zero) l = refl
digit_ones (suc (suc r)) l = absurd (omega arith)

-- as many ones as the digits come to
packed-ones : (f : ℕ → ℕ) → Digits f → (s n : ℕ) → ones (packed f s n) ≡ sum_of f s n
packed-ones f d s zero = ap ones (packed_zero f s) ∙ digit_ones 0 (omega arith) ∙ sym (sum-zero f s)
packed-ones f d s (suc n) =
    let o : f s < 2 ^ 1 = (let c = d.small s in omega arith) in
    ap ones (packed-suc f s n) ∙ ones_cat 1 (packed f (s + 1) n) (f s) o ∙ (let b = packed-ones f d (s + 1) n in let c = digit_ones (f s) (d.small s) in let e = sum_head f s n in omega arith)

-- ---- one digit higher by one

module _ (f g : ℕ → ℕ) where
  packed-raise : (s n i : ℕ) → i < n → g (s + i) ≡ suc (f (s + i)) → ((j : ℕ) → j < n → (j ≡ i → ⊥) → g (s + j) ≡ f (s + j)) → packed g s n ≡ packed f s n + 2 ^ i
  packed-raise s zero i l e h = absurd (omega arith)
  packed-raise s (suc n) zero l e h =
      let z : s + 0 ≡ s = omega arith in
      let a = packed-suc f s n in
      let b = packed-suc g s n in
      let c : packed g (s + 1) n ≡ packed f (s + 1) n = packed-ext g f (s + 1) n (λ i k. let w : s + suc i ≡ s + 1 + i = omega arith in rw w at (h (suc i) (omega arith) (λ q. omega arith))) in
      let d : g s ≡ suc (f s) = rw z at e in
      omega arith
  packed-raise s (suc n) (suc i) l e h =
      let z : s + 0 ≡ s = omega arith in
      let w : s + suc i ≡ s + 1 + i = omega arith in
      let a = packed-suc f s n in
      let b = packed-suc g s n in
      let c = packed-raise (s + 1) n i (omega arith) (rw w at e) (λ j k q. let v : s + suc j ≡ s + 1 + j = omega arith in rw v at (h (suc j) (omega arith) (λ r. q (omega arith)))) in
      let d : g s ≡ f s = rw z at (h 0 (omega arith) (λ q. omega arith)) in
      let p = pow-suc 2 i in
      omega arith

  sum-raise : (s n i : ℕ) → i < n → g (s + i) ≡ suc (f (s + i)) → ((j : ℕ) → j < n → (j ≡ i → ⊥) → g (s + j) ≡ f (s + j)) → sum_of g s n ≡ sum_of f s n + 1
  sum-raise s zero i l e h = absurd (omega arith)
  sum-raise s (suc n) i l e h =
      let a = sum-suc f s n in
      let b = sum-suc g s n in
      elim (ℕ_discrete n i) [
        | yes q ↦
            let c = sum-ext g f s n (λ j k. h j (omega arith) (λ r. omega arith)) in
            let d : g (s + n) ≡ suc (f (s + n)) = rw (← q) at e in
            omega arith
        | no q ↦
            let c = sum-raise s n i (omega arith) e (λ j k r. h j (omega arith) r) in
            let d = h n (omega arith) q in
            omega arith
      ]

-- ---- blocks of a row

pub blocks-ext : {f g : ℕ → ℕ} {b n : List ℕ} → Blocks f b n → ((j : ℕ) → f j ≡ g j) → Blocks g b n
blocks-ext {f} {g} {b} {n} t e = record {
  block_size_lem = t.block_size_lem;
  count-size = t.count-size;
  bits = λ k l. t.bits k l ∙ packed-ext f g (block_size * k) block_size (λ i u. e (block_size * k + i));
  counts = λ k l. t.counts k l ∙ sum-ext f g (block_size * k) block_size (λ i u. e (block_size * k + i));
}

module _ (f g : ℕ → ℕ) (b n : List ℕ) (at : ℕ) (fits : at < 4096) (here : g at ≡ suc (f at)) (others : (j : ℕ) → (j ≡ at → ⊥) → g j ≡ f j) where
  block-raise : packed g (block_size * (at / 64)) block_size ≡ packed f (block_size * (at / 64)) block_size + 2 ^ (at % 64)
  block-raise =
      let e : block_size * (at / 64) + at % 64 ≡ at = omega arith in
      packed-raise f g (block_size * (at / 64)) block_size (at % 64) (omega arith) (rw e here) (λ j l q. others (block_size * (at / 64) + j) (λ r. q (omega arith)))

  count-raise : sum_of g (block_size * (at / 64)) block_size ≡ sum_of f (block_size * (at / 64)) block_size + 1
  count-raise =
      let e : block_size * (at / 64) + at % 64 ≡ at = omega arith in
      sum-raise f g (block_size * (at / 64)) block_size (at % 64) (omega arith) (rw e here) (λ j l q. others (block_size * (at / 64) + j) (λ r. q (omega arith)))

  away : (k : ℕ) → (k ≡ at / 64 → ⊥) → (i : ℕ) → i < block_size → g (block_size * k + i) ≡ f (block_size * k + i)
  away k q i l = others (block_size * k + i) (λ r. q (omega arith))

  -- a row with one mark more
  pub blocks-raise : Blocks f b n → Blocks g (set b (at / 64) (get_or b (at / 64) 0 + 2 ^ (at % 64))) (set n (at / 64) (get_or n (at / 64) 0 + 1))
  blocks-raise t =
      let low : at / 64 < 64 = omega arith in
      record {
        block_size_lem = length-set b (at / 64) (get_or b (at / 64) 0 + 2 ^ (at % 64)) ∙ t.block_size_lem;
        count-size = length-set n (at / 64) (get_or n (at / 64) 0 + 1) ∙ t.count-size;
        bits = λ k l. elim (ℕ_discrete k (at / 64)) [
          | yes q ↦ let z : at / 64 < length b = rw t.block_size_lem low in rw q (get_or-set_same b (at / 64) (get_or b (at / 64) 0 + 2 ^ (at % 64)) 0 z ∙ ap (λ (x : ℕ). x + 2 ^ (at % 64)) (t.bits (at / 64) low) ∙ sym block-raise)
          | no q ↦ get_or-set_other b (at / 64) k (get_or b (at / 64) 0 + 2 ^ (at % 64)) 0 q ∙ t.bits k l ∙ sym (packed-ext g f (block_size * k) block_size (away k q))
        ];
        counts = λ k l. elim (ℕ_discrete k (at / 64)) [
          | yes q ↦ let z : at / 64 < length n = rw t.count-size low in rw q (get_or-set_same n (at / 64) (get_or n (at / 64) 0 + 1) 0 z ∙ ap (λ (x : ℕ). x + 1) (t.counts (at / 64) low) ∙ sym count-raise)
          | no q ↦ get_or-set_other n (at / 64) k (get_or n (at / 64) 0 + 1) 0 q ∙ t.counts k l ∙ sym (sum-ext g f (block_size * k) block_size (away k q))
        ];
      }

  -- a row with one mark less
  pub blocks-lower : Blocks g b n → Blocks f (set b (at / 64) (get_or b (at / 64) 0 - 2 ^ (at % 64))) (set n (at / 64) (get_or n (at / 64) 0 - 1))
  blocks-lower t =
      let low : at / 64 < 64 = omega arith in
      let less : packed g (block_size * (at / 64)) block_size - 2 ^ (at % 64) ≡ packed f (block_size * (at / 64)) block_size = (let e = block-raise in omega arith) in
      let fewer : sum_of g (block_size * (at / 64)) block_size - 1 ≡ sum_of f (block_size * (at / 64)) block_size = (let e = count-raise in omega arith) in
      record {
        block_size_lem = length-set b (at / 64) (get_or b (at / 64) 0 - 2 ^ (at % 64)) ∙ t.block_size_lem;
        count-size = length-set n (at / 64) (get_or n (at / 64) 0 - 1) ∙ t.count-size;
        bits = λ k l. elim (ℕ_discrete k (at / 64)) [
          | yes q ↦ let z : at / 64 < length b = rw t.block_size_lem low in rw q (get_or-set_same b (at / 64) (get_or b (at / 64) 0 - 2 ^ (at % 64)) 0 z ∙ ap (λ (x : ℕ). x - 2 ^ (at % 64)) (t.bits (at / 64) low) ∙ less)
          | no q ↦ get_or-set_other b (at / 64) k (get_or b (at / 64) 0 - 2 ^ (at % 64)) 0 q ∙ t.bits k l ∙ packed-ext g f (block_size * k) block_size (away k q)
        ];
        counts = λ k l. elim (ℕ_discrete k (at / 64)) [
          | yes q ↦ let z : at / 64 < length n = rw t.count-size low in rw q (get_or-set_same n (at / 64) (get_or n (at / 64) 0 - 1) 0 z ∙ ap (λ (x : ℕ). x - 1) (t.counts (at / 64) low) ∙ fewer)
          | no q ↦ get_or-set_other n (at / 64) k (get_or n (at / 64) 0 - 1) 0 q ∙ t.counts k l ∙ sum-ext g f (block_size * k) block_size (away k q)
        ];
      }

-- ---- what the blocks tell

module _ {f : ℕ → ℕ} {b n : List ℕ} (t : Blocks f b n) (d : Digits f) where
  -- the marks of a block after its place j
  pub rest-ones : (k j : ℕ) → k < 64 → j < 64 → ones (get_or b k 0 / 2 ^ j / 2 ^ 1) ≡ sum_of f (block_size * k + (j + 1)) (63 - j)
  rest-ones k j l m =
      let e : j + 1 + (63 - j) ≡ 64 = omega arith in
      let r : packed f (block_size * k) 64 / 2 ^ (j + 1) ≡ packed f (block_size * k + (j + 1)) (63 - j) = rw e at (packed-rest f d (block_size * k) (63 - j) (j + 1)) in
      ap ones (shr-shr (get_or b k 0) j 1 ∙ ap (λ (x : ℕ). x / 2 ^ (j + 1)) (t.bits k l) ∙ r)
      ∙ packed-ones f d (block_size * k + (j + 1)) (63 - j)

  -- the marks of m blocks from a on
  pub blocks-sum : (a m : ℕ) → a + m ≤ 64 → sum_of (λ (k : ℕ). get_or n k 0) a m ≡ sum_of f (block_size * a) (block_size * m)
  blocks-sum a zero l = sum-zero (λ (k : ℕ). get_or n k 0) a ∙ sym (let e : block_size * 0 ≡ 0 = omega arith in rw e (sum-zero f (block_size * a)))
  blocks-sum a (suc m) l =
      let e : block_size * suc m ≡ block_size * m + block_size = omega arith in
      let g : block_size * a + block_size * m ≡ block_size * (a + m) = omega arith in
      let c : sum_of f (block_size * a) (block_size * m + block_size) ≡ sum_of f (block_size * a) (block_size * m) + sum_of f (block_size * (a + m)) block_size =
      sum-split f (block_size * a) (block_size * m) block_size ∙ ap (λ (x : ℕ). sum_of f (block_size * a) (block_size * m) + sum_of f x block_size) g in
      let h = sum-suc (λ (k : ℕ). get_or n k 0) a m in
      let i = t.counts (a + m) (omega arith) in
      let j = blocks-sum a m (omega arith) in
      rw e (omega arith)

  -- a number that is marked, and one that isn't
  pub block-has : (at : ℕ) → at < 4096 → f at ≡ 1 → (2 ^ (at % 64) ≤ get_or b (at / 64) 0) × (1 ≤ get_or n (at / 64) 0)
  block-has at l e =
      let low : at / 64 < 64 = omega arith in
      let here : f at ≡ suc (lowered f (suc at) at) = e ∙ ap suc (sym (lowered-here f (suc at) at refl)) in
      let x = block-raise (lowered f (suc at)) f b n at l here (λ j q. sym (lowered-other f (suc at) j (λ r. q (omega arith)))) in
      let y = count-raise (lowered f (suc at)) f b n at l here (λ j q. sym (lowered-other f (suc at) j (λ r. q (omega arith)))) in
      let u = t.bits (at / 64) low in
      let v = t.counts (at / 64) low in
      (omega arith, omega arith)

  pub block_room : (at : ℕ) → at < 4096 → f at ≡ 0 → (get_or b (at / 64) 0 + 2 ^ (at % 64) < 2 ^ 64) × (get_or n (at / 64) 0 ≤ 64)
  block_room at l e =
      let low : at / 64 < 64 = omega arith in
      let here : raised f at at ≡ suc (f at) = raised-here f at at refl ∙ ap suc (sym e) in
      let x = block-raise f (raised f at) b n at l here (λ j q. raised-other f at j q) in
      let w = packed_lt (raised f at) (record { small = λ j. elim (ℕ_discrete j at) [ yes q ↦ rw (raised-here f at j q) (omega arith) | no q ↦ rw (raised-other f at j q) (d.small j) ] }) (block_size * (at / 64)) block_size in
      let u = t.bits (at / 64) low in
      let v = t.counts (at / 64) low in
      let z = sum-le f 1 (block_size * (at / 64)) block_size (λ i k. d.small (block_size * (at / 64) + i)) in
      (omega arith, omega arith)

  pub marks-le : (k : ℕ) → k < 64 → get_or n k 0 ≤ 64
  marks-le k l = let v = t.counts k l in let z = sum-le f 1 (block_size * k) block_size (λ i u. d.small (block_size * k + i)) in omega arith
