-- The tables by one reference, and the depth that they give. Assumes nothing.
use Rattle.std.specs.Prelude.{ℕ, suc, ◌+◌, ◌-◌, ◌*◌, ◌/◌, ◌%◌, ◌^◌, ◌<◌, ◌≤◌, ◌≡◌, refl, List, [], ◌∷◌, length, get_or, set, replicate}
use Rattle.std.proofs.Common.{sym, ap, ◌∙◌, arith, length-set, get_or-set_same, get_or-set_other, eq-eqb, ne_eqb}
use Rattle.std.proofs.lemmas.List.{length-replicate, get_or-replicate}
use Rattle.std.specs.Int.Count.{ones}
use Rattle.std.proofs.Math.Decide.{ℕ_discrete}
use Rattle.depths.specs.Depths.{depth, last_use}
use Rattle.depths.proofs.PageListLaws.{picked, passed, last-nil, last-here, last-there, last-le}
use Rattle.counting.specs.Marks.{lowered, raised, mark, sum_of, block_size, lower_block, lower_count, raise_block, raise_count, table_depth, Blocks, Tables}
use Rattle.counting.specs.MarkLaws.{lowered-here, lowered-other, raised-here, raised-other, mark-nil, mark-cons, mark-le, mark-ahead, mark-last, sum-split, sum-none, depth-first, depth-again}
use Rattle.counting.specs.PackedLaws.{Digits, packed_none, blocks-ext, blocks-raise, blocks-lower, rest-ones, blocks-sum}

pub mark-digits : (h : List ℕ) → Digits (mark h)
mark-digits h = record { small = mark-le h }

-- ---- before the first reference

pub tables_start : Tables (replicate 4096 0) (replicate 64 0) (replicate 64 0) []
tables_start = record {
  last-size = length-replicate {A = ℕ} 4096 0;
  lasts = λ p l. get_or-replicate 4096 p 0 0 l ∙ sym (last-nil p);
  marks = record {
    block_size_lem = length-replicate {A = ℕ} 64 0;
    count-size = length-replicate {A = ℕ} 64 0;
    bits = λ k l. get_or-replicate 64 k 0 0 l ∙ sym (packed_none (mark []) (block_size * k) block_size (λ i u. mark-nil (block_size * k + i)));
    counts = λ k l. get_or-replicate 64 k 0 0 l ∙ sym (sum-none (mark []) (block_size * k) block_size (λ i u. mark-nil (block_size * k + i)));
  };
}

-- ---- one reference more

module _ {last b n h : List ℕ} (t : Tables last b n h) (p : ℕ) (small : p < 4096) (room : length h < 4096) where
  lasts-next : (q : ℕ) → q < 4096 → get_or (set last p (suc (length h))) q 0 ≡ last_use (p ∷ h) q
  lasts-next q l = elim (ℕ_discrete p q) [
    | yes e ↦ let k : q < length last = rw t.last-size l in rw (e, last-here q q h refl) (get_or-set_same last q (suc (length h)) 0 k)
    | no m ↦ rw (get_or-set_other last p q (suc (length h)) 0 (λ z. m (sym z)), last-there q p h m) (t.lasts q l)
  ]

  blocks-lowered : Blocks (lowered (mark h) (last_use h p)) (lower_block b (last_use h p)) (lower_count n (last_use h p))
  unfolding lower_block lower_count
  blocks-lowered = elim (ℕ_discrete (last_use h p) 0) [
    | yes e ↦
        rw (
          picked b (set b ((last_use h p - 1) / block_size) (get_or b ((last_use h p - 1) / block_size) 0 - 2 ^ ((last_use h p - 1) % block_size))) (eq-eqb (last_use h p) 0 e),
          picked n (set n ((last_use h p - 1) / block_size) (get_or n ((last_use h p - 1) / block_size) 0 - 1)) (eq-eqb (last_use h p) 0 e),
        )
        (blocks-ext t.marks (λ j. sym (lowered-other (mark h) (last_use h p) j (λ q. omega arith))))
    | no m ↦
        let le = last-le p h in
        let e : suc (last_use h p - 1) ≡ last_use h p = omega arith in
        let on : mark h (last_use h p - 1) ≡ suc (lowered (mark h) (last_use h p) (last_use h p - 1)) = mark-last p (last_use h p - 1) h (sym e) ∙ ap suc (sym (lowered-here (mark h) (last_use h p) (last_use h p - 1) e)) in
        rw (
          passed b (set b ((last_use h p - 1) / block_size) (get_or b ((last_use h p - 1) / block_size) 0 - 2 ^ ((last_use h p - 1) % block_size))) (ne_eqb (last_use h p) 0 m),
          passed n (set n ((last_use h p - 1) / block_size) (get_or n ((last_use h p - 1) / block_size) 0 - 1)) (ne_eqb (last_use h p) 0 m),
        )
        (blocks-lower (lowered (mark h) (last_use h p)) (mark h) b n (last_use h p - 1) (omega arith) on (λ j q. sym (lowered-other (mark h) (last_use h p) j (λ r. q (omega arith)))) t.marks)
  ]

  -- nothing is marked ahead
  clear-ahead : lowered (mark h) (last_use h p) (length h) ≡ 0
  clear-ahead = let le = last-le p h in lowered-other (mark h) (last_use h p) (length h) (λ q. omega arith) ∙ mark-ahead h (length h) (omega arith)

  pub lowered-digits : Digits (lowered (mark h) (last_use h p))
  lowered-digits = record {
    small = λ j. elim (ℕ_discrete (suc j) (last_use h p)) [
      | yes q ↦ rw (lowered-here (mark h) (last_use h p) j q) (omega arith)
      | no q ↦ rw (lowered-other (mark h) (last_use h p) j q) (mark-le h j)
    ];
  }

  pub record Midway (b₁ n₁ : List ℕ) : Type 0 where
    pub blocks : Blocks (lowered (mark h) (last_use h p)) b₁ n₁
    pub ahead : lowered (mark h) (last_use h p) (length h) ≡ 0

  pub midway : Midway (lower_block b (last_use h p)) (lower_count n (last_use h p))
  midway = record { blocks = blocks-lowered; ahead = clear-ahead }

  pub tables-next : Tables (set last p (suc (length h))) (raise_block (lower_block b (last_use h p)) (length h)) (raise_count (lower_count n (last_use h p)) (length h)) (p ∷ h)
  unfolding raise_block raise_count
  tables-next = record {
    last-size = length-set last p (suc (length h)) ∙ t.last-size;
    lasts = lasts-next;
    marks = blocks-ext
        (blocks-raise (lowered (mark h) (last_use h p)) (raised (lowered (mark h) (last_use h p)) (length h)) (lower_block b (last_use h p)) (lower_count n (last_use h p)) (length h) room
        (raised-here (lowered (mark h) (last_use h p)) (length h) (length h) refl ∙ ap suc (sym clear-ahead)) (λ j q. raised-other (lowered (mark h) (last_use h p)) (length h) j q) blocks-lowered)
        (λ j. sym (mark-cons p h j));
  }

  -- ---- the depth

  depth-marks : (s : ℕ) → last_use h p ≡ s → (s ≡ 0 → ⊥)
      → ones (get_or b ((s - 1) / block_size) 0 / 2 ^ ((s - 1) % block_size) / 2 ^ 1) + sum_of (λ (k : ℕ). get_or n k 0) ((s - 1) / block_size + 1) (length h / block_size - (s - 1) / block_size) + 1 ≡ depth h p
  depth-marks s e m =
      let le : s ≤ length h = rw e at (last-le p h) in
      let low : (s - 1) / block_size < 64 = omega arith in
      let near : ones (get_or b ((s - 1) / block_size) 0 / 2 ^ ((s - 1) % block_size) / 2 ^ 1) ≡ sum_of (mark h) (block_size * ((s - 1) / block_size) + ((s - 1) % block_size + 1)) (63 - (s - 1) % block_size) = rest-ones t.marks (mark-digits h) ((s - 1) / block_size) ((s - 1) % block_size) low (omega arith) in
      let start : block_size * ((s - 1) / block_size) + ((s - 1) % block_size + 1) ≡ s = omega arith in
      let near' : ones (get_or b ((s - 1) / block_size) 0 / 2 ^ ((s - 1) % block_size) / 2 ^ 1) ≡ sum_of (mark h) s (63 - (s - 1) % block_size) = rw start at near in
      let far = blocks-sum t.marks (mark-digits h) ((s - 1) / block_size + 1) (length h / block_size - (s - 1) / block_size) (omega arith) in
      let seam : s + (63 - (s - 1) % block_size) ≡ block_size * ((s - 1) / block_size + 1) = omega arith in
      let whole : sum_of (mark h) s (63 - (s - 1) % block_size + block_size * (length h / block_size - (s - 1) / block_size)) ≡ sum_of (mark h) s (63 - (s - 1) % block_size) + sum_of (mark h) (block_size * ((s - 1) / block_size + 1)) (block_size * (length h / block_size - (s - 1) / block_size)) =
      rw seam at (sum-split (mark h) s (63 - (s - 1) % block_size) (block_size * (length h / block_size - (s - 1) / block_size))) in
      let parts : length h - s + (block_size * (length h / block_size) + 64 - length h) ≡ 63 - (s - 1) % block_size + block_size * (length h / block_size - (s - 1) / block_size) = omega arith in
      let back : s + (length h - s) ≡ length h = omega arith in
      let cut : sum_of (mark h) s (63 - (s - 1) % block_size + block_size * (length h / block_size - (s - 1) / block_size)) ≡ sum_of (mark h) s (length h - s) + sum_of (mark h) (length h) (block_size * (length h / block_size) + 64 - length h) =
      rw (back, parts) at (sum-split (mark h) s (length h - s) (block_size * (length h / block_size) + 64 - length h)) in
      let none = sum-none (mark h) (length h) (block_size * (length h / block_size) + 64 - length h) (λ i u. mark-ahead h (length h + i) (omega arith)) in
      let d : depth h p ≡ sum_of (mark h) s (length h - s) + 1 = rw e at (depth-again h p (length h - s) (λ z. m (sym e ∙ z)) (rw e (omega arith))) in
      omega arith

  pub depth-by-tables : table_depth b n (get_or last p 0) (length h) ≡ depth h p
  unfolding table_depth
  depth-by-tables = rw (t.lasts p small) (elim (ℕ_discrete (last_use h p) 0) [
    | yes e ↦ picked 0 _ (eq-eqb (last_use h p) 0 e) ∙ sym (depth-first h p e)
    | no m ↦ passed 0 _ (ne_eqb (last_use h p) 0 m) ∙ depth-marks (last_use h p) refl m
  ])
