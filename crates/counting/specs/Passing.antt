-- What the loop over a recording keeps, and how it goes on by one reference. Assumes nothing.
use Rattle.std.specs.Prelude.{ℕ, zero, suc, ◌+◌, ◌-◌, ◌*◌, ◌/◌, ◌%◌, ◌^◌, ◌<◌, ◌≤◌, ◌≡◌, refl, List, ◌∷◌, length, get_or, set, drop, replicate}
use Rattle.std.proofs.Math.Path.{sym}
use Rattle.std.proofs.Common.{ap, ◌∙◌, length-set, drop-cons, get_or-set_same, get_or-set_other, arith, eq-eqb, ne_eqb}
use Rattle.std.proofs.Math.ListN.{get_or-eq_default}
use Rattle.std.proofs.Math.Seq.{drop-length}
use Rattle.std.specs.Int.Count.{ones}
use Rattle.std.proofs.Math.Numerals.{add-one}
use Rattle.std.proofs.Math.Decide.{ℕ_discrete, dec_lt}
use Rattle.depths.specs.Depths.{depth, depths_after, depths, last_use}
use Rattle.depths.specs.Tallying.{depth_count, one_counted, all_counted}
use Rattle.depths.proofs.PageListLaws.{picked, passed, last-le}
use Rattle.depths.proofs.TallyLaws.{depth_le, length-counted}
use Rattle.counting.specs.Marks.{lowered, mark, sum_of, lower_block, lower_count, raise_block, raise_count, table_depth, Tables, past}
use Rattle.counting.specs.MarkLaws.{sum-zero, sum-suc, mark-last}
use Rattle.counting.specs.PackedLaws.{block-has, block_room, marks-le}
use Rattle.counting.specs.TableLaws.{mark-digits, tables_start, Midway, midway, lowered-digits, tables-next, depth-by-tables}

-- ---- what the steps ask

-- each page is one of the 4,096
pub record PagesBelow (ps : List ℕ) : Type 0 where
  pub small : (j : ℕ) → j < length ps → get_or ps j 0 < 4096

-- each block has at most 64 marks
pub record SmallCounts (n : List ℕ) : Type 0 where
  pub small : (k : ℕ) → get_or n k 0 ≤ 64

-- there is a counter for each depth, and room in it for one more
pub record Countable (c : List ℕ) : Type 0 where
  pub size : length c ≡ depth_count
  pub room : (j : ℕ) → get_or c j 0 < 2 ^ 32 - 1

pub record CanLower (b n : List ℕ) (s : ℕ) : Type 0 where
  pub below : s ≤ 4096
  pub marked : (s ≡ 0 → ⊥) → 2 ^ ((s - 1) % 64) ≤ get_or b ((s - 1) / 64) 0
  pub count : (s ≡ 0 → ⊥) → 1 ≤ get_or n ((s - 1) / 64) 0

pub record CanRaise (b n : List ℕ) (t : ℕ) : Type 0 where
  pub below : t < 4096
  pub room : get_or b (t / 64) 0 + 2 ^ (t % 64) < 2 ^ 64
  pub count : get_or n (t / 64) 0 ≤ 64

-- a recording that add accepts, and counters with room for it
pub record CanCount (c ps : List ℕ) : Type 0 where
  pub size : length c ≡ depth_count
  pub room : (j : ℕ) → get_or c j 0 ≤ 4096 * 65535
  pub most : length ps ≤ 4096
  pub pages : PagesBelow ps

-- ---- one block after the other

pub blocks-none : (f : ℕ → ℕ) (s : ℕ) → 0 ≡ sum_of f s (s - s)
blocks-none f s = let e : s - s ≡ 0 = omega arith in rw e (sym (sum-zero f s))

pub blocks-goes : (f : ℕ → ℕ) (s i x : ℕ) → s ≤ i → x ≡ sum_of f s (i - s) → x + f i ≡ sum_of f s (i + 1 - s)
blocks-goes f s i x l e =
    let a : i + 1 - s ≡ suc (i - s) = omega arith in
    let d : s + (i - s) ≡ i = omega arith in
    rw (e, a) (sym (sum-suc f s (i - s) ∙ ap (λ (k : ℕ). sum_of f s (i - s) + f k) d))

-- ---- what each step does, as the code has it

pub no-depth : (b n : List ℕ) (s t : ℕ) → s ≡ 0 → 0 ≡ table_depth b n s t
unfolding table_depth
no-depth b n s t e = sym (picked 0 _ (eq-eqb s 0 e))

pub some-depth : (b n : List ℕ) (s t near far : ℕ) → (s ≡ 0 → ⊥) → s ≤ t
    → near ≡ ones (get_or b ((s - 1) / 64) 0 / 2 ^ ((s - 1) % 64) / 2 ^ 1)
    → far ≡ sum_of (λ (k : ℕ). get_or n k 0) ((s - 1) / 64 + 1) (t / 64 + 1 - ((s - 1) / 64 + 1))
    → near + far + 1 ≡ table_depth b n s t
unfolding table_depth
some-depth b n s t near far m l e f =
    let a : t / 64 + 1 - ((s - 1) / 64 + 1) ≡ t / 64 - (s - 1) / 64 = omega arith in
    rw (e, f, a) (sym (passed 0 _ (ne_eqb s 0 m)))

pub none-counted : (c : List ℕ) (d : ℕ) → d ≡ 0 → c ≡ one_counted c d
unfolding one_counted
none-counted c d e = rw e

pub one-counted : (c : List ℕ) (d : ℕ) → (d ≡ 0 → ⊥) → set c (d - 1) (get_or c (d - 1) 0 + 1) ≡ one_counted c d
unfolding one_counted
one-counted c zero n = absurd (n refl)
one-counted c (suc k) n = let e : suc k - 1 ≡ k = omega arith in rw e

module _ (b n : List ℕ) (s : ℕ) where
  pub none-lowered : s ≡ 0 → (b ≡ lower_block b s) × (n ≡ lower_count n s)
  unfolding lower_block lower_count
  none-lowered e = (sym (picked b _ (eq-eqb s 0 e)), sym (picked n _ (eq-eqb s 0 e)))

  pub one-lowered : (x : ℕ) → (s ≡ 0 → ⊥) → x ≡ 2 ^ ((s - 1) % 64)
      → (set b ((s - 1) / 64) (get_or b ((s - 1) / 64) 0 - x) ≡ lower_block b s) × (set n ((s - 1) / 64) (get_or n ((s - 1) / 64) 0 - 1) ≡ lower_count n s)
  unfolding lower_block lower_count
  one-lowered x m e = (rw e (sym (passed b _ (ne_eqb s 0 m))), sym (passed n _ (ne_eqb s 0 m)))

  pub one-raised : (x : ℕ) → x ≡ 2 ^ (s % 64)
      → (set b (s / 64) (get_or b (s / 64) 0 + x) ≡ raise_block b s) × (set n (s / 64) (get_or n (s / 64) 0 + 1) ≡ raise_count n s)
  unfolding raise_block raise_count
  one-raised x e = (rw e, refl)

pub mark-moved : (b n b₁ n₁ b₂ n₂ : List ℕ) (s t : ℕ) → b₁ ≡ lower_block b s → n₁ ≡ lower_count n s → b₂ ≡ raise_block b₁ t → n₂ ≡ raise_count n₁ t
    → (b₂ ≡ raise_block (lower_block b s) t) × (n₂ ≡ raise_count (lower_count n s) t)
mark-moved b n b₁ n₁ b₂ n₂ s t be ne bf nf = (bf ∙ ap (λ (x : List ℕ). raise_block x t) be, nf ∙ ap (λ (x : List ℕ). raise_count x t) ne)

-- ---- the loop

length-past : (ps : List ℕ) (t : ℕ) → length (past ps t) ≡ t
unfolding past
length-past ps zero = refl
length-past ps (suc t) = ap suc (length-past ps t)

counter-rises : (n : ℕ) (c : List ℕ) (d : ℕ) → ((j : ℕ) → get_or c j 0 ≤ n) → (j : ℕ) → get_or (one_counted c d) j 0 ≤ n + 1
unfolding one_counted
counter-rises n c zero b j = let h = b j in omega arith
counter-rises n c (suc k) b j = elim (ℕ_discrete j k) [
  | yes e ↦ elim (dec_lt k (length c)) [
    | yes l ↦ let h = b k in rw (e, get_or-set_same c k (get_or c k 0 + 1) 0 l) (omega arith)
    | no l ↦ let m : length (set c k (get_or c k 0 + 1)) ≤ j = rw (length-set c k (get_or c k 0 + 1)) (omega arith) in rw (get_or-eq_default (set c k (get_or c k 0 + 1)) 0 m) (omega arith)
  ]
  | no m ↦ let h = b j in rw (get_or-set_other c k j (get_or c k 0 + 1) 0 m) (omega arith)
]

-- after t references: the tables tell of them, and what is still to be counted makes up the whole
pub record Going (ps c₀ c last b n : List ℕ) (t : ℕ) : Type 0 where
  pub most : length ps ≤ 4096
  pub pages : PagesBelow ps
  pub reach : t ≤ length ps
  pub tables : Tables last b n (past ps t)
  pub rest : all_counted c (depths_after (past ps t) (drop t ps)) ≡ all_counted c₀ (depths ps)
  pub size : length c ≡ depth_count
  pub room : (j : ℕ) → get_or c j 0 ≤ 4096 * 65535 + t

pub going_start : (ps c : List ℕ) → CanCount c ps → Going ps c c (replicate 4096 0) (replicate 64 0) (replicate 64 0) 0
unfolding past
going_start ps c k = record {
  most = k.most;
  pages = k.pages;
  reach = omega arith;
  tables = tables_start;
  rest = refl;
  size = k.size;
  room = λ j. (let h = k.room j in omega arith);
}

module _ {ps c₀ c last b n : List ℕ} {t : ℕ} (g : Going ps c₀ c last b n t) where
  going-counts : SmallCounts n
  going-counts = record {
    small = λ k. elim (dec_lt k 64) [
      | yes l ↦ marks-le g.tables.marks (mark-digits (past ps t)) k l
      | no l ↦ let m : length n ≤ k = rw g.tables.marks.count-size (omega arith) in rw (get_or-eq_default n 0 m) (omega arith)
    ];
  }

  going-countable : t < 4096 → Countable c
  going-countable l = record { size = g.size; room = λ j. (let h = g.room j in omega arith) }

  -- a reference to p: the steps ask, and leave, in the code's words
  module _ (l : t < length ps) (p : ℕ) (page : p ≡ get_or ps t 0) where
    small : p < 4096
    small = rw page (g.pages.small t l)

    low : t < 4096
    low = let m = g.most in omega arith

    fewer : length (past ps t) < 4096
    fewer = rw (length-past ps t) low

    last-is : get_or last p 0 ≡ last_use (past ps t) p
    last-is = g.tables.lasts p small

    last-before : get_or last p 0 ≤ t
    last-before = rw last-is (rw (length-past ps t) at (last-le p (past ps t)))

    depth_is : table_depth b n (get_or last p 0) t ≡ depth (past ps t) p
    depth_is = rw (length-past ps t) at (depth-by-tables g.tables p small fewer)

    depth_small : table_depth b n (get_or last p 0) t ≤ depth_count
    depth_small = rw depth_is (let d = depth_le (past ps t) p in let e = length-past ps t in let k = low in omega arith)

    has-mark : (get_or last p 0 ≡ 0 → ⊥) → (2 ^ ((get_or last p 0 - 1) % 64) ≤ get_or b ((get_or last p 0 - 1) / 64) 0) × (1 ≤ get_or n ((get_or last p 0 - 1) / 64) 0)
    has-mark m =
        let before : get_or last p 0 ≤ t = last-before in
        let k = low in
        let e : suc (get_or last p 0 - 1) ≡ get_or last p 0 = omega arith in
        block-has g.tables.marks (mark-digits (past ps t)) (get_or last p 0 - 1) (omega arith) (mark-last p (get_or last p 0 - 1) (past ps t) (sym last-is ∙ sym e))

    can-lower : CanLower b n (get_or last p 0)
    can-lower = record {
      below = (let before : get_or last p 0 ≤ t = last-before in let k = low in omega arith);
      marked = λ m. (has-mark m).0;
      count = λ m. (has-mark m).1;
    }

    half : Midway g.tables p small fewer (lower_block b (get_or last p 0)) (lower_count n (get_or last p 0))
    half = rw last-is (midway g.tables p small fewer)

    can-raise : CanRaise (lower_block b (get_or last p 0)) (lower_count n (get_or last p 0)) t
    can-raise =
        let e : lowered (mark (past ps t)) (last_use (past ps t) p) t ≡ 0 = rw (length-past ps t) at half.ahead in
        let r = block_room half.blocks (lowered-digits g.tables p small fewer) t low e in
        record { below = low; room = r.0; count = r.1 }

    tables-go : Tables (set last p (suc t)) (raise_block (lower_block b (get_or last p 0)) t) (raise_count (lower_count n (get_or last p 0)) t) (p ∷ past ps t)
    tables-go = rw last-is (rw (length-past ps t) at (tables-next g.tables p small fewer))

    going_next : Going ps c₀ (one_counted c (table_depth b n (get_or last p 0) t)) (set last p (t + 1)) (raise_block (lower_block b (get_or last p 0)) t) (raise_count (lower_count n (get_or last p 0)) t) (t + 1)
    unfolding past depths_after all_counted
    going_next = record {
      most = g.most;
      pages = g.pages;
      reach = omega arith;
      tables = rw (add-one t, ← page) tables-go;
      rest = rw (depth_is, add-one t, page) (rw (drop-cons ps t 0 l) at g.rest);
      size = length-counted c (table_depth b n (get_or last p 0) t) ∙ g.size;
      room = λ j. (let h = counter-rises (4096 * 65535 + t) c (table_depth b n (get_or last p 0) t) g.room j in omega arith);
    }

    pub going-depth : (s : ℕ) → s ≡ get_or last p 0 → (s ≤ t) × (t < 4096) × SmallCounts n
    going-depth s e = rw e (last-before, low, going-counts)

    pub going-count : (s d : ℕ) → s ≡ get_or last p 0 → d ≡ table_depth b n s t → (d ≤ depth_count) × Countable c
    going-count s d e f = rw (f, e) (depth_small, going-countable low)

    pub going-move : (s : ℕ) → s ≡ get_or last p 0 → CanLower b n s × CanRaise (lower_block b s) (lower_count n s) t
    going-move s e = rw e (can-lower, can-raise)

    pub going_on : (s d : ℕ) (c' b' n' : List ℕ) → s ≡ get_or last p 0 → d ≡ table_depth b n s t → c' ≡ one_counted c d → b' ≡ raise_block (lower_block b s) t → n' ≡ raise_count (lower_count n s) t
        → Going ps c₀ c' (set last p (t + 1)) b' n' (t + 1)
    going_on s d c' b' n' e f x y z = rw (y, z, x, f, e) going_next

pub going_done : {ps c₀ c last b n : List ℕ} {t : ℕ} → Going ps c₀ c last b n t → length ps ≤ t → c ≡ all_counted c₀ (depths ps)
unfolding all_counted depths_after
going_done {ps} {c₀} {c} {last} {b} {n} {t} g l =
    let e : t ≡ length ps = (let r : t ≤ length ps = g.reach in omega arith) in
    rw (e, drop-length) at g.rest
