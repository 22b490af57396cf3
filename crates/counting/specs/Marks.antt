-- What the code keeps of the references so far: for each page the time of its last one, and for each time a mark where it is the last reference of its page. Marks stand in blocks of 64, packed into one number each, and beside each block stands how many there are.
use Rattle.std.specs.Prelude.{ℕ, zero, suc, ◌+◌, ◌-◌, ◌*◌, ◌/◌, ◌%◌, ◌^◌, ◌<◌, ◌≡◌, List, [], ◌∷◌, eqb, length, get_or, set}
use Rattle.std.specs.Int.Count.{ones}
use Rattle.rules.specs.Tests.{pick}
use Rattle.depths.specs.Depths.{last_use}
use Rattle.depths.specs.Tallying.{most_references}

-- marks by place. The mark of the time s, at place s - 1, is taken away; none for 0
unfoldable pub lowered : (ℕ → ℕ) → ℕ → ℕ → ℕ
lowered f s j = pick (eqb (suc j) s) 0 (f j)

-- the mark at place t is set
unfoldable pub raised : (ℕ → ℕ) → ℕ → ℕ → ℕ
raised f t j = pick (eqb j t) 1 (f j)

-- 1 where the reference after j others is the last one to its page
unfoldable pub mark : List ℕ → ℕ → ℕ
mark [] j = 0
mark (x ∷ h) j = raised (lowered (mark h) (last_use h x)) (length h) j

-- n numbers of a row, from s on: their sum, and as the digits of a number, the first lowest
unfoldable pub sum_of : (ℕ → ℕ) → ℕ → ℕ → ℕ
sum_of f s zero = 0
sum_of f s (suc n) = sum_of f s n + f (s + n)

unfoldable pub packed : (ℕ → ℕ) → ℕ → ℕ → ℕ
packed f s zero = 0
packed f s (suc n) = packed f (s + 1) n * 2 + f s

abbrev pub block_size : ℕ
block_size = 64

-- ---- what the code does to a block, and to the number of its marks

unfoldable pub lower_block : List ℕ → ℕ → List ℕ
lower_block b s = pick (eqb s 0) b (set b ((s - 1) / block_size) (get_or b ((s - 1) / block_size) 0 - 2 ^ ((s - 1) % block_size)))

unfoldable pub lower_count : List ℕ → ℕ → List ℕ
lower_count n s = pick (eqb s 0) n (set n ((s - 1) / block_size) (get_or n ((s - 1) / block_size) 0 - 1))

unfoldable pub raise_block : List ℕ → ℕ → List ℕ
raise_block b t = set b (t / block_size) (get_or b (t / block_size) 0 + 2 ^ (t % block_size))

unfoldable pub raise_count : List ℕ → ℕ → List ℕ
raise_count n t = set n (t / block_size) (get_or n (t / block_size) 0 + 1)

-- the depth by the tables, of a page whose last reference was at time s, after t references
unfoldable pub table_depth : List ℕ → List ℕ → ℕ → ℕ → ℕ
table_depth b n s t =
    pick (eqb s 0) 0
    (ones (get_or b ((s - 1) / block_size) 0 / 2 ^ ((s - 1) % block_size) / 2 ^ 1)
    + sum_of (λ (k : ℕ). get_or n k 0) ((s - 1) / block_size + 1) (t / block_size - (s - 1) / block_size)
    + 1)

-- the blocks have the marks of a row
pub record Blocks (f : ℕ → ℕ) (b n : List ℕ) : Type 0 where
  pub block_size_lem : length b ≡ 64
  pub count-size : length n ≡ 64
  pub bits : (k : ℕ) → k < 64 → get_or b k 0 ≡ packed f (block_size * k) block_size
  pub counts : (k : ℕ) → k < 64 → get_or n k 0 ≡ sum_of f (block_size * k) block_size

-- the tables tell of the references h
pub record Tables (last b n h : List ℕ) : Type 0 where
  pub last-size : length last ≡ most_references
  pub lasts : (p : ℕ) → p < most_references → get_or last p 0 ≡ last_use h p
  pub marks : Blocks (mark h) b n

-- the first t references of a recording, the last of them first
unfoldable pub past : List ℕ → ℕ → List ℕ
past ps zero = []
past ps (suc t) = get_or ps t 0 ∷ past ps t
