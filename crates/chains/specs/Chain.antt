-- Request A.3, "A directory of resident pages": its bytes and chains, what loading and eviction do to it, and how a page is sought in it. Of the pool nothing is known here but frames by their numbers.
use Rattle.std.specs.Prelude.{ℕ, zero, suc, ◌+◌, ◌-◌, ◌%◌, Bool, true, false, not, List, ◌∷◌, [], eqb, get_or, set, replicate}
use Rattle.page.specs.Figures.{most_frames}
use Rattle.rules.specs.Tests.{pick, ◌and◌, ◌or◌}

-- ---- the bytes

-- "chains within a further buffer of 131 bytes"
abbrev pub directory_size : ℕ
directory_size = 131

-- "bucket p mod 67"
abbrev pub buckets : ℕ
buckets = 67

abbrev pub bucket_of : ℕ → ℕ
bucket_of q = q % buckets

-- "byte 67 + f", whose link leads on from frame f
abbrev pub link_at : ℕ → ℕ
link_at f = buckets + f

-- the frame in a byte that isn't 0: it "holds 1 plus the frame"
abbrev pub entry_of : ℕ → ℕ
entry_of x = x - 1

-- ---- the chains

-- "Byte b below 67 holds 1 plus the frame at the head of chain b, byte 67 + f holds 1 plus the frame after f in its chain, 0 where none": the frames that the links from byte a on lead through, at most n of them
unfoldable pub chain_from : List ℕ → ℕ → ℕ → List ℕ
chain_from d zero a = []
chain_from d (suc n) a = pick (eqb (get_or d a 0) 0) [] (entry_of (get_or d a 0) ∷ chain_from d n (link_at (entry_of (get_or d a 0))))

-- chain b, followed over one frame more than the 64, so that one which leads into itself has a frame twice
abbrev pub chain_of : List ℕ → ℕ → List ℕ
chain_of d b = chain_from d (suc most_frames) b

-- frame f is in a chain; every frame of it passes a test; no frame is in it twice
unfoldable pub has : ℕ → List ℕ → Bool
has f [] = false
has f (g ∷ l) = eqb g f or has f l

unfoldable pub each_of : (ℕ → Bool) → List ℕ → Bool
each_of t [] = true
each_of t (g ∷ l) = t g and each_of t l

unfoldable pub once : List ℕ → Bool
once [] = true
once (g ∷ l) = not (has g l) and once l

-- ---- what open, loading and eviction do to it

-- "an entry added at its chain's head on loading": frame e, in chain b
unfoldable pub entered : List ℕ → ℕ → ℕ → List ℕ
entered d b e = set (set d (link_at e) (get_or d b 0)) b (suc e)

-- "Open leaves page 0 alone in it"; request A.11: of T stores, whose roots are "entered in the directory in that order", from frame 0 on
unfoldable pub opened_directory : ℕ → List ℕ
opened_directory zero = replicate directory_size 0
opened_directory (suc t) = entered (opened_directory t) (bucket_of 0) t

-- "and taken out on eviction": frame e, from byte a on, among n entries. The byte that led to it leads on to the next, and its own is 0.
unfoldable pub taken_from : List ℕ → ℕ → ℕ → ℕ → List ℕ
taken_from d e zero a = d
taken_from d e (suc n) a =
    pick (eqb (get_or d a 0) 0) d
    (pick (eqb (get_or d a 0) (suc e)) (set (set d a (get_or d (link_at e) 0)) (link_at e) 0) (taken_from d e n (link_at (entry_of (get_or d a 0)))))

abbrev pub taken_out : List ℕ → ℕ → ℕ → List ℕ
taken_out d b e = taken_from d e most_frames b

-- ---- the search

-- the frame, or F where no entry of the chain is the page's; and "the entries compared"
pub record Sought : Type 0 where
  pub frame : ℕ
  pub compared : ℕ

-- page q along the frames of a chain, where frame f has page `page f`, and c entries were compared before: "the place of the page's entry in its chain, from 1, or the chain's length if absent"
unfoldable pub seek_in : (ℕ → ℕ) → ℕ → ℕ → ℕ → List ℕ → Sought
seek_in page F q c [] = record { frame = F; compared = c }
seek_in page F q c (f ∷ l) = pick (eqb (page f) q) (record { frame = f; compared = c + 1 }) (seek_in page F q (c + 1) l)

-- the same along chain b
abbrev pub sought_in : (ℕ → ℕ) → ℕ → List ℕ → ℕ → ℕ → Sought
sought_in page F d b q = seek_in page F q 0 (chain_of d b)

-- how many of the first n frames pass a test
unfoldable pub tally : ℕ → (ℕ → Bool) → ℕ
tally zero t = 0
tally (suc n) t = pick (t n) (suc (tally n t)) (tally n t)
