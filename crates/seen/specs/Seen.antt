-- The table of the page numbers seen, of up to four stores, and what it tells of a row of numbers of one of them. Its form shows in `Seen`, `none`, `noted`, `OneStore` and `Marks` alone, and no other crate goes by it.
use Rattle.std.specs.Prelude.{ℕ, ◌/◌, ◌%◌, ◌^◌, ◌<◌, ◌≤◌, ◌≡◌, ◌≢◌, Bool, true, false, not, List, eqb, ltb, length, get_or, set, replicate, Option, MatchOption}
use Rattle.std.specs.Int.Bits.{bit_or}
use Rattle.page.specs.Figures.{slot_count, most_pages}
use Rattle.rules.specs.Tests.{◌and◌, ◌or◌, every}
use Rattle.seen.specs.Among.{among}

abbrev pub Seen : Type 0
Seen = List ℕ

-- the table before anything is noted
abbrev pub none : Seen
none = replicate most_pages 0

-- number x of store t is noted: bit t of entry x is set
unfoldable pub noted : Seen → ℕ → ℕ → Bool
noted seen t x = eqb (get_or seen x 0 / 2 ^ t % 2) 1

-- the table is whole, and 0, which names no page, isn't noted in any store
pub record Table (seen : Seen) : Type 0 where
  pub size : length seen ≡ most_pages
  pub zero : (t : ℕ) → noted seen t 0 ≡ false

-- of each page number of store t but 0 the table tells what the test tells
pub record Tells (t : ℕ) (seen : Seen) (test : ℕ → Bool) : Type 0 where
  pub table : Table seen
  pub right : (x : ℕ) → 0 < x → x < most_pages → noted seen t x ≡ test x

-- the entry of x was marked for store t; `new` tells whether it wasn't before
pub record Marks (t x : ℕ) (before after : Seen) (new : Bool) : Type 0 where
  pub answer : new ≡ not (noted before t x)
  pub stored : after ≡ set before x (bit_or (get_or before x 0) (2 ^ t))

-- store 0 alone has numbers noted
pub record OneStore (seen : Seen) : Type 0 where
  pub most : (x : ℕ) → get_or seen x 0 ≤ 1

-- what was done was done in store t: the table stays whole, and the numbers of every other store are as they were
pub record WithinStore (t : ℕ) (before after : Seen) : Type 0 where
  pub table : Table before → Table after
  pub alone : t ≡ 0 → OneStore before → OneStore after
  pub elsewhere : (u : ℕ) → u ≢ t → (x : ℕ) → x ≢ 0 → noted after u x ≡ noted before u x

-- number x of store t was noted, 0 excepted; `new` tells whether it wasn't before
pub record Notes (t x : ℕ) (before after : Seen) (new : Bool) : Type 0 where
  pub answer : new ≡ not (noted before t x)
  pub within : WithinStore t before after
  pub here : Table before → x ≢ 0 → noted after t x ≡ true
  pub others : (y : ℕ) → y ≢ 0 → x ≢ y → noted after t y ≡ noted before t y

-- ---- rows of numbers of one store, t

-- number k is 0, or it is below N, was not seen, and is none of those before it
unfoldable pub fresh : (ℕ → Bool) → (ℕ → ℕ) → ℕ → ℕ → Bool
fresh seen w N k = eqb (w k) 0 or (ltb (w k) N and not (seen (w k)) and not (among w k (w k)))

-- the first slots of a page: one that names few has them there, most likely
abbrev pub first_slots : ℕ
first_slots = 4

-- after the first m numbers: whether all were fresh, and if so, the table tells of them too
pub record Marked (t m : ℕ) (w : ℕ → ℕ) (N : ℕ) (before after : Seen) (r : Bool) : Type 0 where
  pub answer : r ≡ every m (fresh (noted before t) w N)
  pub tells : r ≡ true → Tells t after (λ x. noted before t x or among w m x)
  pub within : WithinStore t before after

-- going on from the first m numbers, all of them fresh, to the first n, whatever the table was before them
pub record MarksOn (t m n : ℕ) (w : ℕ → ℕ) (N : ℕ) (now after : Seen) (r : Bool) : Type 0 where
  pub onward : (before : Seen) → Marked t m w N before now true → Marked t n w N before after r

-- going on so as far as the first k of n, all of them fresh; where there is no k, one of the first n wasn't
abbrev pub MarksTo : ℕ → ℕ → Option ℕ → ℕ → (ℕ → ℕ) → ℕ → Seen → Seen → Type 0
MarksTo t m upto n w N now after = MatchOption upto (MarksOn t m n w N now after false) (λ k. (k ≤ n) × MarksOn t m k w N now after true)

-- what is read of the first n slots is the row's number, where it can be a page's
abbrev pub Reads : (ℕ → ℕ → Type 0) → ℕ → (ℕ → ℕ) → Type 0
Reads read n w = (k x : ℕ) → k < n → read k x → x < most_pages → w k ≡ x

-- what is read of slot k is neither 0 nor below N
abbrev pub Large : (ℕ → ℕ → Type 0) → ℕ → ℕ → Type 0
Large read k N = (x : ℕ) × read k x × (x ≢ 0) × (N ≤ x)

-- the numbers in an array as a row, and that each is a page's
abbrev pub row_of : List ℕ → ℕ → ℕ
row_of numbers k = get_or numbers k 0

abbrev pub PageNumbers : List ℕ → Type 0
PageNumbers numbers = (k : ℕ) → k < slot_count → row_of numbers k < most_pages
