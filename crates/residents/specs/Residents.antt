-- A table of the page in each frame, 0 for an empty one: a page's entry is its key, which has its store and its number.
use Rattle.std.specs.Prelude.{ℕ, ◌/◌, ◌%◌, ◌<◌, ◌≡◌, Bool, not, List, eqb, length, get_or}
use Rattle.page.specs.Figures.{slot_count, most_frames, most_pages}
use Rattle.page.specs.Page.{page_words}
use Rattle.page.specs.StorePlaces.{store_place}
use Rattle.rules.specs.Tests.{◌and◌, ◌or◌, some}
use Rattle.chains.specs.Chain.{tally}
use Rattle.seen.specs.Among.{among}
use Rattle.machine.specs.declared.FrameRecord.{FrameRecord}
use Rattle.machine.specs.Machine.{page_in, store_in}

-- the key of page p of store t: its place among stores of 4,096 pages, which tells store and page whatever N is
abbrev pub key_of : ℕ → ℕ → ℕ
key_of t p = store_place most_pages t p

-- the key in frame f; and the page's number, and its store
abbrev pub key_by : List ℕ → ℕ → ℕ
key_by residents f = get_or residents f 0

abbrev pub page_by : List ℕ → ℕ → ℕ
page_by residents f = key_by residents f % most_pages

abbrev pub store_by : List ℕ → ℕ → ℕ
store_by residents f = key_by residents f / most_pages

-- the table has the page of each record
pub record Residents (rs : List FrameRecord) (residents : List ℕ) : Type 0 where
  pub size : length residents ≡ most_frames
  pub right : (f : ℕ) → f < most_frames → key_by residents f ≡ key_of (store_in rs f) (page_in rs f)
  pub small : (f : ℕ) → f < most_frames → page_in rs f < most_pages

-- ---- what is asked of the table

-- a frame has page q of store t
unfoldable pub in_table : List ℕ → ℕ → ℕ → Bool
in_table residents t q = among (key_by residents) most_frames (key_of t q)

-- frame f holds a page: only frame 0 holds the page whose key is 0, page 0 of store 0
unfoldable pub holds_page : List ℕ → ℕ → Bool
holds_page residents f = eqb f 0 or not (eqb (key_by residents f) 0)

-- frame f holds a page of store t
unfoldable pub holds_of : List ℕ → ℕ → ℕ → Bool
holds_of residents t f = holds_page residents f and eqb (store_by residents f) t

-- how many of the first n frames do
unfoldable pub held_by : List ℕ → ℕ → ℕ → ℕ
held_by residents n t = tally n (holds_of residents t)

-- x is a word in one of the first n frames that hold a page of store t
unfoldable pub in_frames : List ℕ → List ℕ → ℕ → ℕ → ℕ → Bool
in_frames residents fs n t x = some n (λ f. among (page_words fs f) slot_count x and holds_of residents t f)
