-- The machine: records, frames, store and directory as values.
use Rattle.std.specs.Prelude.{ℕ, zero, suc, ◌+◌, ◌-◌, min, Bool, List, eqb, ltb, leb, get_or, set, replicate}
use Rattle.page.specs.declared.PageNumber.{PageNumber}
use Rattle.page.specs.declared.FrameIndex.{FrameIndex}
use Rattle.page.specs.declared.StoreNumber.{StoreNumber}
use Rattle.page.specs.StorePlaces.{store_place}
use Rattle.page.specs.Figures.{max_usage, record_count, most_stores}
use Rattle.machine.specs.declared.FrameRecord.{FrameRecord}
use Rattle.machine.specs.declared.Pool.{Pool}
use Rattle.rules.specs.Tests.{pick, ◌and◌}
use Rattle.chains.specs.Chain.{tally}

pub record State : Type 0 where
  pub pool : Pool
  pub frames : List ℕ
  pub store : List ℕ
  pub directory : List ℕ

abbrev pub state : Pool → List ℕ → List ℕ → List ℕ → State
state p fs st d = record { pool = p; frames = fs; store = st; directory = d }

abbrev pub with_pool : State → Pool → State
with_pool s p = state p s.frames s.store s.directory

-- ---- kinds of count

abbrev pub page_number : ℕ → PageNumber
page_number p = record { 0 = p }

abbrev pub frame_index : ℕ → FrameIndex
frame_index f = record { 0 = f }

abbrev pub store_number : ℕ → StoreNumber
store_number t = record { 0 = t }

-- a root's frame, of T stores. Request A.11: "frames 0 to T − 1 hold their roots"
abbrev pub is_root : ℕ → ℕ → Bool
is_root T f = ltb f T

-- ---- records

-- the all-zero record, an empty frame's
abbrev pub blank : FrameRecord
blank = record { used = 0; dirty = 0; usage = 0; slot = 0; parent = frame_index 0; store = store_number 0; pins = 0; page = page_number 0 }

-- the record of store t's page 0 as open makes it: pins 0, usage 0, clean, no parent
abbrev pub root_record : ℕ → FrameRecord
root_record t = record { used = 1; dirty = 0; usage = 0; slot = 0; parent = frame_index 0; store = store_number t; pins = 0; page = page_number 0 }

-- the record of page q of store t, loaded for slot k of frame f: "pins 1, heat 1, clean, its parent recorded"; request A.11: "a child's store is its parent's"
abbrev pub loaded_record : ℕ → ℕ → ℕ → ℕ → FrameRecord
loaded_record t q f k = record { used = 1; dirty = 0; usage = 1; slot = k; parent = frame_index f; store = store_number t; pins = 1; page = page_number q }

-- "gains one pin and one heat (heat stops at 3)"
abbrev pub pinned : FrameRecord → FrameRecord
pinned r = record { used = r.used; dirty = r.dirty; usage = min max_usage (r.usage + 1); slot = r.slot; parent = r.parent; store = r.store; pins = r.pins + 1; page = r.page }

-- one pin off
abbrev pub unpinned : FrameRecord → FrameRecord
unpinned r = record { used = r.used; dirty = r.dirty; usage = r.usage; slot = r.slot; parent = r.parent; store = r.store; pins = r.pins - 1; page = r.page }

-- another usage (heat)
abbrev pub with_usage : FrameRecord → ℕ → FrameRecord
with_usage r u = record { used = r.used; dirty = r.dirty; usage = u; slot = r.slot; parent = r.parent; store = r.store; pins = r.pins; page = r.page }

-- one usage (heat) off
abbrev pub cooled : FrameRecord → FrameRecord
cooled r = with_usage r (r.usage - 1)

-- one usage (heat) more: "by one, to 3 at most"
abbrev pub warmed : FrameRecord → FrameRecord
warmed r = with_usage r (min max_usage (r.usage + 1))

abbrev pub dirtied : FrameRecord → FrameRecord
dirtied r = record { used = r.used; dirty = 1; usage = r.usage; slot = r.slot; parent = r.parent; store = r.store; pins = r.pins; page = r.page }

abbrev pub cleaned : FrameRecord → FrameRecord
cleaned r = record { used = r.used; dirty = 0; usage = r.usage; slot = r.slot; parent = r.parent; store = r.store; pins = r.pins; page = r.page }

-- ---- the two flags, which are bytes: 1 is yes and 0 is no; "Every field is in its range" refuses any other

abbrev pub is_used : FrameRecord → Bool
is_used r = eqb r.used 1

abbrev pub is_dirty : FrameRecord → Bool
is_dirty r = eqb r.dirty 1

-- the record of frame f
abbrev pub record_at : List FrameRecord → ℕ → FrameRecord
record_at rs f = get_or rs f blank

-- the page in frame f, if that is occupied
abbrev pub page_in : List FrameRecord → ℕ → ℕ
page_in rs f = (record_at rs f).page.0

-- the store that it is of
abbrev pub store_in : List FrameRecord → ℕ → ℕ
store_in rs f = (record_at rs f).store.0

-- the place there of the page in frame f, if that is occupied
abbrev pub place_in : ℕ → List FrameRecord → ℕ → ℕ
place_in N rs f = store_place N (store_in rs f) (page_in rs f)

-- ---- the pool's parts

abbrev pub with_records : Pool → List FrameRecord → Pool
with_records p rs = record { records = rs; count = p.count; pages = p.pages; stores = p.stores; ceilings = p.ceilings; hand = p.hand }

abbrev pub with_record : Pool → ℕ → FrameRecord → Pool
with_record p f r = with_records p (set p.records f r)

-- the all-zero records
unfoldable pub zero_pool : Pool
zero_pool = record { records = replicate record_count blank; count = 0; pages = 0; stores = 0; ceilings = replicate most_stores 0; hand = frame_index 0 }

-- blank records but for the roots of the first T stores, in frames 0 to T − 1
unfoldable pub root_records : ℕ → List FrameRecord
root_records zero = replicate record_count blank
root_records (suc t) = set (root_records t) t (root_record t)

-- the records of a pool just opened, with F frames, N pages in each of T stores, and the stores' ceilings
abbrev pub opened_pool : ℕ → ℕ → ℕ → List ℕ → Pool
opened_pool F N T ceilings = record { records = root_records T; count = F; pages = N; stores = T; ceilings = ceilings; hand = frame_index 0 }

-- frame f is one of the F frames, and is occupied
unfoldable pub occupied : Pool → ℕ → Bool
occupied p f = ltb f p.count and is_used (record_at p.records f)

-- the first frame from i on that holds the page at place q, among n of them, and else the frame after those
unfoldable pub found_from : ℕ → List FrameRecord → ℕ → ℕ → ℕ → ℕ
found_from N rs q zero i = i
found_from N rs q (suc n) i = pick (is_used (record_at rs i) and eqb (place_in N rs i) q) i (found_from N rs q n (i + 1))

-- the frame that holds the page at place q, or F
abbrev pub found : Pool → ℕ → ℕ
found p q = found_from p.pages p.records q p.count 0

-- the frame that holds page q of store t, or F: "pages are compared within their store"
abbrev pub found_in : Pool → ℕ → ℕ → ℕ
found_in p t q = found p (store_place p.pages t q)

-- ---- request A.11: "Every store has a ceiling of 1 to F resident pages, its root included."

abbrev pub ceiling_of : Pool → ℕ → ℕ
ceiling_of p t = get_or p.ceilings t 0

-- the record is that of a page of store t
abbrev pub is_of : ℕ → FrameRecord → Bool
is_of t r = is_used r and eqb r.store.0 t

-- how many resident pages store t has
unfoldable pub held : Pool → ℕ → ℕ
held p t = tally p.count (λ f. is_of t (record_at p.records f))

-- store t is "at its ceiling"
unfoldable pub at_ceiling : Pool → ℕ → Bool
at_ceiling p t = leb (ceiling_of p t) (held p t)
