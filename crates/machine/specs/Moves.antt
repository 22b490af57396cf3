-- Images, writing out, and a page that leaves its frame or comes into one.
use Rattle.std.specs.Prelude.{ℕ, zero, suc, List, set}
use Rattle.page.specs.Figures.{slot_count}
use Rattle.page.specs.Word.{name_of, renamed, is_number, frame_in, frame_word, number_word}
use Rattle.page.specs.Page.{slot, put_slot, page_of, put_page}
use Rattle.machine.specs.declared.FrameRecord.{FrameRecord}
use Rattle.machine.specs.declared.Pool.{Pool}
use Rattle.rules.specs.Tests.{pick}
use Rattle.chains.specs.Chain.{bucket_of, entered, taken_out}
use Rattle.page.specs.StorePlaces.{store_place}
use Rattle.machine.specs.Machine.{State, state, blank, loaded_record, cleaned, is_dirty, record_at, page_in, with_record, with_records}

-- ---- "The image of a resident page is its bytes with each swizzled word replaced by the number of the page in that frame." Request A.8: "settling .. carry it", the mark

-- the page number that a name stands for, where frame g holds page `page g`
unfoldable pub plain : (ℕ → ℕ) → ℕ → ℕ
plain page n = pick (is_number n) n (page (frame_in n))

-- the word w in the image
abbrev pub imaged : (ℕ → ℕ) → ℕ → ℕ
imaged page w = renamed w (plain page (name_of w))

-- the bytes g with the first n words replaced
unfoldable pub image_to : (ℕ → ℕ) → List ℕ → ℕ → List ℕ
image_to page g zero = g
image_to page g (suc n) = put_slot (image_to page g n) 0 n (imaged page (slot g 0 n))

abbrev pub image_of : List FrameRecord → List ℕ → ℕ → List ℕ
image_of rs fs f = image_to (page_in rs) (page_of fs f) slot_count

-- ---- writing out

-- the store with the image of the page in frame f, whose record is r, at its place among N pages of each store, if that is dirty
unfoldable pub written_out_by : ℕ → (ℕ → ℕ) → FrameRecord → List ℕ → List ℕ → ℕ → List ℕ
written_out_by N page r fs st f = pick (is_dirty r) (put_page st (store_place N r.store.0 r.page.0) (image_to page (page_of fs f) slot_count)) st

abbrev pub written_out : ℕ → List FrameRecord → List ℕ → List ℕ → ℕ → List ℕ
written_out N rs fs st f = written_out_by N (page_in rs) (record_at rs f) fs st f

-- the same for the first n frames, of whichever stores; and their records marked clean
unfoldable pub written_out_to : ℕ → List FrameRecord → List ℕ → List ℕ → ℕ → List ℕ
written_out_to N rs fs st zero = st
written_out_to N rs fs st (suc n) = written_out N rs fs (written_out_to N rs fs st n) n

unfoldable pub cleaned_to : List FrameRecord → ℕ → List FrameRecord
cleaned_to rs zero = rs
cleaned_to rs (suc n) = set (cleaned_to rs n) n (cleaned (record_at (cleaned_to rs n) n))

-- "Settle writes the image of each dirty page and marks it clean." Request A.11: "Settle writes every store"
unfoldable pub settled : State → State
settled s =
    state (with_records s.pool (cleaned_to s.pool.records s.pool.count)) s.frames
    (written_out_to s.pool.pages s.pool.records s.frames s.store s.pool.count) s.directory

-- ---- the two changes of which frame holds what

abbrev pub vacate : Pool → ℕ → Pool
vacate p f = with_record p f blank

abbrev pub occupy : Pool → ℕ → FrameRecord → Pool
occupy p e r = with_record p e r

-- "a dirty page's image goes to the store; the parent's word becomes the page number without dirtying the parent; the frame is empty, its bytes kept, and the hand stays"; request A.8: "eviction .. carry it". Request A.3: "an entry .. taken out on eviction"
unfoldable pub evicted : State → ℕ → State
evicted s f =
    let r = record_at s.pool.records f in
    state (vacate s.pool f)
    (put_slot s.frames r.parent.0 r.slot (renamed (slot s.frames r.parent.0 r.slot) (number_word r.page.0)))
    (written_out s.pool.pages s.pool.records s.frames s.store f) (taken_out s.directory (bucket_of r.page.0) f)

-- "the page is loaded with pins 1, heat 1, clean, its parent recorded and the parent's word swizzled": page q of store t into frame e, for slot k of frame f. Request A.8: "Loading .. carry it". Request A.3: "an entry added at its chain's head on loading"
unfoldable pub loaded : State → ℕ → ℕ → ℕ → ℕ → ℕ → State
loaded s f k e t q =
    state (occupy s.pool e (loaded_record t q f k))
    (put_slot (put_page s.frames e (page_of s.store (store_place s.pool.pages t q))) f k (renamed (slot s.frames f k) (frame_word e)))
    s.store (entered s.directory (bucket_of q) e)
