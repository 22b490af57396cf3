-- What writing out asks of frames, store and records, and what it leaves of a page without a swizzled word.
use Rattle.std.specs.Prelude.{ℕ, ◌+◌, ◌*◌, ◌<◌, ◌≤◌, true, List, ◌≡◌, length}
use Rattle.page.specs.Figures.{page_size, slot_count, most_frames, most_pages, most_stores}
use Rattle.page.specs.StorePlaces.{store_place}
use Rattle.page.specs.Word.{frame_word}
use Rattle.page.specs.Page.{name, page_of, put_page}
use Rattle.machine.specs.declared.FrameRecord.{FrameRecord}
use Rattle.machine.specs.Machine.{is_dirty}
use Rattle.machine.specs.Moves.{image_to, written_out_by}

-- every swizzled word of frame f names one of 64 frames
abbrev pub Named : List ℕ → ℕ → Type 0
Named b f = (k : ℕ) → k < slot_count → name b f k < frame_word most_frames

-- page q of store t, among N of each store, has a place
pub record Placeable (N t q : ℕ) : Type 0 where
  pub store : t < most_stores
  pub page : q < most_pages
  pub pages : N ≤ most_pages

-- frame f and the page at place q lie within the frames and the stores
pub record Placed (q : ℕ) (fs st : List ℕ) (f : ℕ) : Type 0 where
  pub frame : f < most_frames
  pub bytes : page_size * f + page_size ≤ length fs
  pub place : page_size * q + page_size ≤ length st

-- the page in frame f, whose record is r, can be written out
pub record Writable (N : ℕ) (r : FrameRecord) (fs st : List ℕ) (f : ℕ) : Type 0 where
  pub placeable : Placeable N r.store.0 r.page.0
  pub placed : Placed (store_place N r.store.0 r.page.0) fs st f
  pub words : is_dirty r ≡ true → Named fs f

-- the page at place q is now the page in frame f as it is: its image, whatever page is in which frame
abbrev pub StoredAsIs : ℕ → List ℕ → ℕ → List ℕ → List ℕ → Type 0
StoredAsIs q fs f st ts = (page : ℕ → ℕ) → ts ≡ put_page st q (image_to page (page_of fs f) slot_count)

-- the page in frame f, whose record is r, was written out as it is, if dirty
abbrev pub WrittenAsIs : ℕ → FrameRecord → List ℕ → ℕ → List ℕ → List ℕ → Type 0
WrittenAsIs N r fs f st ts = (page : ℕ → ℕ) → ts ≡ written_out_by N page r fs st f
