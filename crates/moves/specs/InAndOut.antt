-- What taking a page out of its frame and loading one ask of frames, store and directory and leave of them, and that with the records they are the moves. Assumes nothing.
use Rattle.std.specs.Prelude.{ℕ, ◌+◌, ◌*◌, ◌<◌, ◌≤◌, ◌≡◌, true, List, length}
use Rattle.std.proofs.Common.{arith}
use Rattle.page.specs.Figures.{page_size, slot_count, most_frames}
use Rattle.page.specs.StorePlaces.{store_place}
use Rattle.page.specs.Word.{renamed, number_word, frame_word}
use Rattle.page.specs.Page.{slot as slot_word, page_of, put_slot, put_page}
use Rattle.machine.specs.declared.FrameRecord.{FrameRecord}
use Rattle.machine.specs.declared.Pool.{Pool}
use Rattle.machine.specs.Machine.{State, state, record_at, page_in, loaded_record}
use Rattle.chains.specs.Chain.{directory_size, bucket_of, entered, taken_out}
use Rattle.machine.specs.Sweep.{childless}
use Rattle.machine.specs.Moves.{vacate, occupy, evicted, loaded}
use Rattle.machine.proofs.Laws.Ready.{Sized, Ceiled, Ready}
pub use Rattle.directory.specs.Homes.{Followed, followed}
use Rattle.moves.specs.WriteOut.{Placeable, Writable, WrittenAsIs}
use Rattle.moves.specs.MoveSteps.{has-place, place_inside, writable}

-- the page in frame f, whose record is r, can be taken out
pub record Removable (N : ℕ) (r : FrameRecord) (fs st d : List ℕ) (f : ℕ) : Type 0 where
  pub writable : Writable N r fs st f
  pub parent : page_size * r.parent.0 + page_size ≤ length fs
  pub slot : r.slot < slot_count
  pub alone : childless fs f ≡ true
  pub chains : Followed d

-- it was taken out: gs, ts and e are frames, store and directory after it
pub record TakenOut (N : ℕ) (r : FrameRecord) (fs st d : List ℕ) (f : ℕ) (gs ts e : List ℕ) : Type 0 where
  pub word : gs ≡ put_slot fs r.parent.0 r.slot (renamed (slot_word fs r.parent.0 r.slot) (number_word r.page.0))
  pub bytes : WrittenAsIs N r fs f st ts
  pub entry : e ≡ taken_out d (bucket_of r.page.0) f

-- page q of store t can be loaded into frame e, for slot k of frame f
pub record Fitting (N : ℕ) (fs st d : List ℕ) (f k e t q : ℕ) : Type 0 where
  pub parent : page_size * f + page_size ≤ length fs
  pub slot : k < slot_count
  pub frame : page_size * e + page_size ≤ length fs
  pub index : e < most_frames
  pub placeable : Placeable N t q
  pub page : page_size * store_place N t q + page_size ≤ length st
  pub directory : length d ≡ directory_size

-- the frames after that, where the page is the one at place q
unfoldable pub brought_in : List ℕ → List ℕ → ℕ → ℕ → ℕ → ℕ → List ℕ
brought_in fs st f k e q = put_slot (put_page fs e (page_of st q)) f k (renamed (slot_word fs f k) (frame_word e))

pub removable : (s : State) (f : ℕ) → Ready s → Followed s.directory → f < s.pool.count → childless s.frames f ≡ true → Removable s.pool.pages (record_at s.pool.records f) s.frames s.store s.directory f
removable s f h d l c =
    let z = h.sized in
    let r = h.in_range f l in
    record { writable = writable s f h l; parent = omega arith; slot = omega arith; alone = c; chains = d }

pub is-evicted : (s : State) (f : ℕ) {p : Pool} {gs ts e : List ℕ} → p ≡ vacate s.pool f → TakenOut s.pool.pages (record_at s.pool.records f) s.frames s.store s.directory f gs ts e → state p gs ts e ≡ evicted s f
unfolding evicted
is-evicted s f e t = rw (e, t.word, t.bytes (page_in s.pool.records), t.entry)

pub fitting : (s : State) (f k e t q : ℕ) → Sized s → Ceiled s → length s.directory ≡ directory_size → f < s.pool.count → k < slot_count → e < s.pool.count → t < s.pool.stores → q < s.pool.pages
    → Fitting s.pool.pages s.frames s.store s.directory f k e t q
fitting s f k e t q z u d lf lk le lt lq = record {
  parent = omega arith;
  slot = lk;
  frame = omega arith;
  index = omega arith;
  placeable = has-place s t q z u lt lq;
  page = place_inside s t q z lt lq;
  directory = d;
}

pub is-loaded : (s : State) (f k e t q : ℕ) {p : Pool} {gs d : List ℕ} → p ≡ occupy s.pool e (loaded_record t q f k) → gs ≡ brought_in s.frames s.store f k e (store_place s.pool.pages t q)
    → d ≡ entered s.directory (bucket_of q) e → state p gs s.store d ≡ loaded s f k e t q
unfolding loaded brought_in
is-loaded s f k e t q a b c = rw (a, b, c)
