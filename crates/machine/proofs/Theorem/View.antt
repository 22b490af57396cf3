-- The machine as functions: what the invariant of demand 3 speaks of. No list and no byte offset stands here; pages are places in the one buffer of all stores, and words name places.
use Rattle.std.specs.Prelude.{◌≡◌, ◌≢◌, Bool, true, false, ℕ, ◌*◌, ◌/◌, ◌≤◌, ◌<◌}
use Rattle.page.specs.Figures.{page_size, slot_count, payload_start, least_frames, most_frames}
use Rattle.page.specs.Word.{frame_word, Number}
use Rattle.page.specs.Page.{name, lock, byte}
use Rattle.machine.specs.Machine.{State, is_used, is_dirty, record_at, store_in, place_in}
use Rattle.machine.specs.Moves.{plain}
use Rattle.machine.proofs.Theorem.Lift.{most_places, lift}

pub record View : Type 0 where
  pub F : ℕ
  pub N : ℕ
  -- the roots are in the frames below this one, root t being page each × t
  pub roots : ℕ
  pub each : ℕ
  pub used : ℕ → Bool
  pub page : ℕ → ℕ
  pub up : ℕ → ℕ
  pub up_slot : ℕ → ℕ
  pub pins : ℕ → ℕ
  pub dirty : ℕ → Bool
  -- a word: what it names, and its mark
  pub word : ℕ → ℕ → ℕ
  pub mark : ℕ → ℕ → Bool
  pub bytes : ℕ → ℕ → ℕ
  pub store_word : ℕ → ℕ → ℕ
  pub store_mark : ℕ → ℕ → Bool
  pub store_bytes : ℕ → ℕ → ℕ

abbrev pub view : State → View
view s = record {
  F = s.pool.count;
  N = s.pool.pages * s.pool.stores;
  roots = s.pool.stores;
  each = s.pool.pages;
  used = λ f. is_used (record_at s.pool.records f);
  page = place_in s.pool.pages s.pool.records;
  up = λ f. (record_at s.pool.records f).parent.0;
  up_slot = λ f. (record_at s.pool.records f).slot;
  pins = λ f. (record_at s.pool.records f).pins;
  dirty = λ f. is_dirty (record_at s.pool.records f);
  word = λ f k. lift s.pool.pages (store_in s.pool.records f) (name s.frames f k);
  mark = λ f k. lock s.frames f k;
  bytes = λ f i. byte s.frames f i;
  store_word = λ p k. lift s.pool.pages (p / s.pool.pages) (name s.store p k);
  store_mark = λ p k. lock s.store p k;
  store_bytes = λ p i. byte s.store p i;
}

-- following parents reaches a root
pub data Reach (v : View) : ℕ → Type 0 where
  top : {f : ℕ} → f < v.roots → Reach v f
  via : {f : ℕ} → Reach v (v.up f) → Reach v f

-- frame f is occupied
pub record Occupied (v : View) (f : ℕ) : Type 0 where
  pub lt : f < v.F
  pub on : v.used f ≡ true

abbrev pub Absent : View → ℕ → Type 0
Absent v p = (f : ℕ) → Occupied v f → v.page f ≢ p

-- frame f's parent is occupied and its word is swizzled to f
pub record Parent (v : View) (f : ℕ) : Type 0 where
  pub occupied : Occupied v (v.up f)
  pub in_page : v.up_slot f < slot_count
  pub names : v.word (v.up f) (v.up_slot f) ≡ frame_word f

-- frame g is named by slot k of frame f, and points back
pub record Child (v : View) (f k g : ℕ) : Type 0 where
  pub occupied : Occupied v g
  pub not_root : v.roots ≤ g
  pub back : v.up g ≡ f
  pub back_slot : v.up_slot g ≡ k

-- records and frames agree
pub record Shape (v : View) : Type 0 where
  pub least : least_frames ≤ v.F
  pub most : v.F ≤ most_frames
  pub some : 1 ≤ v.N
  pub pages : v.N ≤ most_places
  pub some_roots : 1 ≤ v.roots
  pub root : (f : ℕ) → f < v.roots → Occupied v f
  pub root_page : (f : ℕ) → f < v.roots → v.page f ≡ v.each * f
  pub page_lt : (f : ℕ) → Occupied v f → v.page f < v.N
  pub apart : (f g : ℕ) → Occupied v f → Occupied v g → v.page f ≡ v.page g → f ≡ g
  pub parent : (f : ℕ) → Occupied v f → v.roots ≤ f → Parent v f
  pub child : (f k g : ℕ) → Occupied v f → k < slot_count → v.word f k ≡ frame_word g → Child v f k g
  pub number_lt : (f k : ℕ) → Occupied v f → k < slot_count → Number (v.word f k) → v.word f k < v.N
  pub number_absent : (f k : ℕ) → Occupied v f → k < slot_count → Number (v.word f k) → v.word f k ≢ 0 → Absent v (v.word f k)
  pub once : (f k g j : ℕ) → Occupied v f → k < slot_count → Occupied v g → j < slot_count → v.word f k ≡ v.word g j → v.word f k ≢ 0 → Number (v.word f k) → (f ≡ g) × (k ≡ j)
  pub reach : (f : ℕ) → Occupied v f → Reach v f

-- p is none of the roots' pages
abbrev pub NoRoot : ℕ → ℕ → ℕ → Type 0
NoRoot roots each p = (t : ℕ) → t < roots → p ≢ each * t

-- the plain map, as functions
pub record Map : Type 0 where
  pub map_word : ℕ → ℕ → ℕ
  pub map_mark : ℕ → ℕ → Bool
  pub map_bytes : ℕ → ℕ → ℕ

-- no marked word of the map names page p
abbrev pub Free : Map → ℕ → ℕ → Type 0
Free m N p = (q k : ℕ) → q < N → k < slot_count → m.map_word q k ≡ p → m.map_mark q k ≡ false

-- frames and store hold the map's pages, and what is dirty isn't locked
pub record Content (v : View) (m : Map) : Type 0 where
  pub frame_word : (f k : ℕ) → Occupied v f → k < slot_count → plain v.page (v.word f k) ≡ m.map_word (v.page f) k
  pub frame_mark : (f k : ℕ) → Occupied v f → k < slot_count → v.mark f k ≡ m.map_mark (v.page f) k
  pub frame_byte : (f i : ℕ) → Occupied v f → payload_start ≤ i → i < page_size → v.bytes f i ≡ m.map_bytes (v.page f) i
  pub absent_word : (p k : ℕ) → p < v.N → Absent v p → k < slot_count → v.store_word p k ≡ m.map_word p k
  pub absent_mark : (p k : ℕ) → p < v.N → Absent v p → k < slot_count → v.store_mark p k ≡ m.map_mark p k
  pub absent_byte : (p i : ℕ) → p < v.N → Absent v p → payload_start ≤ i → i < page_size → v.store_bytes p i ≡ m.map_bytes p i
  pub clean_word : (f k : ℕ) → Occupied v f → v.dirty f ≡ false → k < slot_count → v.store_word (v.page f) k ≡ m.map_word (v.page f) k
  pub clean_mark : (f k : ℕ) → Occupied v f → v.dirty f ≡ false → k < slot_count → v.store_mark (v.page f) k ≡ m.map_mark (v.page f) k
  pub clean_byte : (f i : ℕ) → Occupied v f → v.dirty f ≡ false → payload_start ≤ i → i < page_size → v.store_bytes (v.page f) i ≡ m.map_bytes (v.page f) i
  pub store_plain : (p k : ℕ) → p < v.N → k < slot_count → Number (v.store_word p k)
  pub dirty_free : (f : ℕ) → Occupied v f → v.dirty f ≡ true → Free m v.N (v.page f)

-- the map is a sound store
pub record MapSound (m : Map) (N roots each : ℕ) : Type 0 where
  pub below : (p k : ℕ) → p < N → k < slot_count → m.map_word p k < N
  pub once : (p k q j : ℕ) → p < N → k < slot_count → q < N → j < slot_count → m.map_word p k ≢ 0 → m.map_word p k ≡ m.map_word q j → (p ≡ q) × (k ≡ j)
  pub not_root : (p k : ℕ) → p < N → k < slot_count → m.map_word p k ≢ 0 → NoRoot roots each (m.map_word p k)
