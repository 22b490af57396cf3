-- The invariant of demand 3. A reader of the promise needs specs/Demand3 alone.
use Rattle.std.specs.Prelude.{◌≡◌, ◌≢◌, true, false, List, ℕ, ◌+◌, ◌*◌, ◌/◌, ◌<◌, ◌≤◌, length}
use Rattle.page.specs.Figures.{page_size, record_count, max_usage, max_pins}
use Rattle.page.specs.Page.{name, lock, byte}
use Rattle.page.specs.Octets.{Octets}
use Rattle.machine.specs.declared.FrameRecord.{FrameRecord}
use Rattle.machine.specs.declared.Pool.{Pool}
use Rattle.machine.specs.Machine.{State, blank, is_used, record_at, store_in, ceiling_of, held}
use Rattle.chains.specs.Chain.{directory_size}
use Rattle.chains.specs.Links.{Chained}
use Rattle.machine.proofs.Laws.DirectoryFacts.{home_of}
use Rattle.machine.proofs.Laws.Ready.{Sized, Ceiled}
use Rattle.machine.proofs.Theorem.Lift.{lift}
use Rattle.machine.proofs.Theorem.View.{View, view, Occupied, Absent, Shape, Map, Content, MapSound}
use Rattle.machine.specs.History.{Balance, Point}

-- a record's fields are in their ranges, of T stores with N pages each; an empty frame's is blank, a root's has no parent
pub record NeatRecord (T N f : ℕ) (r : FrameRecord) : Type 0 where
  pub number : r.page.0 < N
  pub store : r.store.0 < T
  pub used : r.used ≤ 1
  pub dirty : r.dirty ≤ 1
  pub usage : r.usage ≤ max_usage
  pub pins : r.pins ≤ max_pins
  pub empty : is_used r ≡ false → r ≡ blank
  pub root_parent : f < T → r.parent.0 ≡ 0
  pub root_slot : f < T → r.slot ≡ 0

pub record Neat (p : Pool) : Type 0 where
  pub hand : p.hand.0 < p.count
  pub at : (f : ℕ) → NeatRecord p.stores p.pages f (record_at p.records f)
  pub beyond : (f : ℕ) → p.count ≤ f → is_used (record_at p.records f) ≡ false

-- "a child's store is its parent's", and no store is above its ceiling
pub record ByStore (p : Pool) : Type 0 where
  pub child : (f : ℕ) → f < p.count → is_used (record_at p.records f) ≡ true → p.stores ≤ f → store_in p.records f ≡ store_in p.records (record_at p.records f).parent.0
  pub ceilings : (t : ℕ) → t < p.stores → held p t ≤ ceiling_of p t

-- the records' pins are the balance, and a pinned page is in the frame of the answer that pinned it
pub record Pins (v : View) (b : Balance) : Type 0 where
  pub count : (f : ℕ) → Occupied v f → b.fixes (v.page f) ≡ b.unfixes (v.page f) + v.pins f
  pub none : (p : ℕ) → Absent v p → b.fixes p ≡ b.unfixes p
  pub place : (f : ℕ) → Occupied v f → v.pins f ≢ 0 → b.frame (v.page f) ≡ f

-- the maps, N pages each
abbrev pub map_view : ℕ → List ℕ → Map
map_view N m = record { map_word = λ p k. lift N (p / N) (name m p k); map_mark = λ p k. lock m p k; map_bytes = λ p i. byte m p i }

pub record Invariant (x : Point) : Type 0 where
  pub sized : Sized x.now
  pub stores : Ceiled x.now
  pub records : length x.now.pool.records ≡ record_count
  pub map_length : length x.map ≡ page_size * (x.now.pool.pages * x.now.pool.stores)
  pub neat : Neat x.now.pool
  pub by_store : ByStore x.now.pool
  pub frame_octets : Octets x.now.frames
  pub store_octets : Octets x.now.store
  pub map_octets : Octets x.map
  pub shape : Shape (view x.now)
  pub content : Content (view x.now) (map_view x.now.pool.pages x.map)
  pub sound : MapSound (map_view x.now.pool.pages x.map) (x.now.pool.pages * x.now.pool.stores) x.now.pool.stores x.now.pool.pages
  pub pins : Pins (view x.now) x.balance
  pub directory : length x.now.directory ≡ directory_size
  pub chained : Chained (home_of x.now.pool) x.now.directory

-- the part of it that speaks of the state alone
pub record Fit (s : State) : Type 0 where
  pub sized : Sized s
  pub stores : Ceiled s
  pub records : length s.pool.records ≡ record_count
  pub neat : Neat s.pool
  pub by_store : ByStore s.pool
  pub frame_octets : Octets s.frames
  pub shape : Shape (view s)
  pub directory : length s.directory ≡ directory_size
  pub chained : Chained (home_of s.pool) s.directory

pub fit_of : (x : Point) → Invariant x → Fit x.now
fit_of x I = record {
  sized = I.sized;
  stores = I.stores;
  records = I.records;
  neat = I.neat;
  by_store = I.by_store;
  frame_octets = I.frame_octets;
  shape = I.shape;
  directory = I.directory;
  chained = I.chained;
}
