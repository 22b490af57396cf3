-- "The sweep": the frame that a load uses.
use Rattle.std.specs.Prelude.{ℕ, zero, suc, ◌+◌, ◌*◌, Bool, true, false, not, List, eqb, ltb, set}
use Rattle.page.specs.Figures.{slot_count}
use Rattle.page.specs.Word.{is_number}
use Rattle.page.specs.Page.{name}
use Rattle.page.specs.declared.FrameIndex.{FrameIndex}
use Rattle.machine.specs.declared.FrameRecord.{FrameRecord}
use Rattle.machine.specs.declared.Pool.{Pool}
use Rattle.machine.specs.declared.Standing.{Standing}
use Rattle.machine.specs.declared.Standing.TheVariants.{Root, Pinned, Parent, Evictable}
use Rattle.rules.specs.Tests.{pick, ◌and◌, every}
use Rattle.machine.specs.Machine.{is_used, record_at, frame_index, is_root, cooled, warmed, is_of, at_ceiling}

-- what a sweep ends with: whether a frame was taken and which, the looks, and the records and the hand after it
pub record Swept : Type 0 where
  pub taken : Bool
  pub frame : FrameIndex
  pub looks : ℕ
  pub records : List FrameRecord
  pub hand : FrameIndex

-- the frame after h: "by one, from F − 1 to 0"
unfoldable pub after : ℕ → ℕ → ℕ
after F h = pick (ltb (h + 1) F) (h + 1) 0

-- the first empty frame of the n from h on, going round, or F
unfoldable pub empty_from : List FrameRecord → ℕ → ℕ → ℕ → ℕ
empty_from rs F zero h = F
empty_from rs F (suc n) h = pick (is_used (record_at rs h)) (empty_from rs F n (after F h)) h

-- "the first empty one at or after the hand, going round", or F
abbrev pub first_empty : Pool → ℕ
first_empty p = empty_from p.records p.count p.count p.hand.0

-- no word of frame f is swizzled
unfoldable pub childless : List ℕ → ℕ → Bool
childless fs f = every slot_count (λ k. is_number (name fs f k))

-- where the page in frame f, with record r, stands among T stores: "The root, a pinned page and a page with a swizzled word are passed over." Request A.11: "every root passed over unchanged". Any other is open to eviction.
unfoldable pub standing : ℕ → FrameRecord → List ℕ → ℕ → Standing
standing T r fs f = pick (is_root T f) Root (pick (eqb r.pins 0) (pick (childless fs f) Evictable Parent) Pinned)

abbrev pub evictable : Standing → Bool
evictable Root = false
evictable Pinned = false
evictable Parent = false
evictable Evictable = true

abbrev pub is_open : ℕ → FrameRecord → List ℕ → ℕ → Bool
is_open T r fs f = evictable (standing T r fs f)

-- the classes of a look: it leaves the frame as it is, it warms it, or the frame is open to eviction
pub data Class : Type 0 where
  rest : Class
  warm : Class
  yield : Class

abbrev pub yields : Class → Bool
yields rest = false
yields warm = false
yields yield = true

-- which class a frame with this record has
abbrev pub Kind : Type 0
Kind = FrameRecord → ℕ → Class

-- by where the page stands. Request A.5: "Each look of a sweep that passes over a pinned page other than the root raises its heat"; "Pages passed over for children alone keep their heat."
abbrev pub class_of : Standing → Class
class_of Root = rest
class_of Pinned = warm
class_of Parent = rest
class_of Evictable = yield

abbrev pub kind : ℕ → List ℕ → Kind
kind T fs r f = class_of (standing T r fs f)

-- in a sweep for a page of store t. Request A.11: "A store at its ceiling sweeps its own pages only, even where frames are empty; any other frame costs a look and is left unchanged. Below it, loading goes as in 01"
unfoldable pub kind_for : Pool → List ℕ → ℕ → Kind
kind_for p fs t r f = pick (at_ceiling p t and not (is_of t r)) rest (kind p.stores fs r f)

-- what a look leaves of the record: "Any other with heat above 0 loses 1."; request A.5: "raises its heat by one, to 3 at most"
unfoldable pub look_leaves : FrameRecord → Class → FrameRecord
look_leaves r rest = r
look_leaves r warm = warmed r
look_leaves r yield = cooled r

-- "One with heat 0 is evicted and its frame used."
unfoldable pub look_takes : FrameRecord → Class → Bool
look_takes r c = yields c and eqb r.usage 0

-- at most m looks more after n looks, the hand at h: "The hand moves on by one after every look, the last included"
unfoldable pub sweep_from : Kind → ℕ → ℕ → ℕ → List FrameRecord → ℕ → Swept
sweep_from k F zero n rs h = record { taken = false; frame = frame_index 0; looks = n; records = rs; hand = frame_index h }
sweep_from k F (suc m) n rs h =
    let o = k (record_at rs h) h in
    let next = set rs h (look_leaves (record_at rs h) o) in
    pick (look_takes (record_at rs h) o)
    (record { taken = true; frame = frame_index h; looks = n + 1; records = next; hand = frame_index (after F h) })
    (sweep_from k F m (n + 1) next (after F h))

-- "A sweep takes at most 4 × F looks."
abbrev pub most_looks : ℕ → ℕ
most_looks F = 4 * F

abbrev pub sweep : Pool → List ℕ → ℕ → Swept
sweep p fs t = sweep_from (kind_for p fs t) p.count (most_looks p.count) 0 p.records p.hand.0

-- the records and the hand as a sweep leaves them
abbrev pub with_swept : Pool → Swept → Pool
with_swept p v = record { records = v.records; count = p.count; pages = p.pages; stores = p.stores; ceilings = p.ceilings; hand = v.hand }
