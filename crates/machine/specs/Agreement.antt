-- "When records and frames agree", sentence by sentence.
use Rattle.std.specs.Prelude.{ℕ, zero, suc, Bool, not, List, eqb, ltb, leb}
use Rattle.page.specs.Figures.{slot_count, record_count, max_usage, max_pins}
use Rattle.page.specs.Word.{is_number, frame_in, frame_word, gives_page, names_nothing}
use Rattle.page.specs.Page.{name}
use Rattle.machine.specs.declared.FrameRecord.{FrameRecord}
use Rattle.machine.specs.declared.Pool.{Pool}
use Rattle.rules.specs.Tests.{◌and◌, ◌or◌, ◌⇒◌, every}
use Rattle.page.specs.StorePlaces.{store_place}
use Rattle.machine.specs.Machine.{is_root, record_at, page_in, store_in, place_in, occupied, held, ceiling_of}

abbrev pub parent_of : Pool → ℕ → ℕ
parent_of p f = (record_at p.records f).parent.0

abbrev pub parent_slot_of : Pool → ℕ → ℕ
parent_slot_of p f = (record_at p.records f).slot

-- a record is all zero
unfoldable pub is_blank : FrameRecord → Bool
is_blank r =
    eqb r.used 0 and eqb r.dirty 0 and eqb r.usage 0 and eqb r.slot 0 and eqb r.parent.0 0 and eqb r.store.0 0 and eqb r.pins 0 and eqb r.page.0 0

-- "Frame 0 holds page 0 and has no parent (its two parent fields are 0)." Request A.11: "frames 0 to T − 1 hold their roots", frame t that of store t
unfoldable pub root_in_place : Pool → ℕ → Bool
root_in_place p t = occupied p t and eqb (page_in p.records t) 0 and eqb (store_in p.records t) t and eqb (parent_of p t) 0 and eqb (parent_slot_of p t) 0

unfoldable pub roots_in_place : Pool → Bool
roots_in_place p = every p.stores (root_in_place p)

-- "No page is in two frames." Request A.11: "pages are compared within their store", which is by their places
unfoldable pub pages_apart : Pool → Bool
pages_apart p =
    every p.count (λ f. every p.count (λ g. (occupied p f and occupied p g and eqb (place_in p.pages p.records f) (place_in p.pages p.records g)) ⇒ eqb f g))

-- "The hand is below F."
unfoldable pub hand_in_range : Pool → Bool
hand_in_range p = ltb p.hand.0 p.count

-- "Every field is in its range.", the store number below T
unfoldable pub fields_in_range : Pool → FrameRecord → Bool
fields_in_range p r = ltb r.page.0 p.pages and ltb r.store.0 p.stores and leb r.pins max_pins and leb r.usage max_usage and ltb r.parent.0 p.count and ltb r.slot slot_count and leb r.used 1 and leb r.dirty 1

unfoldable pub all_in_range : Pool → Bool
all_in_range p = every record_count (λ f. fields_in_range p (record_at p.records f))

-- "An empty frame's record, and any record from F on, is all zero; an empty frame's bytes are free."
unfoldable pub empty_blank : Pool → Bool
empty_blank p = every record_count (λ f. not (occupied p f) ⇒ is_blank (record_at p.records f))

-- "Every other occupied frame's parent is occupied, and the parent's word at the parent slot is swizzled to it."
unfoldable pub parents_name : Pool → List ℕ → Bool
parents_name p fs =
    every p.count (λ f. (occupied p f and not (is_root p.stores f)) ⇒ (occupied p (parent_of p f) and eqb (name fs (parent_of p f) (parent_slot_of p f)) (frame_word f)))

-- request A.11: "a child's store is its parent's"
unfoldable pub stores_agree : Pool → Bool
stores_agree p = every p.count (λ f. (occupied p f and not (is_root p.stores f)) ⇒ eqb (store_in p.records f) (store_in p.records (parent_of p f)))

-- frame g is occupied, no root's, and its record points back to slot k of frame f
unfoldable pub points_back : Pool → ℕ → ℕ → ℕ → Bool
points_back p g f k = occupied p g and not (is_root p.stores g) and eqb (parent_of p g) f and eqb (parent_slot_of p g) k

-- "Every swizzled word of an occupied frame names an occupied frame, never the root's, whose record points back to that word."
unfoldable pub swizzled_point_back : Pool → List ℕ → Bool
swizzled_point_back p fs =
    every p.count (λ f. occupied p f ⇒ every slot_count (λ k. not (is_number (name fs f k)) ⇒ points_back p (frame_in (name fs f k)) f k))

-- the page at place q is in no frame
unfoldable pub absent : Pool → ℕ → Bool
absent p q = every p.count (λ g. occupied p g ⇒ not (eqb (place_in p.pages p.records g) q))

-- "Every other word there is 0 or a number below N of a page that isn't resident.", a page of the frame's own store
unfoldable pub numbers_absent : Pool → List ℕ → Bool
numbers_absent p fs =
    every p.count (λ f. occupied p f ⇒ every slot_count (λ k. is_number (name fs f k) ⇒ (names_nothing (name fs f k) or (ltb (name fs f k) p.pages and absent p (store_place p.pages (store_in p.records f) (name fs f k))))))

-- "No number stands in two such words.", of one store
unfoldable pub numbers_once : Pool → List ℕ → Bool
numbers_once p fs =
    every p.count (λ f. occupied p f ⇒ every slot_count (λ k. gives_page (name fs f k) ⇒
    every p.count (λ g. (occupied p g and eqb (store_in p.records f) (store_in p.records g)) ⇒ every slot_count (λ j. eqb (name fs f k) (name fs g j) ⇒ (eqb f g and eqb k j)))))

-- a root's frame is reached from f in at most n steps to the parent
unfoldable pub reaches_root : Pool → ℕ → ℕ → Bool
reaches_root p zero f = is_root p.stores f
reaches_root p (suc n) f = is_root p.stores f or reaches_root p n (parent_of p f)

-- "Following parents from any occupied frame reaches frame 0.", or another root's: "one resident tree under each root". F steps are enough (proofs/Laws/Parents).
unfoldable pub all_reach_root : Pool → Bool
all_reach_root p = every p.count (λ f. occupied p f ⇒ reaches_root p p.count f)

-- request A.11: "records with more pages of a store than its ceiling under 2"
unfoldable pub ceilings_hold : Pool → Bool
ceilings_hold p = every p.stores (λ t. leb (held p t) (ceiling_of p t))

unfoldable pub agree : Pool → List ℕ → Bool
agree p fs =
    roots_in_place p and pages_apart p and hand_in_range p and all_in_range p and empty_blank p and parents_name p fs and stores_agree p and swizzled_point_back p fs and numbers_absent p fs and numbers_once p fs and all_reach_root p and ceilings_hold p
