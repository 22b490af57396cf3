-- Demand 3: what holds at every point of every list of calls from an accepted open. The proof stands in proofs/Theorem.
use Rattle.std.specs.Prelude.{ℕ, ◌+◌, ◌*◌, ◌≤◌, ◌<◌, ◌≡◌, ◌≢◌, ◌⊎◌, ◌↔◌, true, false, List, [], ◌∷◌, ◌++◌}
use Rattle.page.specs.Figures.{page_size, slot_count, payload_start}
use Rattle.page.specs.Word.{is_number, frame_word, number_word, renamed}
use Rattle.page.specs.Page.{slot, name, lock, byte, page_of, bytes_from, payload_at, payload_of}
use Rattle.page.specs.StorePlaces.{store_place}
use Rattle.page.specs.Octets.{Octets}
use Rattle.machine.specs.declared.Handle.{Handle}
use Rattle.rules.specs.Tests.{first_broken}
use Rattle.machine.specs.Machine.{State, page_number, record_at, blank, is_of, held, ceiling_of, at_ceiling}
use Rattle.machine.specs.Answers.{Answer, refused, done, handle, number, frame, Shown, handed_back}
use Rattle.machine.specs.Rules.{rule14}
use Rattle.machine.specs.Calls.{open_call, root_call, fix_call, show_call, peek_call, word_call, settle_call, find_call, fix_entry_rules}
use Rattle.machine.specs.History.{Call, root, fix, Point, is_pinned, handled_place, accepted, row, next, start, run, AllBytes}

-- request A.11: "There is one plain map per store", page p of store t standing at this place of the list that has them one after another
abbrev pub at : Point → ℕ → ℕ → ℕ
at x t p = store_place x.now.pool.pages t p

-- the place of a handle's page
abbrev pub of_handle : Point → Handle → ℕ
of_handle x h = handled_place x.now.pool.pages h

-- the map of store t by itself: N pages
abbrev pub map_of : Point → ℕ → List ℕ
map_of x t = bytes_from x.map (page_size * at x t 0) (page_size * x.now.pool.pages)

-- "A page is resident where find would give a frame, and that is its frame.", whatever count stands beside it (request A.3): page p of store t
abbrev pub InFrame : Point → ℕ → ℕ → ℕ → Type 0
InFrame x t p f = (compared : ℕ) × ((find_call x.now t (page_number p)).answer ≡ frame f compared)

abbrev pub Resident : Point → ℕ → ℕ → Type 0
Resident x t p = (f : ℕ) × InFrame x t p f

-- "A page is pinned while the accepted roots and fixes that answered its number outnumber the accepted unfixes of it since the open."
pub record Pinned (x : Point) (t p : ℕ) : Type 0 where
  pub below : p < x.now.pool.pages
  pub more : is_pinned x.balance (at x t p) ≡ true

-- slot k of page q in the map of store t names page p of that store
pub record Names (x : Point) (t q k p : ℕ) : Type 0 where
  pub in_page : k < slot_count
  pub word : name x.map (at x t q) k ≡ p

-- "the page with that word is its parent, and parents lead to the root"; request A.11: "one resident tree under each root"
pub data LeadsToRoot (x : Point) (t : ℕ) : ℕ → Type 0 where
  at_root : LeadsToRoot x t 0
  to_parent : {p : ℕ} (q k : ℕ) → Resident x t q → Names x t q k p → LeadsToRoot x t q → LeadsToRoot x t p

-- what is handed back for an answer where the frames and the store are lent at these places, each a block and an offset in it
abbrev pub handed : State → ℕ × ℕ → ℕ × ℕ → Answer → Shown
handed s fs st a = handed_back (record { at = fs; bytes = s.frames }) (record { at = st; bytes = s.store }) a

-- page p of store t "is pinned or has a resident child"
abbrev pub Stays : Point → ℕ → ℕ → Type 0
Stays x t p = Pinned x t p ⊎ ((k c : ℕ) × Names x t p k c × (c ≢ 0) × Resident x t c)

-- "each of its own resident pages but its root is pinned or has a resident child", of store t
abbrev pub NoneOwn : Point → ℕ → Type 0
NoneOwn x t = (p : ℕ) → p ≢ 0 → Resident x t p → Stays x t p

-- "No frame is empty and every resident page but the root is pinned or has a resident child.", "every root excepted"
pub record NoRoom (x : Point) : Type 0 where
  pub full : (f : ℕ) → f < x.now.pool.count → (t p : ℕ) × InFrame x t p f
  pub closed : (t : ℕ) → NoneOwn x t

-- "A load is asked for where a page that isn't resident is to come in and no rule tested before 15 is broken."
pub record LoadAsked (x : Point) (h : Handle) (k : ℕ) : Type 0 where
  pub absent : Resident x h.store.0 (name x.map (of_handle x h) k) → ⊥
  pub unbroken : first_broken (fix_entry_rules x.now h k ++ (rule14 x.now h.store.0 (name x.map (of_handle x h) k) ∷ [])) ≡ 0

-- the part handed back for an answer is the payload of page p of store t in its map, wherever the buffers are lent: "from the frame if resident, otherwise from the store"
pub record GivesPayload (x : Point) (a : Answer) (t p : ℕ) (fs st : ℕ × ℕ) : Type 0 where
  pub bytes : (handed x.now fs st a).part.bytes ≡ payload_of x.map (at x t p)
  pub of_frame : (f : ℕ) → InFrame x t p f → (handed x.now fs st a).part.at ≡ (fs.0, payload_at f + fs.1)
  pub of_store : (Resident x t p → ⊥) → (handed x.now fs st a).part.at ≡ (st.0, payload_at (at x t p) + st.1)
  pub number : (handed x.now fs st a).number ≡ 0

-- a call's answer is a handle of page p of store t, whose frame is then the handle's
abbrev pub GivesHandle : Point → Call → ℕ → ℕ → Type 0
GivesHandle x c t p = (f looks : ℕ) × (((row c).out x.now).answer ≡ handle f t p looks) × InFrame (next c x) t p f

-- "a neighbour's page may be evicted, though its map, pins and shown bytes are the same after it": page p of store t, from point x to point y
pub record Spared (x y : Point) (t p : ℕ) : Type 0 where
  pub map : page_of y.map (at y t p) ≡ page_of x.map (at x t p)
  pub fixes : y.balance.fixes (at y t p) ≡ x.balance.fixes (at x t p)
  pub unfixes : y.balance.unfixes (at y t p) ≡ x.balance.unfixes (at x t p)
  -- what peek gives, and what is shown with a handle, at the place where that was
  pub peeked : (fs st : ℕ × ℕ) → (handed y.now fs st (peek_call y.now t (page_number p)).answer).part.bytes ≡ (handed x.now fs st (peek_call x.now t (page_number p)).answer).part.bytes
  pub answered : (g : Handle) → g.store.0 ≡ t → g.page.0 ≡ p → accepted (show_call x.now g).answer ≡ true → (show_call y.now g).answer ≡ (show_call x.now g).answer
  pub shown : (g : Handle) → g.store.0 ≡ t → g.page.0 ≡ p → accepted (show_call x.now g).answer ≡ true
      → (fs st : ℕ × ℕ) → (handed y.now fs st (show_call y.now g).answer).part.bytes ≡ (handed x.now fs st (show_call x.now g).answer).part.bytes

pub record Holds (x : Point) : Type 0 where
  -- "At each accepted call, show gives the map's payload of its handle's page, peek that of its page, word the map's word in its slot of its handle's page." Request A.8: "and word shows it", the mark
  pub shown : (h : Handle) (fs st : ℕ × ℕ) → accepted (show_call x.now h).answer ≡ true → GivesPayload x (show_call x.now h).answer h.store.0 h.page.0 fs st
  pub peeked : (t p : ℕ) (fs st : ℕ × ℕ) → accepted (peek_call x.now t (page_number p)).answer ≡ true → GivesPayload x (peek_call x.now t (page_number p)).answer t p fs st
  pub worded : (h : Handle) (k : ℕ) → accepted (word_call x.now h k).answer ≡ true → (word_call x.now h k).answer ≡ number (name x.map (of_handle x h) k) (lock x.map (of_handle x h) k)
  -- "Fix answers a handle of the page that this word names, root one of page 0."
  pub fixed : (h : Handle) (k : ℕ) → accepted (fix_call x.now h k).answer ≡ true → GivesHandle x (fix h k) h.store.0 (name x.map (of_handle x h) k)
  pub rooted : (t : ℕ) → accepted (root_call x.now t).answer ≡ true → GivesHandle x (root t) t 0
  -- "No two share one. A frame that is no page's is empty."
  pub apart : (t p u q f : ℕ) → InFrame x t p f → InFrame x u q f → (t ≡ u) × (p ≡ q)
  pub otherwise_empty : (f : ℕ) → f < x.now.pool.count → ((t p : ℕ) → InFrame x t p f → ⊥) → record_at x.now.pool.records f ≡ blank
  -- "From the answer that pins it until it is pinned no more, its frame is the one in that answer."
  pub kept : (t p : ℕ) → Pinned x t p → InFrame x t p (x.balance.frame (at x t p))
  -- request A.11: "There is one plain map per store": its pages are those of the one list from its own first one on
  pub per_store : (t p : ℕ) → t < x.now.pool.stores → p < x.now.pool.pages → page_of (map_of x t) p ≡ page_of x.map (at x t p)
  -- "Tree: the root is resident. Every other resident page is named by exactly one word of the resident pages in the map; the page with that word is its parent, and parents lead to the root." Request A.11: "frames 0 to T − 1 hold their roots", with "one resident tree under each root"
  pub root_resident : (t : ℕ) → t < x.now.pool.stores → InFrame x t 0 t
  pub named : (t p : ℕ) → p ≢ 0 → Resident x t p → (q k : ℕ) × Resident x t q × Names x t q k p
  pub named_once : (t p q k r j : ℕ) → p ≢ 0 → Resident x t p → Resident x t q → Names x t q k p → Resident x t r → Names x t r j p → (q ≡ r) × (k ≡ j)
  pub tree : (t p : ℕ) → Resident x t p → LeadsToRoot x t p
  -- "In its frame a resident page has its bytes in the map, except that a word naming a resident page is swizzled to that page's frame." Request A.8: "Loading, eviction .. carry it", the mark
  pub payload_bytes : (t p f i : ℕ) → InFrame x t p f → payload_start ≤ i → i < page_size → byte x.now.frames f i ≡ byte x.map (at x t p) i
  pub swizzled : (t p f k c g : ℕ) → InFrame x t p f → Names x t p k c → c ≢ 0 → InFrame x t c g → slot x.now.frames f k ≡ renamed (slot x.map (at x t p) k) (frame_word g)
  pub unswizzled : (t p f k c : ℕ) → InFrame x t p f → Names x t p k c → (c ≢ 0 → Resident x t c → ⊥) → slot x.now.frames f k ≡ renamed (slot x.map (at x t p) k) (number_word c)
  -- "No word in the store has bit 31 set.", in none of them
  pub store_plain : (t p k : ℕ) → t < x.now.pool.stores → p < x.now.pool.pages → k < slot_count → is_number (name x.now.store (at x t p) k) ≡ true
  -- "Right after an accepted settle the store and the map are equal in every byte." Request A.11: "Settle writes every store"
  pub settled : accepted (settle_call x.now).answer ≡ true → (settle_call x.now).left.store ≡ x.map
  -- "A load is denied a frame exactly when none is empty and every resident page but the root is pinned or has a resident child." "It is denied a frame when 15 is answered." Request A.11: "15 is for a store below its ceiling, and demand 3's last sentence is about such a store, every root excepted"
  pub denied : (h : Handle) (k : ℕ) → ((fix_call x.now h k).answer ≡ refused 15) ↔ (LoadAsked x h k × (at_ceiling x.now.pool h.store.0 ≡ false) × NoRoom x)
  -- "a store at its ceiling is denied a frame exactly when each of its own resident pages but its root is pinned or has a resident child, judged where 15 would be"
  pub denied_own : (h : Handle) (k : ℕ) → ((fix_call x.now h k).answer ≡ refused 27) ↔ (LoadAsked x h k × (at_ceiling x.now.pool h.store.0 ≡ true) × NoneOwn x h.store.0)
  -- a pool of one store is at its ceiling where no frame is empty, so that it never answers 15
  pub single : x.now.pool.stores ≡ 1 → (h : Handle) (k : ℕ) → (fix_call x.now h k).answer ≢ refused 15
  -- what counts towards a ceiling, "resident pages, its root included": a frame does so for store t where find gives it for a page of that store. No store is above its ceiling.
  pub counts : (t f : ℕ) → f < x.now.pool.count → (is_of t (record_at x.now.pool.records f) ≡ true) ↔ ((p : ℕ) × InFrame x t p f)
  pub ceilings : (t : ℕ) → t < x.now.pool.stores → held x.now.pool t ≤ ceiling_of x.now.pool t
  -- "a neighbour's page may be evicted, though its map, pins and shown bytes are the same after it"
  pub neighbours : (h : Handle) (k t p : ℕ) → t ≢ h.store.0 → t < x.now.pool.stores → p < x.now.pool.pages → Spared x (next (fix h k) x) t p
  -- 1 (but by an open with figures that don't fit), 2 and 14 are never answered, so that 'no rule tested before 15' hides nothing
  pub never_refused : (c : Call) (n : ℕ) → ((row c).out x.now).answer ≡ refused n → ((row c).anew ≡ false → n ≢ 1) × (n ≢ 2) × (n ≢ 14)

-- from an open that is accepted, with any T and ceilings, over any frames and store of bytes and any directory, after any list of calls
abbrev pub Demand3 : Type 0
Demand3 =
    (T : ℕ) (ceilings frames store directory : List ℕ) → Octets frames → Octets store → (open_call T ceilings frames store directory).answer ≡ done
    → (cs : List Call) → AllBytes cs → Holds (run cs (start (open_call T ceilings frames store directory).left))
