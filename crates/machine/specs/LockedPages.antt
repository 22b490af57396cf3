-- Request A.8, "Issued results must not be edited": what holds of locked pages, beside demand 3, at every point of every list of calls from an accepted open. The proof stands in proofs/Theorem.
use Rattle.std.specs.Prelude.{ℕ, ◌<◌, ◌≡◌, ◌≢◌, ◌⊎◌, ◌↔◌, Bool, true, false, not, List, [], ◌∷◌, ◌++◌, length}
use Rattle.page.specs.declared.PageNumber.{PageNumber}
use Rattle.page.specs.Figures.{slot_count}
use Rattle.page.specs.Page.{name, lock, page_of}
use Rattle.page.specs.Octets.{Octets}
use Rattle.machine.specs.declared.Handle.{Handle}
use Rattle.rules.specs.Tests.{first_broken}
use Rattle.machine.specs.Machine.{page_number, is_dirty, record_at}
use Rattle.machine.specs.Answers.{refused, done}
use Rattle.machine.specs.Rules.{rule5}
use Rattle.machine.specs.Calls.{handle_rules, word_rules, open_call, write_call, link_call, unlink_call}
use Rattle.machine.specs.History.{Call, reopen, root, fix, unfix, show, peek, word, write, link, unlink, evict, settle, find, Point, accepted, row, next, start, run, AllBytes}
use Rattle.machine.specs.Demand3.{at, of_handle, InFrame, Names}

-- "Bit 30 of a word marks the page it names as locked": slot k of page q of store t has a marked word in the map, which names page p of that store. Page q may be resident or not, and in reach of the root or not.
pub record LockedBy (x : Point) (t p q k : ℕ) : Type 0 where
  pub store : t < x.now.pool.stores
  pub below : q < x.now.pool.pages
  pub names : Names x t q k p
  pub marked : lock x.map (at x t q) k ≡ true

abbrev pub Locked : Point → ℕ → ℕ → Type 0
Locked x t p = (q k : ℕ) × LockedBy x t p q k

-- a handle's page is
abbrev pub LockedPage : Point → Handle → Type 0
LockedPage x h = Locked x h.store.0 h.page.0

-- "while the marked word stands": page p of store t is locked before each call of a stretch from x on. Request A.11: and no open gives the stores another number of pages, where page p of store t would be another page
unfoldable pub LockedWhile : List Call → Point → ℕ → ℕ → Type 0
LockedWhile [] x t p = Unit {0}
LockedWhile (c ∷ cs) x t p = Locked x t p × ((next c x).now.pool.pages ≡ x.now.pool.pages) × LockedWhile cs (next c x) t p

-- the calls that change a page of the map
abbrev pub edits : Call → Bool
edits (reopen T ceilings) = false
edits (root t) = false
edits (fix h k) = false
edits (unfix h) = false
edits (show h) = false
edits (peek t q) = false
edits (word h k) = false
edits (write h offset d) = true
edits (link h k q l) = true
edits (unlink h k) = true
edits (evict t q) = false
edits settle = false
edits (find t q) = false

pub record LocksHold (x : Point) : Type 0 where
  -- "Whoever writes, links, unlinks or inserts in a locked page is refused": whatever else is asked, a write of no bytes too. (Insert comes with request A.7.)
  pub no_write : (h : Handle) (offset : ℕ) (d : List ℕ) → LockedPage x h → accepted (write_call x.now h offset d).answer ≡ false
  pub no_link : (h : Handle) (k : ℕ) (q : PageNumber) (l : Bool) → LockedPage x h → accepted (link_call x.now h k q l).answer ≡ false
  pub no_unlink : (h : Handle) (k : ℕ) → LockedPage x h → accepted (unlink_call x.now h k).answer ≡ false
  -- "26: the handle's page is locked, after 5 and before 6": answered exactly where no rule tested before it is broken and the page is locked
  pub write26 : (h : Handle) (offset : ℕ) (d : List ℕ)
      → ((write_call x.now h offset d).answer ≡ refused 26) ↔ ((first_broken (handle_rules x.now h ++ (rule5 offset (length d) ∷ [])) ≡ 0) × LockedPage x h)
  pub link26 : (h : Handle) (k : ℕ) (q : PageNumber) (l : Bool) → ((link_call x.now h k q l).answer ≡ refused 26) ↔ ((first_broken (word_rules x.now h k) ≡ 0) × LockedPage x h)
  pub unlink26 : (h : Handle) (k : ℕ) → ((unlink_call x.now h k).answer ≡ refused 26) ↔ ((first_broken (word_rules x.now h k) ≡ 0) × LockedPage x h)
  pub others26 : (c : Call) → edits c ≡ false → ((row c).out x.now).answer ≢ refused 26
  -- "so its payload in the map never changes while the marked word stands": nor does any other byte of it, over any calls, opens among them
  pub stays : (cs : List Call) → AllBytes cs → (t p : ℕ) → LockedWhile cs x t p → page_of (run cs x).map (at (run cs x) t p) ≡ page_of x.map (at x t p)
  -- a locked page is never dirty, and the store has its bytes
  pub clean : (t p f : ℕ) → Locked x t p → InFrame x t p f → is_dirty (record_at x.now.pool.records f) ≡ false
  pub stored : (t p : ℕ) → Locked x t p → page_of x.now.store (at x t p) ≡ page_of x.map (at x t p)
  -- the marked word stands until it is unlinked, and a page gets locked by a link with the mark: over any call but an open, which begins with the store
  pub lasts : (c : Call) → Octets (row c).bytes → (row c).anew ≡ false → (t p q k : ℕ) → LockedBy x t p q k → LockedBy (next c x) t p q k ⊎ ((h : Handle) × (c ≡ unlink h k) × (h.store.0 ≡ t) × (h.page.0 ≡ q))
  pub begins : (c : Call) → Octets (row c).bytes → (row c).anew ≡ false → (t p : ℕ) → Locked (next c x) t p → Locked x t p ⊎ ((h : Handle) × (k : ℕ) × (c ≡ link h k (page_number p) true) × (h.store.0 ≡ t))
  -- "Link takes the mark": the page that it links is then locked exactly where a mark was given. Once the word that names it is unlinked, it isn't locked.
  pub linked : (h : Handle) (k : ℕ) (q : PageNumber) (l : Bool) → accepted (link_call x.now h k q l).answer ≡ true → Locked (next (link h k q l) x) h.store.0 q.0 ↔ (l ≡ true)
  pub unlinked : (h : Handle) (k : ℕ) → accepted (unlink_call x.now h k).answer ≡ true → Locked (next (unlink h k) x) h.store.0 (name x.map (of_handle x h) k) → ⊥
  -- a root is never locked, since no word names it
  pub root_free : (t : ℕ) → Locked x t 0 → ⊥

-- from an open that is accepted, with any T and ceilings, over any frames and store of bytes and any directory, after any list of calls
abbrev pub LockedPages : Type 0
LockedPages =
    (T : ℕ) (ceilings frames store directory : List ℕ) → Octets frames → Octets store → (open_call T ceilings frames store directory).answer ≡ done
    → (cs : List Call) → AllBytes cs → LocksHold (run cs (start (open_call T ceilings frames store directory).left))

-- ---- "in the listing never"

-- the call is no open, and no link with a mark
abbrev pub without_mark : Call → Bool
without_mark (reopen T ceilings) = false
without_mark (root t) = true
without_mark (fix h k) = true
without_mark (unfix h) = true
without_mark (show h) = true
without_mark (peek t q) = true
without_mark (word h k) = true
without_mark (write h offset d) = true
without_mark (link h k q l) = not l
without_mark (unlink h k) = true
without_mark (evict t q) = true
without_mark settle = true
without_mark (find t q) = true

unfoldable pub WithoutMarks : List Call → Type 0
WithoutMarks [] = Unit {0}
WithoutMarks (c ∷ cs) = (without_mark c ≡ true) × WithoutMarks cs

-- no word of a buffer is marked
abbrev pub Unmarked : List ℕ → Type 0
Unmarked b = (q k : ℕ) → k < slot_count → lock b q k ≡ false

-- where the store has no mark, no link takes one and no open is among the calls, no page is ever locked, and no call answers 26
pub record NoneLocked (x : Point) : Type 0 where
  pub none : (t p : ℕ) → Locked x t p → ⊥
  pub never26 : (c : Call) → ((row c).out x.now).answer ≢ refused 26

abbrev pub NeverLocked : Type 0
NeverLocked =
    (T : ℕ) (ceilings frames store directory : List ℕ) → Octets frames → Octets store → (open_call T ceilings frames store directory).answer ≡ done → Unmarked store
    → (cs : List Call) → AllBytes cs → WithoutMarks cs → NoneLocked (run cs (start (open_call T ceilings frames store directory).left))
