-- Lists of calls, the plain map, and the balance of pins: what demand 3 speaks of.
use Rattle.std.specs.Prelude.{ℕ, ◌+◌, Bool, true, false, List, [], ◌∷◌, eqb, ltb}
use Rattle.page.specs.declared.PageNumber.{PageNumber}
use Rattle.page.specs.Octets.{Octets}
use Rattle.page.specs.Word.{marked, number_word}
use Rattle.page.specs.Page.{put_slot, put_payload}
use Rattle.page.specs.StorePlaces.{store_place}
use Rattle.machine.specs.declared.Handle.{Handle}
use Rattle.rules.specs.Tests.{pick}
use Rattle.machine.specs.Machine.{State, state}
use Rattle.machine.specs.Answers.{Answer, refused, done, handle, payload, number, frame, nowhere, Out}
use Rattle.machine.specs.Calls.{open_call, root_call, fix_call, unfix_call, show_call, peek_call, word_call, write_call, link_call, unlink_call, evict_call, settle_call, find_call}

-- ---- a call with its arguments apart from records, frames, store and directory. Calls added later join here.
pub data Call : Type 0 where
  -- open, on the buffers as they then stand, with T and the stores' ceilings
  reopen : ℕ → List ℕ → Call
  -- root, peek, evict and find name a store
  root : ℕ → Call
  fix : Handle → ℕ → Call
  unfix : Handle → Call
  show : Handle → Call
  peek : ℕ → PageNumber → Call
  word : Handle → ℕ → Call
  write : Handle → ℕ → List ℕ → Call
  -- with a mark or without
  link : Handle → ℕ → PageNumber → Bool → Call
  unlink : Handle → ℕ → Call
  evict : ℕ → PageNumber → Call
  settle : Call
  find : ℕ → PageNumber → Call

-- ---- the plain map: N pages, fed a call's name, its arguments, and whether it was accepted; and the balance of pins. Request A.11: "There is one plain map per store"; they stand one after another, as the stores do, and a page is told by its place

-- the place of a handle's page, of N pages to each store
abbrev pub handled_place : ℕ → Handle → ℕ
handled_place N h = store_place N h.store.0 h.page.0

-- how many accepted roots and fixes answered a page's number, how many accepted unfixes named it, and the frame in the answer that pinned it
pub record Balance : Type 0 where
  pub fixes : ℕ → ℕ
  pub unfixes : ℕ → ℕ
  pub frame : ℕ → ℕ

abbrev pub no_pins : Balance
no_pins = record { fixes = λ p. 0; unfixes = λ p. 0; frame = λ p. 0 }

-- "A page is pinned while the accepted roots and fixes that answered its number outnumber the accepted unfixes of it since the open."
abbrev pub is_pinned : Balance → ℕ → Bool
is_pinned b p = ltb (b.unfixes p) (b.fixes p)

-- a function with another value at p
unfoldable pub update : (ℕ → ℕ) → ℕ → ℕ → ℕ → ℕ
update t p x q = pick (eqb q p) x (t q)

-- an answer that gives a handle counts a fix of its page; it is the answer that pins the page where that wasn't pinned
abbrev pub fixed_in : ℕ → ℕ → Balance → Balance
fixed_in f p b = record {
  fixes = update b.fixes p (b.fixes p + 1);
  unfixes = b.unfixes;
  frame = pick (is_pinned b p) b.frame (update b.frame p f);
}

abbrev pub unfixed : ℕ → Balance → Balance
unfixed p b = record { fixes = b.fixes; unfixes = update b.unfixes p (b.unfixes p + 1); frame = b.frame }

-- ---- the table of the calls

-- what is to be known of a call: the definition that its contract cites, what it does to the map and to the balance where it is accepted, of N pages to each store, whether it then begins a new history, and the bytes that it hands over
pub record Row : Type 0 where
  pub out : State → Out
  pub on_map : ℕ → List ℕ → List ℕ
  pub on_balance : ℕ → Balance → Balance
  pub anew : Bool
  pub bytes : List ℕ

-- "Every other call leaves the map alone."
abbrev pub quiet : (State → Out) → Row
quiet call = record { out = call; on_map = λ N m. m; on_balance = λ N b. b; anew = false; bytes = [] }

abbrev pub row : Call → Row
row (reopen T ceilings) = record { out = λ s. open_call T ceilings s.frames s.store s.directory; on_map = λ N m. m; on_balance = λ N b. b; anew = true; bytes = [] }
row (root t) = quiet (λ s. root_call s t)
row (fix h k) = quiet (λ s. fix_call s h k)
row (unfix h) = record { out = λ s. unfix_call s h; on_map = λ N m. m; on_balance = λ N. unfixed (handled_place N h); anew = false; bytes = [] }
row (show h) = quiet (λ s. show_call s h)
row (peek t q) = quiet (λ s. peek_call s t q)
row (word h k) = quiet (λ s. word_call s h k)
-- "An accepted write puts its bytes into the page its handle numbers, from byte 64 + offset on."
row (write h offset d) = record { out = λ s. write_call s h offset d; on_map = λ N m. put_payload m (handled_place N h) offset d; on_balance = λ N b. b; anew = false; bytes = d }
-- "An accepted link puts its page number into its slot of that page; an accepted unlink puts 0 there." Request A.8: "the plain map's words carry it", the mark
row (link h k q l) = record { out = λ s. link_call s h k q l; on_map = λ N m. put_slot m (handled_place N h) k (marked l (number_word q.0)); on_balance = λ N b. b; anew = false; bytes = [] }
row (unlink h k) = record { out = λ s. unlink_call s h k; on_map = λ N m. put_slot m (handled_place N h) k 0; on_balance = λ N b. b; anew = false; bytes = [] }
row (evict t q) = quiet (λ s. evict_call s t q)
row settle = quiet settle_call
row (find t q) = quiet (λ s. find_call s t q)

abbrev pub accepted : Answer → Bool
accepted (refused n) = false
accepted done = true
accepted (handle f t p n) = true
accepted (payload b a n) = true
accepted (number p l) = true
accepted (frame f n) = true
accepted (nowhere n) = true

-- the balance after a handle in an answer
abbrev pub counted : ℕ → Answer → Balance → Balance
counted N (refused n) b = b
counted N done b = b
counted N (handle f t p n) b = fixed_in f (store_place N t p) b
counted N (payload y a n) b = b
counted N (number p l) b = b
counted N (frame f n) b = b
counted N (nowhere n) b = b

-- ---- the points of a list of calls

pub record Point : Type 0 where
  pub now : State
  pub map : List ℕ
  pub balance : Balance

-- "At the accepted open it is the store, byte for byte", and no page is pinned
abbrev pub start : State → Point
start s = record { now = s; map = s.store; balance = no_pins }

-- "each later one gets what the call before it returned or left"
abbrev pub continued : Row → Out → Point → Point
continued r o x =
    let N = x.now.pool.pages in
    record {
      now = o.left;
      map = pick (accepted o.answer) (r.on_map N x.map) x.map;
      balance = counted N o.answer (pick (accepted o.answer) (r.on_balance N x.balance) x.balance);
    }

-- an accepted open begins a new history; "After a refused open the host goes on with the records from before it."
abbrev pub reopened : Out → Point → Point
reopened o x =
    pick (accepted o.answer) (start o.left)
    (record { now = state x.now.pool o.left.frames o.left.store o.left.directory; map = x.map; balance = x.balance })

unfoldable pub next : Call → Point → Point
next c x = let o = (row c).out x.now in pick (row c).anew (reopened o x) (continued (row c) o x)

-- the point that a list of calls leads to
unfoldable pub run : List Call → Point → Point
run [] x = x
run (c ∷ cs) x = run cs (next c x)

-- what the calls hand to write are bytes
unfoldable pub AllBytes : List Call → Type 0
AllBytes [] = Unit {0}
AllBytes (c ∷ cs) = Octets (row c).bytes × AllBytes cs
