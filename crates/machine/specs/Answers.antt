-- What a call answers, and document 01's number and values for each answer in code.
use Rattle.std.specs.Prelude.{ℕ, ◌+◌, Bool, true, false, ◌≡◌, refl, List, Option, Some, None, Result, Ok, Err}
use Rattle.std.specs.Borrow.{Bor}
use Rattle.page.specs.declared.FrameIndex.{FrameIndex}
use Rattle.page.specs.Page.{bytes_from}
use Rattle.rules.specs.declared.refusal.Refusal.{Refusal}
use Rattle.rules.specs.RefusalNumbers.{number_of}
use Rattle.machine.specs.declared.Pool.{Pool}
use Rattle.machine.specs.declared.Pinned.{Pinned}
use Rattle.machine.specs.declared.Named.{Named}
use Rattle.machine.specs.declared.Found.{Found}
use Rattle.machine.specs.declared.Payload.{Payload}
use Rattle.machine.specs.Machine.{State, state, zero_pool}

-- the lent buffer that a payload lies in
pub data Buffer : Type 0 where
  in_frames : Buffer
  in_store : Buffer

pub data Answer : Type 0 where
  -- a refusal's number
  refused : ℕ → Answer
  -- accepted, with nothing to give: open, unfix, write, link, unlink, evict, settle
  done : Answer
  -- root and fix: the handle's frame, store and page, and the looks of the sweep
  handle : ℕ → ℕ → ℕ → ℕ → Answer
  -- show and peek: the place of the payload, its buffer, start and size
  payload : Buffer → ℕ → ℕ → Answer
  -- word: the page number, and whether that page is locked
  number : ℕ → Bool → Answer
  -- find: the frame, or 'absent', and the entries compared
  frame : ℕ → ℕ → Answer
  nowhere : ℕ → Answer

-- what a call answers and leaves
pub record Out : Type 0 where
  pub answer : Answer
  pub left : State

abbrev pub out : Answer → State → Out
out a s = record { answer = a; left = s }

-- ---- the answers in code

-- what an accepted call gives, or the number of the rule that refuses it
abbrev pub answered : {A : Type 0} → (A → Answer) → Result A Refusal → Answer
answered f (Ok x) = f x
answered f (Err r) = refused (number_of r)

abbrev pub done_answer : Result (Unit {0}) Refusal → Answer
done_answer = answered (λ _. done)

abbrev pub fix_answer : Result Pinned Refusal → Answer
fix_answer = answered (λ x. handle x.handle.frame.0 x.handle.store.0 x.handle.page.0 x.looks)

abbrev pub word_answer : Result Named Refusal → Answer
word_answer = answered (λ x. number x.page.0 x.locked)

abbrev pub found_at : Option FrameIndex → ℕ → Answer
found_at (Some f) compared = frame f.0 compared
found_at None compared = nowhere compared

abbrev pub find_answer : Result Found Refusal → Answer
find_answer = answered (λ x. found_at x.frame x.compared)

abbrev pub is_store : Buffer → Bool
is_store in_frames = false
is_store in_store = true

abbrev pub buffer_of : Bool → Buffer
buffer_of true = in_store
buffer_of false = in_frames

pub is-store-of : (b : Bool) → is_store (buffer_of b) ≡ b
is-store-of true = refl
is-store-of false = refl

abbrev pub payload_answer : Result Payload Refusal → Answer
payload_answer = answered (λ x. payload (buffer_of x.in_store) x.start x.size)

-- open's: "Refused, it hands back all-zero records"
abbrev pub opened_out : Result Pool Refusal → List ℕ → List ℕ → List ℕ → Out
opened_out (Ok p) fs st d = out done (state p fs st d)
opened_out (Err r) fs st d = out (refused (number_of r)) (state zero_pool fs st d)

-- ---- a part of a lent slice that is handed back

-- a slice as it was lent: where it starts, a block and an offset, and its bytes
pub record Lent : Type 0 where
  pub at : ℕ × ℕ
  pub bytes : List ℕ

abbrev pub lent : Bor (List ℕ) → Lent
lent x = record { at = x.ref_ptr; bytes = x.now }

-- the n bytes of a slice from a on, where they lie
unfoldable pub cut : Lent → ℕ → ℕ → Lent
cut x a n = record { at = (x.at.0, a + x.at.1); bytes = bytes_from x.bytes a n }

-- the part handed back, and what is put into the number that the caller lends
pub record Shown : Type 0 where
  pub part : Lent
  pub number : ℕ

abbrev pub lent_if : Bool → Lent → Lent → Lent
lent_if true fs st = st
lent_if false fs st = fs

-- no payload: the empty part at the start of the frames, with the refusal's number
abbrev pub no_part : Lent → ℕ → Shown
no_part fs n = record { part = cut fs 0 0; number = n }

-- "A refused show or peek gives the empty part at the start of the frames; both put their number, 0 if accepted, into a number the caller lends." They give no answer of another kind.
abbrev pub handed_back : Lent → Lent → Answer → Shown
handed_back fs st (payload b a n) = record { part = cut (lent_if (is_store b) fs st) a n; number = 0 }
handed_back fs st (refused n) = no_part fs n
handed_back fs st done = no_part fs 0
handed_back fs st (handle f t p n) = no_part fs 0
handed_back fs st (number p l) = no_part fs 0
handed_back fs st (frame f n) = no_part fs 0
handed_back fs st (nowhere n) = no_part fs 0

-- the same by the answer in code
abbrev pub handed_at : Lent → Lent → Result Payload Refusal → Shown
handed_at fs st (Ok p) = record { part = cut (lent_if p.in_store fs st) p.start p.size; number = 0 }
handed_at fs st (Err r) = no_part fs (number_of r)

pub handed-by : (fs st : Lent) (r : Result Payload Refusal) → handed_at fs st r ≡ handed_back fs st (payload_answer r)
handed-by fs st (Ok p) = rw (is-store-of p.in_store)
handed-by fs st (Err r) = refl
