-- "Call listing": a record of 16 bytes, the call that it makes, and the four numbers of its line.
use Rattle.std.specs.Prelude.{ℕ, ◌+◌, ◌*◌, false, List, [], ◌∷◌, eqb, leb, get_or}
use Rattle.page.specs.declared.PageNumber.{PageNumber}
use Rattle.page.specs.Figures.{byte_radix}
use Rattle.page.specs.Page.{bytes_from}
use Rattle.machine.specs.declared.Handle.{Handle}
use Rattle.rules.specs.Tests.{pick, ◌and◌, Rule, first_broken, verdict}
use Rattle.machine.specs.Machine.{State, frame_index, store_number, page_number}
use Rattle.machine.specs.Answers.{Answer, refused, done, handle, payload, number, frame, nowhere, Out, out}
use Rattle.machine.specs.Calls.{open_call}
use Rattle.machine.specs.History.{Call, root, fix, unfix, write, link, unlink, evict, settle, find, row}

-- ---- the pool: "4 frames". Request A.11: "the listing has T 1 and ceiling F", the other ceilings being "0 for no store"

abbrev pub listing_frames : ℕ
listing_frames = 4

abbrev pub listing_ceilings : List ℕ
listing_ceilings = listing_frames ∷ 0 ∷ 0 ∷ 0 ∷ []

abbrev pub open_listing : List ℕ → List ℕ → List ℕ → Out
open_listing fs st d = open_call 1 listing_ceilings fs st d

-- ---- the fields of a record

-- "Byte 0 is the call"
abbrev pub call_in : List ℕ → ℕ
call_in b = get_or b 0 0

-- a page number in two bytes, "little-endian"
abbrev pub page_from : List ℕ → ℕ → PageNumber
page_from b i = page_number (get_or b i 0 + byte_radix * get_or b (i + 1) 0)

-- "bytes 2 and 3 the page"
abbrev pub page_in_record : List ℕ → PageNumber
page_in_record b = page_from b 2

-- "byte 1 the frame", with the page. With T 1, the calls of a record name store 0
abbrev pub handle_in : List ℕ → Handle
handle_in b = record { frame = frame_index (get_or b 1 0); store = store_number 0; page = page_in_record b }

-- "Link takes its parent handle's page from bytes 7 and 8."
abbrev pub parent_in : List ℕ → Handle
parent_in b = record { frame = frame_index (get_or b 1 0); store = store_number 0; page = page_from b 7 }

-- "byte 4 slot, 5 offset, 6 length, 7 to 15 data"
abbrev pub slot_in : List ℕ → ℕ
slot_in b = get_or b 4 0

abbrev pub offset_in : List ℕ → ℕ
offset_in b = get_or b 5 0

abbrev pub length_in : List ℕ → ℕ
length_in b = get_or b 6 0

abbrev pub data_in : List ℕ → List ℕ
data_in b = bytes_from b 7 (length_in b)

-- ---- the call

-- "1 root, 2 fix, 3 unfix, 4 write, 5 link, 6 unlink, 7 evict, 8 settle, 9 find"; request A.8: "Link takes the mark, in the listing never."
unfoldable pub call_of : List ℕ → Call
call_of b =
    pick (eqb (call_in b) 1) (root 0) (
    pick (eqb (call_in b) 2) (fix (handle_in b) (slot_in b)) (
    pick (eqb (call_in b) 3) (unfix (handle_in b)) (
    pick (eqb (call_in b) 4) (write (handle_in b) (offset_in b) (data_in b)) (
    pick (eqb (call_in b) 5) (link (parent_in b) (slot_in b) (page_in_record b) false) (
    pick (eqb (call_in b) 6) (unlink (handle_in b) (slot_in b)) (
    pick (eqb (call_in b) 7) (evict 0 (page_in_record b)) (
    pick (eqb (call_in b) 8) settle (
    find 0 (page_in_record b)))))))))

-- 17. "The listing program's record has a call outside 1 to 9 or a length above 9 (tested there before all others)."
abbrev pub rule17 : List ℕ → Rule
rule17 b = (17, leb 1 (call_in b) and leb (call_in b) 9 and leb (length_in b) 9)

-- what a record answers and leaves
unfoldable pub record_out : State → List ℕ → Out
record_out s b = verdict (first_broken (rule17 b ∷ [])) (λ n. out (refused n) s) ((row (call_of b)).out s)

-- ---- the line: "call, 0 or the refusal, frame, page, with 0 0 where no handle or frame is given (find prints its page too, or 0 0 for 'absent')"
pub record Numbers : Type 0 where
  pub call : ℕ
  pub refusal : ℕ
  pub frame : ℕ
  pub page : ℕ

abbrev pub line_numbers : ℕ → ℕ → ℕ → ℕ → Numbers
line_numbers c n f p = record { call = c; refusal = n; frame = f; page = p }

abbrev pub line_of : List ℕ → Answer → Numbers
line_of b (refused n) = line_numbers (call_in b) n 0 0
line_of b done = line_numbers (call_in b) 0 0 0
line_of b (handle f t p looks) = line_numbers (call_in b) 0 f p
line_of b (payload y a n) = line_numbers (call_in b) 0 0 0
line_of b (number p l) = line_numbers (call_in b) 0 0 0
line_of b (frame f compared) = line_numbers (call_in b) 0 f (page_in_record b).0
line_of b (nowhere compared) = line_numbers (call_in b) 0 0 0

-- a line, and the state that the next record finds
pub record Listed : Type 0 where
  pub line : Numbers
  pub left : State

abbrev pub listed : State → List ℕ → Listed
listed s b = record { line = line_of b (record_out s b).answer; left = (record_out s b).left }
