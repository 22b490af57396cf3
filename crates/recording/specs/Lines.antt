-- A line in code, and the line and state that `listed` gives.
use Rattle.std.specs.Prelude.{ℕ, List}
use Rattle.machine.specs.Machine.{State, frame_index, page_number}
use Rattle.machine.specs.Answers.{Answer, Out}
use Rattle.recording.specs.declared.lines.Line.{Line}
use Rattle.recording.specs.Listing.{call_in, line_numbers, line_of, Listed}

-- the line of a record with these numbers after its call
abbrev pub line_with : List ℕ → ℕ → ℕ → ℕ → Line
line_with b n f p = record { call = call_in b; refusal = n; frame = frame_index f; page = page_number p }

-- the line of a record with this answer
unfoldable pub line_for : List ℕ → Answer → Line
line_for b a = let l = line_of b a in record { call = l.call; refusal = l.refusal; frame = frame_index l.frame; page = page_number l.page }

-- a line with what its call leaves
abbrev pub lined : Line → State → Listed
lined r s = record { line = line_numbers r.call r.refusal r.frame.0 r.page.0; left = s }

-- what a record lists by what its call answers and leaves
abbrev pub listed_out : List ℕ → Out → Listed
listed_out b o = record { line = line_of b o.answer; left = o.left }
