-- What is printed for the records of a block: a line for each, as text.
use Rattle.std.specs.Prelude.{ℕ, zero, suc, ◌+◌, ◌*◌, List, [], ◌∷◌, ◌++◌, ltb}
use Rattle.io.specs.Digits.{last_digits}
use Rattle.page.specs.Page.{bytes_from}
use Rattle.rules.specs.Tests.{pick}
use Rattle.machine.specs.Machine.{State}
use Rattle.recording.specs.Listing.{Numbers, Listed, listed}

-- how many decimal digits a number below 100,000 has
unfoldable pub places : ℕ → ℕ
places n = pick (ltb n 10) 1 (pick (ltb n 100) 2 (pick (ltb n 1000) 3 (pick (ltb n 10000) 4 5)))

-- a text, then a number in decimal and the byte after it
unfoldable pub with_number : List ℕ → ℕ → ℕ → List ℕ
with_number t n after = t ++ last_digits 10 (places n) n ++ (after ∷ [])

-- a text, then a line: its four numbers, a space between them, and the line's end
abbrev pub with_line : List ℕ → Numbers → List ℕ
with_line t l = with_number (with_number (with_number (with_number t l.call 32) l.refusal 32) l.frame 32) l.page 10

-- what was printed, and the state after it
pub record Printed : Type 0 where
  pub text : List ℕ
  pub left : State

abbrev pub printed : List ℕ → State → Printed
printed t s = record { text = t; left = s }

abbrev pub with_listed : List ℕ → Listed → Printed
with_listed t l = printed (with_line t l.line) l.left

-- record i of a block
abbrev pub record_in : List ℕ → ℕ → List ℕ
record_in b i = bytes_from b (16 * i) 16

-- n records of a block, from record i on, each on the state that the one before left
unfoldable pub listed_from : ℕ → List ℕ → ℕ → Printed → Printed
listed_from zero b i p = p
listed_from (suc n) b i p = listed_from n b (i + 1) (with_listed p.text (listed p.left (record_in b i)))
