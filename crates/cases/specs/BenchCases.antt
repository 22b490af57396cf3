-- The starred bench cases of document 01: one table over the calls' own definitions, and one proof.
use Rattle.std.specs.Prelude.{◌≡◌, refl, true, List, [], ◌∷◌, ◌++◌, ℕ, replicate}
use Rattle.page.specs.Word.{word_at, name_of, is_number, frame_in}
use Rattle.page.specs.Page.{slot}
use Rattle.machine.specs.declared.FrameRecord.{FrameRecord}
use Rattle.machine.specs.declared.Handle.{Handle}
use Rattle.rules.specs.Tests.{pick}
use Rattle.machine.specs.Machine.{State}
use Rattle.machine.specs.Moves.{image_of}
use Rattle.machine.specs.Answers.{Out}
use Rattle.machine.specs.Calls.{root_call, fix_call, word_call, write_call}
use Rattle.cases.specs.Rows.{empty, resident, names, swizzled_to, nothing, page, machine, handle_of, numbers, Case, is, all_hold}

-- what a word names: 0 and a page number, or 1 and a frame index
abbrev reading : ℕ → List ℕ
reading w = let n = name_of w in pick (is_number n) (0 ∷ n ∷ []) (1 ∷ frame_in n ∷ [])

-- an answer with the hand after it
abbrev with_hand_after : Out → List ℕ
with_hand_after o = numbers o.answer ++ (o.left.pool.hand.0 ∷ [])

-- ---- the machines that the cases speak of

-- two frames over one page, the root pinned so often
abbrev small : ℕ → State
small pins = machine 0 ((resident 0 pins 0, page [] 0) ∷ (empty, page [] 0) ∷ []) (page [] 0 ∷ [])

-- two frames over eight pages, page 7 in frame 1 by the root's slot 6
abbrev seven_in_one : State
seven_in_one = machine 0 ((resident 0 1 0, page (replicate 6 nothing ++ (swizzled_to 1 ∷ [])) 0) ∷ (resident 7 0 0, page [] 0) ∷ []) (replicate 8 (page [] 0))

-- four frames, full, over eight pages: pages 1 to 3 in frames 1 to 3 by the root's slots 0 to 2, page 4 not resident in its slot 3
abbrev full : ℕ → FrameRecord → FrameRecord → FrameRecord → State
full hand a b c =
    machine hand ((resident 0 1 0, page (swizzled_to 1 ∷ swizzled_to 2 ∷ swizzled_to 3 ∷ names 4 ∷ []) 0) ∷ (a, page [] 0) ∷ (b, page [] 0) ∷ (c, page [] 0) ∷ [])
    (replicate 8 (page [] 0))

abbrev root_handle : Handle
root_handle = handle_of 0 0

-- ---- the table: what the definitions give, and what document 01 says

pub table : List Case
table =
    -- "Bytes 03 00 00 80 (hexadecimal) name frame 3." "Bytes 07 00 00 00 name page 7."
    is (reading (word_at (3 ∷ 0 ∷ 0 ∷ 0x80 ∷ []) 0)) (1 ∷ 3 ∷ [])
    ∷ is (reading (word_at (7 ∷ 0 ∷ 0 ∷ 0 ∷ []) 0)) (0 ∷ 7 ∷ [])
    -- "Word 0x80000001, frame 1 holding page 7: the image's word is 0x00000007."
    ∷ is (slot seven_in_one.frames 0 6 ∷ slot (image_of seven_in_one.pool.records seven_in_one.frames 0) 0 6 ∷ numbers (word_call seven_in_one root_handle 6).answer) (0x80000001 ∷ 7 ∷ 0 ∷ 7 ∷ 0 ∷ [])
    -- "Write at 192, length 0: accepted. At 191, length 1: accepted. At 192, length 1: 5."
    ∷ is (numbers (write_call (small 1) root_handle 192 []).answer) (0 ∷ [])
    ∷ is (numbers (write_call (small 1) root_handle 191 (0 ∷ [])).answer) (0 ∷ [])
    ∷ is (numbers (write_call (small 1) root_handle 192 (0 ∷ [])).answer) (5 ∷ [])
    -- "Slot 15 passes, 16 gives 4."
    ∷ is (numbers (word_call (small 1) root_handle 15).answer ++ numbers (word_call (small 1) root_handle 16).answer) (0 ∷ 0 ∷ 0 ∷ 4 ∷ [])
    -- "Pins 65,534 can rise, 65,535 give 13."
    ∷ is (numbers (root_call (small 65534) 0).answer ++ numbers (root_call (small 65535) 0).answer) (0 ∷ 0 ∷ 0 ∷ 0 ∷ 0 ∷ 13 ∷ [])
    -- "F 4, full, hand 0, frames 1 to 3 open to eviction with heats 1, 0, 2: frame 2 goes after 3 looks; hand 3." "The same from hand 3: frame 2 after 4 looks; hand 3."
    ∷ is (with_hand_after (fix_call (full 0 (resident 1 0 1) (resident 2 0 0) (resident 3 0 2)) root_handle 3)) (0 ∷ 2 ∷ 0 ∷ 4 ∷ 3 ∷ 3 ∷ [])
    ∷ is (with_hand_after (fix_call (full 3 (resident 1 0 1) (resident 2 0 0) (resident 3 0 2)) root_handle 3)) (0 ∷ 2 ∷ 0 ∷ 4 ∷ 4 ∷ 3 ∷ [])
    -- "F 4, full, hand 0, only frame 3 open, heat 3: 16 looks; hand 0."
    ∷ is (with_hand_after (fix_call (full 0 (resident 1 1 0) (resident 2 1 0) (resident 3 0 3)) root_handle 3)) (0 ∷ 3 ∷ 0 ∷ 4 ∷ 16 ∷ 0 ∷ [])
    ∷ []

pub bench-cases : all_hold table ≡ true
unfolding table all_hold
bench-cases = refl
