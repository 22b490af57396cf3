-- Answers in code, and what show, peek, word and find give.
use Rattle.std.specs.Prelude.{◌≡◌, refl, true, false, List, [], ◌∷◌, replicate, Some, None, Ok, Err}
use Rattle.rules.specs.declared.refusal.Refusal.TheVariants.{AlreadyNamed, BadHandle, BadPage, BadSlot, NoFrame}
use Rattle.machine.specs.Machine.{State, frame_index, page_number}
use Rattle.machine.specs.Answers.{Answer, refused, done, handle, payload, in_frames, in_store, number, frame, nowhere, done_answer, fix_answer, word_answer, find_answer, payload_answer, Shown, handed_back}
use Rattle.machine.specs.Calls.{show_call, peek_call, word_call, find_call}
use Rattle.cases.specs.Rows.{empty, resident, names, swizzled_to, page, machine, handle_at, handle_of, Case, answers, leaves, refuses, hands, all_hold}

-- page 1 in frame 1 by the root's slot 0, page 2 not resident, named by the root's slot 1
abbrev two : State
two = machine 1 ((resident 0 1 2, page (swizzled_to 1 ∷ names 2 ∷ []) 10) ∷ (resident 1 1 1, page [] 11) ∷ []) (page (names 1 ∷ []) 20 ∷ page [] 21 ∷ page [] 22 ∷ [])

-- page 1 in frame 2, an empty frame before it and one after it
abbrev gaps : State
gaps =
    machine 1
    ((resident 0 0 0, page (swizzled_to 2 ∷ names 2 ∷ []) 10) ∷ (empty, page [] 11) ∷ (resident 1 0 0, page [] 12) ∷ (empty, page [] 13) ∷ [])
    (page (names 1 ∷ []) 20 ∷ page [] 21 ∷ page [] 22 ∷ [])

-- what is handed back where frames and store are lent at byte 1,000 of block 5 and at byte 2,000 of block 6
abbrev handed : Answer → Shown
handed a = handed_back (record { at = (5, 1000); bytes = two.frames }) (record { at = (6, 2000); bytes = two.store }) a

pub answer_table : List Case
answer_table =
    -- "Where an answer is an enum, a definition gives this paper's number and values for each of its cases."
    answers (fix_answer (Ok (record { handle = handle_at 3 2 4; looks = 16 }))) (handle 3 2 4 16)
    ∷ answers (fix_answer (Err NoFrame)) (refused 15)
    ∷ answers (word_answer (Ok (record { page = page_number 7; locked = false }))) (number 7 false)
    ∷ answers (word_answer (Ok (record { page = page_number 7; locked = true }))) (number 7 true)
    ∷ answers (word_answer (Err BadSlot)) (refused 4)
    ∷ answers (find_answer (Ok (record { frame = Some (frame_index 3); compared = 9 }))) (frame 3 9)
    ∷ answers (find_answer (Ok (record { frame = None; compared = 8 }))) (nowhere 8)
    ∷ answers (find_answer (Err BadPage)) (refused 6)
    ∷ answers (done_answer (Ok tt)) done
    ∷ answers (done_answer (Err AlreadyNamed)) (refused 9)
    ∷ answers (payload_answer (Ok (record { in_store = false; start = 320; size = 192 }))) (payload in_frames 320 192)
    ∷ answers (payload_answer (Ok (record { in_store = true; start = 576; size = 192 }))) (payload in_store 576 192)
    ∷ answers (payload_answer (Err BadHandle)) (refused 3)
    -- "Show hands back a handle's payload." "Peek, by page number, hands back the payload from the frame if resident, otherwise from the store." "Both put their number, 0 if accepted, into a number the caller lends."
    ∷ hands (handed (show_call two (handle_of 1 1)).answer) (5, 1320) (replicate 192 11) 0
    ∷ hands (handed (peek_call two 0 (page_number 1)).answer) (5, 1320) (replicate 192 11) 0
    ∷ hands (handed (peek_call two 0 (page_number 2)).answer) (6, 2576) (replicate 192 22) 0
    -- "A refused show or peek gives the empty part at the start of the frames."
    ∷ hands (handed (show_call two (handle_of 1 2)).answer) (5, 1000) [] 3
    ∷ hands (handed (peek_call two 0 (page_number 3)).answer) (5, 1000) [] 6
    -- "Word gives the page number in a slot, swizzled or not." "Find, by page number, gives the frame or 'absent'." They change nothing.
    ∷ leaves (word_call two (handle_of 0 0) 0) (number 1 false) two
    ∷ leaves (word_call two (handle_of 0 0) 1) (number 2 false) two
    ∷ leaves (word_call two (handle_of 0 0) 2) (number 0 false) two
    -- request A.3: "the entries compared: the place of the page's entry in its chain, from 1, or the chain's length if absent", whatever frames are empty. More of it stands in DirectoryRows.
    ∷ leaves (find_call two 0 (page_number 0)) (frame 0 1) two
    ∷ leaves (find_call two 0 (page_number 1)) (frame 1 1) two
    ∷ leaves (find_call two 0 (page_number 2)) (nowhere 0) two
    ∷ leaves (find_call gaps 0 (page_number 1)) (frame 2 1) gaps
    ∷ leaves (find_call gaps 0 (page_number 2)) (nowhere 0) gaps
    -- "A refused call answers its number alone."
    ∷ refuses (λ s. find_call s 0 (page_number 3)) gaps 6
    ∷ []

pub answer-rows : all_hold answer_table ≡ true
unfolding answer_table all_hold
answer-rows = refl
