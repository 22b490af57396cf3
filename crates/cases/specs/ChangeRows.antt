-- Write, link and unlink: records and bytes.
use Rattle.std.specs.Prelude.{◌≡◌, refl, true, false, List, [], ◌∷◌, ◌++◌, ℕ, replicate}
use Rattle.machine.specs.declared.FrameRecord.{FrameRecord}
use Rattle.machine.specs.Machine.{State, page_number}
use Rattle.machine.specs.Answers.{done}
use Rattle.machine.specs.Calls.{write_call, link_call, unlink_call}
use Rattle.cases.specs.Rows.{resident, changed, names, swizzled_to, nothing, page, machine, handle_of, Case, leaves, all_hold}

-- page 1 in frame 1 by the root's slot 0, with this record and these bytes; the hand at 1
abbrev with_one : FrameRecord → List ℕ → State
with_one r bytes = machine 1 ((resident 0 0 2, page (swizzled_to 1 ∷ []) 10) ∷ (r, bytes) ∷ []) (page (names 1 ∷ []) 20 ∷ page [] 21 ∷ page [] 22 ∷ [])

pub change_table : List Case
change_table =
    -- "Write puts given bytes at a payload offset." "Dirty, unless the length is 0."
    leaves (write_call (with_one (resident 1 2 1) (page [] 11)) (handle_of 1 1) 5 []) done (with_one (resident 1 2 1) (page [] 11))
    ∷ leaves (write_call (with_one (changed 1 2 1) (page [] 11)) (handle_of 1 1) 192 []) done (with_one (changed 1 2 1) (page [] 11))
    ∷ leaves (write_call (with_one (resident 1 2 1) (page [] 11)) (handle_of 1 1) 0 (7 ∷ [])) done (with_one (changed 1 2 1) (replicate 64 0 ++ (7 ∷ []) ++ replicate 191 11))
    ∷ leaves (write_call (with_one (resident 1 2 1) (page [] 11)) (handle_of 1 1) 5 (7 ∷ 8 ∷ [])) done (with_one (changed 1 2 1) (replicate 64 0 ++ replicate 5 11 ++ (7 ∷ 8 ∷ []) ++ replicate 185 11))
    -- "Link stores an unswizzled page number in an empty slot; unlink clears one. Both set dirty."
    ∷ leaves (link_call (with_one (resident 1 1 3) (page [] 11)) (handle_of 1 1) 2 (page_number 2) false) done (with_one (changed 1 1 3) (page (nothing ∷ nothing ∷ names 2 ∷ []) 11))
    ∷ leaves (unlink_call (with_one (resident 1 1 3) (page (nothing ∷ nothing ∷ names 2 ∷ []) 11)) (handle_of 1 1) 2) done (with_one (changed 1 1 3) (page [] 11))
    ∷ []

pub change-rows : all_hold change_table ≡ true
unfolding change_table all_hold
change-rows = refl
