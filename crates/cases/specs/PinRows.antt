-- Pins and usage counts (heat): root, fix of a resident page, and unfix.
use Rattle.std.specs.Prelude.{◌≡◌, refl, true, List, [], ◌∷◌, ℕ}
use Rattle.machine.specs.declared.FrameRecord.{FrameRecord}
use Rattle.machine.specs.Machine.{State}
use Rattle.machine.specs.Answers.{done, handle}
use Rattle.machine.specs.Calls.{root_call, fix_call, unfix_call}
use Rattle.cases.specs.Rows.{empty, resident, changed, swizzled_to, page, machine, handle_of, Case, leaves, all_hold}

-- the root alone, with its pins and usage count
abbrev alone : ℕ → ℕ → State
alone pins usage = machine 1 ((resident 0 pins usage, page [] 1) ∷ (empty, page [] 2) ∷ []) (page [] 3 ∷ [])

-- page 1 in frame 1 by the root's slot 0, with this record
abbrev with_one : FrameRecord → State
with_one r = machine 1 ((resident 0 1 2, page (swizzled_to 1 ∷ []) 1) ∷ (r, page [] 2) ∷ []) (page [] 3 ∷ page [] 4 ∷ [])

pub pin_table : List Case
pin_table =
    -- "Root pins page 0." "A resident page gains one pin and one heat (heat stops at 3)." "The answer is the handle and the looks of the sweep, 0 if none."
    leaves (root_call (alone 0 0) 0) (handle 0 0 0 0) (alone 1 1)
    ∷ leaves (root_call (alone 1 1) 0) (handle 0 0 0 0) (alone 2 2)
    ∷ leaves (root_call (alone 5 3) 0) (handle 0 0 0 0) (alone 6 3)
    -- "Fix pins the page named by a slot of a handle's page."
    ∷ leaves (fix_call (with_one (resident 1 0 0)) (handle_of 0 0) 0) (handle 1 0 1 0) (with_one (resident 1 1 1))
    ∷ leaves (fix_call (with_one (changed 1 2 2)) (handle_of 0 0) 0) (handle 1 0 1 0) (with_one (changed 1 3 3))
    ∷ leaves (fix_call (with_one (resident 1 2 3)) (handle_of 0 0) 0) (handle 1 0 1 0) (with_one (resident 1 3 3))
    -- "Unfix takes one pin off."
    ∷ leaves (unfix_call (alone 2 3) (handle_of 0 0)) done (alone 1 3)
    ∷ leaves (unfix_call (with_one (changed 1 1 2)) (handle_of 1 1)) done (with_one (changed 1 0 2))
    ∷ []

pub pin-rows : all_hold pin_table ≡ true
unfolding pin_table all_hold
pin-rows = refl
