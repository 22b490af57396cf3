-- Settle: images in the store, records clean.
use Rattle.std.specs.Prelude.{◌≡◌, refl, true, List, [], ◌∷◌, ℕ}
use Rattle.machine.specs.declared.FrameRecord.{FrameRecord}
use Rattle.machine.specs.Machine.{State}
use Rattle.machine.specs.Answers.{done}
use Rattle.machine.specs.Calls.{settle_call}
use Rattle.cases.specs.Rows.{resident, changed, names, swizzled_to, page, machine, Case, leaves, all_hold}

-- pages 0, 1 and 2 in frames 0, 1 and 2, the hand at 2
abbrev of_three : FrameRecord → FrameRecord → FrameRecord → List (List ℕ) → State
of_three a b c store = machine 2 ((a, page (swizzled_to 1 ∷ swizzled_to 2 ∷ []) 10) ∷ (b, page [] 11) ∷ (c, page (names 3 ∷ []) 12) ∷ []) store

pub settle_table : List Case
settle_table =
    -- "Settle writes the image of each dirty page and marks it clean." "The image of a resident page is its bytes with each swizzled word replaced by the number of the page in that frame."
    leaves (settle_call (of_three (changed 0 1 3) (resident 1 0 1) (changed 2 2 0) (page [] 20 ∷ page [] 21 ∷ page [] 22 ∷ page [] 23 ∷ []))) done
    (of_three (resident 0 1 3) (resident 1 0 1) (resident 2 2 0) (page (names 1 ∷ names 2 ∷ []) 10 ∷ page [] 21 ∷ page (names 3 ∷ []) 12 ∷ page [] 23 ∷ []))
    ∷ []

pub settle-rows : all_hold settle_table ≡ true
unfolding settle_table all_hold
settle-rows = refl
