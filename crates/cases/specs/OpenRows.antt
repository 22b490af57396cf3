-- Open: what it leaves, accepted and refused.
use Rattle.std.specs.Prelude.{◌≡◌, refl, true, List, [], ◌∷◌, ℕ}
use Rattle.machine.specs.Answers.{refused, done}
use Rattle.cases.specs.Rows.{strewn, joined, empty, resident, names, swizzled_to, page, machine, zeroed, open_one, Case, leaves, all_hold}

-- two frames as the host left them
abbrev bytes : List ℕ
bytes = joined (page [] 8 ∷ page (swizzled_to 9 ∷ []) 9 ∷ [])

abbrev three : List ℕ → List (List ℕ)
three root = root ∷ page [] 2 ∷ page [] 3 ∷ []

-- refused by n: all-zero records beside the buffers as they were
abbrev unopened : List ℕ → List (List ℕ) → ℕ → Case
unopened fs store n = leaves (open_one fs (joined store) (strewn 131)) (refused n) (zeroed fs (joined store) (strewn 131))

pub open_table : List Case
open_table =
    -- "Open copies page 0 to frame 0 with pins 0, heat 0, clean; all other frames are empty, their bytes kept; the hand is 0."
    leaves (open_one bytes (joined (three (page (names 2 ∷ []) 1))) (strewn 131)) done
    (machine 0 ((resident 0 0 0, page (names 2 ∷ []) 1) ∷ (empty, page (swizzled_to 9 ∷ []) 9) ∷ []) (three (page (names 2 ∷ []) 1)))
    -- "Pages out of the root's reach may name each other."
    ∷ leaves (open_one bytes (joined (page [] 1 ∷ page (names 2 ∷ []) 2 ∷ page (names 1 ∷ []) 3 ∷ [])) (strewn 131)) done
    (machine 0 ((resident 0 0 0, page [] 1) ∷ (empty, page (swizzled_to 9 ∷ []) 9) ∷ []) (page [] 1 ∷ page (names 2 ∷ []) 2 ∷ page (names 1 ∷ []) 3 ∷ []))
    -- "Refused, it hands back all-zero records." The store isn't sound: a number in two words, a number that isn't below N, a frame index. Frames are a byte too long.
    ∷ unopened bytes (three (page (names 2 ∷ names 2 ∷ []) 1)) 16
    ∷ unopened bytes (three (page (names 3 ∷ []) 1)) 16
    ∷ unopened bytes (three (page (swizzled_to 1 ∷ []) 1)) 16
    ∷ unopened (0 ∷ bytes) (three (page [] 1)) 1
    ∷ []

pub open-rows : all_hold open_table ≡ true
unfolding open_table all_hold
open-rows = refl
