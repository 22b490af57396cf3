-- A page that is loaded into an empty frame.
use Rattle.std.specs.Prelude.{◌≡◌, refl, true, List, [], ◌∷◌, ℕ}
use Rattle.machine.specs.declared.FrameRecord.{FrameRecord}
use Rattle.machine.specs.Machine.{State}
use Rattle.machine.specs.Answers.{handle}
use Rattle.machine.specs.Calls.{fix_call}
use Rattle.cases.specs.Rows.{empty, child, resident, names, swizzled_to, nothing, page, machine, handle_of, Case, leaves, all_hold}

-- four frames, the hand at 2, page 2 in frame 2: the root's and page 2's words, and what is in frames 1 and 3
abbrev four : List (List ℕ) → List (List ℕ) → FrameRecord × List ℕ → FrameRecord × List ℕ → State
four root_words words one three =
    machine 2 ((resident 0 1 2, page root_words 10) ∷ one ∷ (resident 2 1 0, page words 12) ∷ three ∷ [])
    (page (names 1 ∷ names 2 ∷ []) 20 ∷ page (names 3 ∷ []) 21 ∷ page [] 22 ∷ page [] 23 ∷ [])

pub load_table : List Case
load_table =
    -- "With an empty frame, loading uses the first empty one at or after the hand, going round, and the hand stays." "The page is loaded with pins 1, heat 1, clean, its parent recorded and the parent's word swizzled." No look, so no warming: page 2 is pinned, and keeps 0.
    leaves (fix_call (four (names 1 ∷ swizzled_to 2 ∷ []) [] (empty, page (swizzled_to 3 ∷ []) 61) (empty, page [] 63)) (handle_of 0 0) 0) (handle 3 0 1 0)
    (four (swizzled_to 3 ∷ swizzled_to 2 ∷ []) [] (empty, page (swizzled_to 3 ∷ []) 61) (resident 1 1 1, page (names 3 ∷ []) 21))
    -- going round; the parent is page 2, by its slot 1
    ∷ leaves (fix_call (four (swizzled_to 3 ∷ swizzled_to 2 ∷ []) (nothing ∷ names 3 ∷ []) (empty, page [] 61) (resident 1 0 1, page [] 13)) (handle_of 2 2) 1) (handle 1 0 3 0)
    (four (swizzled_to 3 ∷ swizzled_to 2 ∷ []) (nothing ∷ swizzled_to 1 ∷ []) (child 2 1 3 1 1, page [] 23) (resident 1 0 1, page [] 13))
    ∷ []

pub load-rows : all_hold load_table ≡ true
unfolding load_table all_hold
load-rows = refl
