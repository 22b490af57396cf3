-- Evict: records, hand, bytes and store.
use Rattle.std.specs.Prelude.{◌≡◌, refl, true, List, [], ◌∷◌, ◌++◌, ℕ, replicate}
use Rattle.machine.specs.declared.FrameRecord.{FrameRecord}
use Rattle.machine.specs.Machine.{State, page_number}
use Rattle.machine.specs.Answers.{done}
use Rattle.machine.specs.Calls.{evict_call}
use Rattle.cases.specs.Rows.{empty, child, resident, changed, names, swizzled_to, nothing, page, machine, Case, leaves, refuses, all_hold}

-- two frames, page 2 in frame 1 by the root's slot 1: the hand, the root's word, page 2's record, and the stored page 2
abbrev two : ℕ → List ℕ → FrameRecord → List ℕ → State
two hand word r stored = machine hand ((resident 0 1 2, page (nothing ∷ word ∷ []) 10) ∷ (r, page (names 1 ∷ []) 12) ∷ []) (page (nothing ∷ names 2 ∷ []) 20 ∷ page [] 21 ∷ stored ∷ [])

-- two frames, the root alone, with so many pins
abbrev alone : ℕ → State
alone pins = machine 0 ((resident 0 pins 0, page (nothing ∷ names 2 ∷ []) 10) ∷ (empty, page [] 11) ∷ []) (page [] 20 ∷ page [] 21 ∷ page [] 22 ∷ [])

-- three frames: the root, page 1 in frame 1 by its slot 0, and page 2 in frame 2 by slot k of page 1. The pins of the root and page 1, those of page 2, and k.
abbrev family : ℕ → ℕ → ℕ → State
family pins leaf_pins k =
    machine 0 ((resident 0 pins 0, page (swizzled_to 1 ∷ []) 10) ∷ (resident 1 pins 0, page (replicate k nothing ++ (swizzled_to 2 ∷ [])) 11) ∷ (child 1 k 2 leaf_pins 0, page [] 12) ∷ [])
    (page [] 20 ∷ page [] 21 ∷ page [] 22 ∷ [])

pub evict_table : List Case
evict_table =
    -- "A dirty page's image goes to the store; the parent's word becomes the page number without dirtying the parent; the frame is empty, its bytes kept, and the hand stays."
    leaves (evict_call (two 1 (swizzled_to 1) (changed 2 0 3) (page [] 22)) 0 (page_number 2)) done (two 1 (names 2) empty (page (names 1 ∷ []) 12))
    -- a clean page isn't written
    ∷ leaves (evict_call (two 0 (swizzled_to 1) (resident 2 0 3) (page [] 22)) 0 (page_number 2)) done (two 0 (names 2) empty (page [] 22))
    -- "Evict's page isn't resident."
    ∷ refuses (λ s. evict_call s 0 (page_number 1)) (two 1 (swizzled_to 1) (resident 2 0 3) (page [] 22)) 11
    -- request A.4: "20: the root", with a swizzled word or none; "21: pinned"; "22: a swizzled word", its first or its last
    ∷ refuses (λ s. evict_call s 0 (page_number 0)) (family 0 0 0) 20
    ∷ refuses (λ s. evict_call s 0 (page_number 0)) (alone 0) 20
    ∷ refuses (λ s. evict_call s 0 (page_number 2)) (family 0 1 0) 21
    ∷ refuses (λ s. evict_call s 0 (page_number 1)) (family 0 0 0) 22
    ∷ refuses (λ s. evict_call s 0 (page_number 1)) (family 0 0 15) 22
    -- "in this order": the root is pinned, with a swizzled word or none; a page with a swizzled word is pinned
    ∷ refuses (λ s. evict_call s 0 (page_number 0)) (family 1 0 0) 20
    ∷ refuses (λ s. evict_call s 0 (page_number 0)) (alone 1) 20
    ∷ refuses (λ s. evict_call s 0 (page_number 1)) (family 1 0 0) 21
    ∷ refuses (λ s. evict_call s 0 (page_number 1)) (family 65535 1 15) 21
    ∷ []

pub evict-rows : all_hold evict_table ≡ true
unfolding evict_table all_hold
evict-rows = refl
