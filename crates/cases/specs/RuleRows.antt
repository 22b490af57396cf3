-- "Numbered denials": for rules that a call can break in several ways, each way.
use Rattle.std.specs.Prelude.{◌≡◌, refl, true, false, List, [], ◌∷◌, ℕ, replicate}
use Rattle.machine.specs.Machine.{State, page_number}
use Rattle.machine.specs.Answers.{done}
use Rattle.machine.specs.Calls.{root_call, fix_call, unfix_call, write_call, link_call, unlink_call, find_call}
use Rattle.cases.specs.Rows.{empty, resident, changed, names, swizzled_to, nothing, page, machine, machine_of, handle_at, handle_of, Case, leaves, refuses, all_hold}

-- three frames over five pages: page 1 in frame 1 by the root's slot 0 and page 2 not resident in its slot 1; page 1's pins and first words, the stored pages 0 and 2
abbrev three : ℕ → List (List ℕ) → List (List ℕ) → List (List ℕ) → State
three pins words first second =
    machine 0 ((resident 0 1 0, page (swizzled_to 1 ∷ names 2 ∷ []) 10) ∷ (resident 1 pins 0, page words 11) ∷ (empty, page [] 12) ∷ [])
    (page first 20 ∷ page [] 21 ∷ page second 22 ∷ page [] 23 ∷ page [] 24 ∷ [])

-- the same frames under a ceiling of 2, page 1 pinned
abbrev ceiled : State
ceiled = machine_of (2 ∷ []) 0 ((resident 0 1 0, page (swizzled_to 1 ∷ names 2 ∷ []) 10) ∷ (resident 1 1 0, page [] 11) ∷ (empty, page [] 12) ∷ []) (replicate 5 (page [] 20))

-- one frame, and no page
abbrev one_frame : State
one_frame = machine 0 ((resident 0 0 0, page [] 10) ∷ []) (page [] 20 ∷ [])

abbrev no_page : State
no_page = machine 0 ((resident 0 0 0, page [] 10) ∷ (empty, page [] 11) ∷ []) []

pub rule_table : List Case
rule_table =
    -- "F from 2 to 64", "N is 1 to 4,096"
    refuses (λ s. root_call s 0) one_frame 1
    ∷ refuses (λ s. root_call s 0) no_page 1
    -- request A.11, 28: "the store number isn't below T", which is 1 here. More of it stands in StoreRows.
    ∷ refuses (λ s. root_call s 1) (three 1 [] [] []) 28
    ∷ refuses (λ s. unfix_call s (handle_at 1 1 1)) (three 1 [] [] []) 28
    ∷ refuses (λ s. find_call s 255 (page_number 1)) (three 1 [] [] []) 28
    -- 3. "The handle's frame index isn't below F, that frame doesn't hold its page, or its pins are 0."
    ∷ refuses (λ s. unfix_call s (handle_of 64 0)) (three 1 [] [] []) 3
    ∷ refuses (λ s. unfix_call s (handle_of 2 0)) (three 1 [] [] []) 3
    ∷ refuses (λ s. unfix_call s (handle_of 1 2)) (three 1 [] [] []) 3
    ∷ refuses (λ s. unfix_call s (handle_of 1 1)) (three 0 [] [] []) 3
    -- 5. "The offset is above 192 or the length above 192 − offset."
    ∷ refuses (λ s. write_call s (handle_of 1 1) 193 []) (three 1 [] [] []) 5
    ∷ refuses (λ s. write_call s (handle_of 1 1) 1 (replicate 192 7)) (three 1 [] [] []) 5
    -- 7, 10. "Fix or unlink meets a word of 0." "Unlink's page is resident."
    ∷ refuses (λ s. fix_call s (handle_of 1 1) 3) (three 1 [] [] []) 7
    ∷ refuses (λ s. unlink_call s (handle_of 1 1) 3) (three 1 [] [] []) 7
    ∷ refuses (λ s. unlink_call s (handle_of 0 0) 0) (three 1 [] [] []) 10
    -- request A.11, 27: "a store at its ceiling has no page of its own that a sweep could take", though a frame is empty. More of it, and 15, which one store never gives, stand in CeilingRows.
    ∷ refuses (λ s. fix_call s (handle_of 0 0) 1) ceiled 27
    ∷ []

pub naming : List Case
naming =
    -- 8. "Link meets a word that isn't 0." With 9 before it (request A.9), for a page that isn't named.
    refuses (λ s. link_call s (handle_of 0 0) 0 (page_number 3) false) (three 1 [] [] []) 8
    ∷ refuses (λ s. link_call s (handle_of 0 0) 1 (page_number 3) false) (three 1 [] (names 3 ∷ []) []) 8
    -- 9. "Link's page is already named by a word of any page, resident pages taken by their images and the others from the store."
    ∷ refuses (λ s. link_call s (handle_of 1 1) 0 (page_number 1) false) (three 1 [] [] []) 9
    ∷ refuses (λ s. link_call s (handle_of 1 1) 0 (page_number 2) false) (three 1 [] [] []) 9
    ∷ refuses (λ s. link_call s (handle_of 1 1) 0 (page_number 3) false) (three 1 [] [] (names 3 ∷ [])) 9
    ∷ leaves (link_call (three 1 [] (names 3 ∷ []) []) (handle_of 0 0) 2 (page_number 3) false) done
    (machine 0 ((changed 0 1 0, page (swizzled_to 1 ∷ names 2 ∷ names 3 ∷ []) 10) ∷ (resident 1 1 0, page [] 11) ∷ (empty, page [] 12) ∷ [])
    (page (names 3 ∷ []) 20 ∷ page [] 21 ∷ page [] 22 ∷ page [] 23 ∷ page [] 24 ∷ []))
    -- 14. "The stored page to be loaded has a word with bit 31 set, not below N, repeated within it, or naming a page that a resident page already names."
    ∷ refuses (λ s. fix_call s (handle_of 0 0) 1) (three 1 [] [] (swizzled_to 1 ∷ [])) 14
    ∷ refuses (λ s. fix_call s (handle_of 0 0) 1) (three 1 [] [] (names 5 ∷ [])) 14
    ∷ refuses (λ s. fix_call s (handle_of 0 0) 1) (three 1 [] [] (names 3 ∷ nothing ∷ names 3 ∷ [])) 14
    ∷ refuses (λ s. fix_call s (handle_of 0 0) 1) (three 1 (names 3 ∷ []) [] (names 3 ∷ [])) 14
    ∷ refuses (λ s. fix_call s (handle_of 0 0) 1) (three 1 [] [] (names 1 ∷ [])) 14
    ∷ []

pub rule-rows : all_hold rule_table ≡ true
unfolding rule_table all_hold
rule-rows = refl

pub naming-rows : all_hold naming ≡ true
unfolding naming all_hold
naming-rows = refl
