-- A load by a sweep: every record, the hand, both buffers and the looks after it.
use Rattle.std.specs.Prelude.{◌≡◌, refl, true, List, [], ◌∷◌}
use Rattle.machine.specs.Answers.{handle}
use Rattle.machine.specs.Calls.{fix_call, unfix_call}
use Rattle.cases.specs.Rows.{child, resident, changed, names, swizzled_to, nothing, page, machine, handle_of, Case, leaves, refuses, all_hold}

pub sweep_table : List Case
sweep_table =
    -- "The root, a pinned page and a page with a swizzled word are passed over. Any other with heat above 0 loses 1. One with heat 0 is evicted and its frame used. The hand moves on by one after every look, the last included, from F − 1 to 0."
    -- Request A.5: "to 3 at most": page 1 is looked at twice and goes from 2 to 3; the root, pinned, keeps 1. "Pages passed over for children alone keep their heat.": page 2, looked at twice, keeps 1.
    leaves
    (fix_call
    (machine 1
    ((resident 0 1 1, page (swizzled_to 1 ∷ swizzled_to 2 ∷ nothing ∷ names 4 ∷ []) 10) ∷ (resident 1 1 2, page [] 11) ∷ (resident 2 0 1, page (swizzled_to 3 ∷ []) 12) ∷ (child 2 0 3 0 1, page [] 13) ∷ [])
    (page [] 20 ∷ page [] 21 ∷ page [] 22 ∷ page [] 23 ∷ page [] 24 ∷ []))
    (handle_of 0 0) 3)
    (handle 3 0 4 7)
    (machine 0
    ((resident 0 1 1, page (swizzled_to 1 ∷ swizzled_to 2 ∷ nothing ∷ swizzled_to 3 ∷ []) 10) ∷ (resident 1 1 3, page [] 11) ∷ (resident 2 0 1, page (names 3 ∷ []) 12) ∷ (resident 4 1 1, page [] 24) ∷ [])
    (page [] 20 ∷ page [] 21 ∷ page [] 22 ∷ page [] 23 ∷ page [] 24 ∷ []))
    -- "Each look of a sweep .. raises its heat by one": the last round is cut short, so that page 1 is looked at twice and page 3 once. Page 1 is a pinned parent, and the one whose child is loaded.
    ∷ leaves
    (fix_call
    (machine 1
    ((resident 0 0 0, page (swizzled_to 1 ∷ swizzled_to 2 ∷ []) 10) ∷ (resident 1 1 0, page (swizzled_to 3 ∷ names 4 ∷ []) 11) ∷ (resident 2 0 1, page [] 12) ∷ (child 1 0 3 2 0, page [] 13) ∷ [])
    (page [] 20 ∷ page [] 21 ∷ page [] 22 ∷ page [] 23 ∷ page [] 24 ∷ []))
    (handle_of 1 1) 1)
    (handle 2 0 4 6)
    (machine 3
    ((resident 0 0 0, page (swizzled_to 1 ∷ names 2 ∷ []) 10) ∷ (resident 1 1 2, page (swizzled_to 3 ∷ swizzled_to 2 ∷ []) 11) ∷ (child 1 1 4 1 1, page [] 24) ∷ (child 1 0 3 2 1, page [] 13) ∷ [])
    (page [] 20 ∷ page [] 21 ∷ page [] 22 ∷ page [] 23 ∷ page [] 24 ∷ []))
    -- ".. and it goes cold on release.": page 1, held over a sweep and released, outlives page 3; document 01's sweep takes page 1, at the fifth look
    ∷ leaves
    (fix_call
    (unfix_call
    (unfix_call
    (fix_call
    (machine 1
    ((resident 0 1 0, page (swizzled_to 1 ∷ swizzled_to 2 ∷ names 3 ∷ names 4 ∷ []) 10) ∷ (resident 1 1 1, page [] 11) ∷ (resident 2 0 1, page [] 12) ∷ [])
    (page [] 20 ∷ page [] 21 ∷ page [] 22 ∷ page [] 23 ∷ page [] 24 ∷ []))
    (handle_of 0 0) 2).left
    (handle_of 2 3)).left
    (handle_of 1 1)).left
    (handle_of 0 0) 3)
    (handle 2 0 4 6)
    (machine 0
    ((resident 0 1 0, page (swizzled_to 1 ∷ names 2 ∷ names 3 ∷ swizzled_to 2 ∷ []) 10) ∷ (resident 1 0 1, page [] 11) ∷ (resident 4 1 1, page [] 24) ∷ [])
    (page [] 20 ∷ page [] 21 ∷ page [] 22 ∷ page [] 23 ∷ page [] 24 ∷ []))
    -- a page that loses 1 keeps the rest of its record; a dirty victim's image goes to the store
    ∷ leaves
    (fix_call
    (machine 1 ((resident 0 1 0, page (swizzled_to 1 ∷ swizzled_to 2 ∷ names 3 ∷ []) 10) ∷ (changed 1 0 2, page [] 11) ∷ (changed 2 0 0, page (names 4 ∷ []) 12) ∷ [])
    (page [] 20 ∷ page [] 21 ∷ page [] 22 ∷ page [] 23 ∷ page [] 24 ∷ []))
    (handle_of 0 0) 2)
    (handle 2 0 3 2)
    (machine 0 ((resident 0 1 0, page (swizzled_to 1 ∷ names 2 ∷ swizzled_to 2 ∷ []) 10) ∷ (changed 1 0 1, page [] 11) ∷ (resident 3 1 1, page [] 23) ∷ [])
    (page [] 20 ∷ page [] 21 ∷ page (names 4 ∷ []) 12 ∷ page [] 23 ∷ page [] 24 ∷ []))
    -- "No frame is empty and a sweep could take none.", and the pinned page keeps its heat: "Nothing else changes." Request A.11: "15 is for a store below its ceiling". A full pool of one store is at its ceiling, so its denied load is 27 and never 15.
    ∷ refuses (λ s. fix_call s (handle_of 0 0) 1)
    (machine 1 ((resident 0 1 3, page (swizzled_to 1 ∷ names 2 ∷ []) 10) ∷ (resident 1 1 2, page [] 11) ∷ []) (page [] 20 ∷ page [] 21 ∷ page [] 22 ∷ []))
    27
    ∷ []

pub sweep-rows : all_hold sweep_table ≡ true
unfolding sweep_table all_hold
sweep-rows = refl
