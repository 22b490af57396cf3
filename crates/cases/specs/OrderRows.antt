-- "Numbered denials, in checking order", but that link tests 9 before 8 (request A.9): where one input breaks two rules of a call, the first is answered, and nothing changes. 20 to 22 of evict stand in EvictRows, 26 in LockRows (request A.8); 28 stands after 2, and 27 beside 15 (request A.11).
use Rattle.std.specs.Prelude.{◌≡◌, refl, true, false, List, [], ◌∷◌, ◌++◌, ℕ, drop, replicate}
use Rattle.machine.specs.Machine.{State, state, page_number}
use Rattle.machine.specs.Answers.{refused}
use Rattle.machine.specs.Calls.{open_call, root_call, fix_call, unfix_call, show_call, peek_call, word_call, write_call, link_call, unlink_call, evict_call, settle_call, find_call}
use Rattle.chains.specs.ChainRows.{directory_of}
use Rattle.cases.specs.Rows.{joined, resident, root_of, under, names, swizzled_to, page, machine_of, machine, zeroed, with_directory, handle_at, handle_of, open_one, Case, leaves, refuses, all_hold}

-- two frames over three pages, full: page 1 in frame 1 by the root's slot 0, page 2 not resident in its slot 1. The hand, the root's page and pins, page 1's pins, and the stored pages 0 and 2.
abbrev pair : ℕ → ℕ → List ℕ → ℕ → List ℕ → List ℕ → State
pair hand root_pins root pins first last = machine hand ((resident 0 root_pins 0, root) ∷ (resident 1 pins 0, page [] 11) ∷ []) (first ∷ page [] 21 ∷ last ∷ [])

abbrev linked : List ℕ
linked = page (swizzled_to 1 ∷ names 2 ∷ []) 0

-- one that agrees
abbrev sane : State
sane = pair 0 1 linked 1 (page [] 20) (page [] 22)

-- records that don't agree (2): the hand isn't below F
abbrev astray : State
astray = pair 2 65535 linked 1 (page [] 20) (page [] 22)

-- and frames of a wrong length beside them (1 and 2)
abbrev short : State
short = state astray.pool (drop 1 astray.frames) astray.store astray.directory

-- a directory in which no page is entered (2), and one that lacks a byte beside it (1 and 2)
abbrev unlisted : State
unlisted = with_directory sane (directory_of [] [])

abbrev cropped : State
cropped = with_directory sane (drop 1 (directory_of [] []))

-- stored pages that may not be loaded (14)
abbrev stale : State
stale = pair 0 1 linked 1 (page (swizzled_to 0 ∷ []) 20) (page (swizzled_to 0 ∷ []) 22)

-- the root's payload begins with a word that is swizzled to frame 1, where the pins are at their most
abbrev beyond : State
beyond = pair 0 1 (swizzled_to 1 ++ replicate 60 0 ++ swizzled_to 1 ++ replicate 188 0) 65535 (page [] 20) (page [] 22)

-- the same frames over five pages: page 3, which no page names, names page 4, and 5, which isn't below N
abbrev unreached : State
unreached = machine 0 ((resident 0 1 0, linked) ∷ (resident 1 1 0, page [] 11) ∷ []) (page [] 20 ∷ page [] 21 ∷ page [] 22 ∷ page (names 4 ∷ names 5 ∷ []) 23 ∷ page [] 24 ∷ [])

-- two stores of three pages over three frames, full: page 1 of the first, pinned, in frame 2; its page 2 in its root's slot 1, with these words. Both are below their ceilings.
abbrev neighbours : List (List ℕ) → State
neighbours words =
    machine_of (3 ∷ 3 ∷ []) 0 ((root_of 0 1 0, page (swizzled_to 2 ∷ names 2 ∷ []) 10) ∷ (root_of 1 1 0, page [] 11) ∷ (under 0 1 1 0, page [] 12) ∷ [])
    (page [] 20 ∷ page [] 21 ∷ page words 22 ∷ page [] 30 ∷ page [] 31 ∷ page [] 32 ∷ [])

pub ordered : List Case
ordered =
    -- open: 1 and 16
    leaves (open_one (replicate 511 0) (joined (page (names 9 ∷ []) 0 ∷ [])) (directory_of [] [])) (refused 1)
    (zeroed (replicate 511 0) (joined (page (names 9 ∷ []) 0 ∷ [])) (directory_of [] []))
    -- the same by the directory, request A.3
    ∷ leaves (open_one (replicate 512 0) (joined (page (names 9 ∷ []) 0 ∷ [])) (replicate 132 7)) (refused 1)
    (zeroed (replicate 512 0) (joined (page (names 9 ∷ []) 0 ∷ [])) (replicate 132 7))
    -- 1 and 2
    ∷ refuses (λ s. root_call s 0) short 1
    ∷ refuses (λ s. fix_call s (handle_of 0 0) 0) short 1
    ∷ refuses (λ s. unfix_call s (handle_of 0 0)) short 1
    ∷ refuses (λ s. show_call s (handle_of 0 0)) short 1
    ∷ refuses (λ s. peek_call s 0 (page_number 0)) short 1
    ∷ refuses (λ s. word_call s (handle_of 0 0) 0) short 1
    ∷ refuses (λ s. write_call s (handle_of 0 0) 0 []) short 1
    ∷ refuses (λ s. link_call s (handle_of 0 0) 2 (page_number 1) false) short 1
    ∷ refuses (λ s. unlink_call s (handle_of 0 0) 1) short 1
    ∷ refuses (λ s. evict_call s 0 (page_number 1)) short 1
    ∷ refuses settle_call short 1
    ∷ refuses (λ s. find_call s 0 (page_number 0)) short 1
    -- root: 2 and 13
    ∷ refuses (λ s. root_call s 0) astray 2
    -- 2 and 3
    ∷ refuses (λ s. fix_call s (handle_of 2 0) 0) astray 2
    ∷ refuses (λ s. unfix_call s (handle_of 2 0)) astray 2
    ∷ refuses (λ s. show_call s (handle_of 2 0)) astray 2
    ∷ refuses (λ s. word_call s (handle_of 2 0) 0) astray 2
    ∷ refuses (λ s. write_call s (handle_of 2 0) 0 []) astray 2
    ∷ refuses (λ s. link_call s (handle_of 2 0) 2 (page_number 1) false) astray 2
    ∷ refuses (λ s. unlink_call s (handle_of 2 0) 1) astray 2
    -- 2 and 6; evict: 2 and 20
    ∷ refuses (λ s. peek_call s 0 (page_number 3)) astray 2
    ∷ refuses (λ s. evict_call s 0 (page_number 3)) astray 2
    ∷ refuses (λ s. find_call s 0 (page_number 3)) astray 2
    ∷ refuses (λ s. evict_call s 0 (page_number 0)) astray 2
    ∷ []

-- by the directory, request A.3
pub ordered-directory : List Case
ordered-directory =
    -- 1 and 2; 2 and 3, 2 and 6, 2 and 11
    refuses settle_call cropped 1
    ∷ refuses (λ s. unfix_call s (handle_of 2 0)) cropped 1
    ∷ refuses (λ s. find_call s 0 (page_number 3)) cropped 1
    ∷ refuses (λ s. show_call s (handle_of 2 0)) unlisted 2
    ∷ refuses (λ s. find_call s 0 (page_number 3)) unlisted 2
    ∷ refuses (λ s. peek_call s 0 (page_number 3)) unlisted 2
    ∷ refuses (λ s. evict_call s 0 (page_number 2)) unlisted 2
    ∷ []

pub ordered-after : List Case
ordered-after =
    -- 3 and 4
    refuses (λ s. fix_call s (handle_of 1 2) 16) sane 3
    ∷ refuses (λ s. word_call s (handle_of 1 2) 16) sane 3
    ∷ refuses (λ s. link_call s (handle_of 1 2) 16 (page_number 1) false) sane 3
    ∷ refuses (λ s. unlink_call s (handle_of 1 2) 16) sane 3
    -- write: 3 and 5
    ∷ refuses (λ s. write_call s (handle_of 1 2) 193 []) sane 3
    -- 4 and 7: the bytes after slot 15 are 0; 4 and 13, 4 and 10: they are swizzled
    ∷ refuses (λ s. fix_call s (handle_of 0 0) 16) sane 4
    ∷ refuses (λ s. unlink_call s (handle_of 0 0) 16) sane 4
    ∷ refuses (λ s. fix_call s (handle_of 0 0) 16) beyond 4
    ∷ refuses (λ s. unlink_call s (handle_of 0 0) 16) beyond 4
    -- fix: 7 and 14; 14 and 27, 14 and 15 (request A.11: 27 "beside 15")
    ∷ refuses (λ s. fix_call s (handle_of 0 0) 2) stale 7
    ∷ refuses (λ s. fix_call s (handle_of 0 0) 1) stale 14
    ∷ refuses (λ s. fix_call s (handle_of 0 0) 1) sane 27
    ∷ refuses (λ s. fix_call s (handle_of 0 0) 1) (neighbours (swizzled_to 0 ∷ [])) 14
    ∷ refuses (λ s. fix_call s (handle_of 0 0) 1) (neighbours []) 15
    -- link: 4 and 6; 6 and 9: a stored page names page N, and the word of an empty slot is 0; 6 and 8
    ∷ refuses (λ s. link_call s (handle_of 0 0) 16 (page_number 3) false) sane 4
    ∷ refuses (λ s. link_call s (handle_of 0 0) 2 (page_number 5) false) unreached 6
    ∷ refuses (λ s. link_call s (handle_of 0 0) 2 (page_number 0) false) sane 6
    ∷ refuses (λ s. link_call s (handle_of 0 0) 0 (page_number 3) false) sane 6
    ∷ refuses (λ s. link_call s (handle_of 0 0) 0 (page_number 0) false) sane 6
    -- 9 and 8 (request A.9: "Test 9 before 8."): the page is named in another slot, in that very slot, as a number and swizzled, and by a page out of reach; one that isn't named is 8
    ∷ refuses (λ s. link_call s (handle_of 0 0) 0 (page_number 2) false) sane 9
    ∷ refuses (λ s. link_call s (handle_of 0 0) 1 (page_number 2) false) sane 9
    ∷ refuses (λ s. link_call s (handle_of 0 0) 0 (page_number 1) false) sane 9
    ∷ refuses (λ s. link_call s (handle_of 0 0) 0 (page_number 4) false) unreached 9
    ∷ refuses (λ s. link_call s (handle_of 0 0) 0 (page_number 3) false) unreached 8
    -- evict: 6 and 11
    ∷ refuses (λ s. evict_call s 0 (page_number 3)) sane 6
    ∷ []

-- by the store number, request A.11: "28: the store number isn't below T, after 2"; T is 1
pub ordered-stores : List Case
ordered-stores =
    -- open, by the figures: 1 and 16
    leaves (open_call 2 (1 ∷ 1 ∷ 0 ∷ 0 ∷ []) (replicate 512 0) (page (names 9 ∷ []) 0 ++ page [] 0) (directory_of [] [])) (refused 1) (zeroed (replicate 512 0) (page (names 9 ∷ []) 0 ++ page [] 0) (directory_of [] []))
    -- 1 and 28
    ∷ refuses (λ s. root_call s 1) short 1
    ∷ refuses (λ s. unfix_call s (handle_at 0 1 0)) short 1
    ∷ refuses (λ s. find_call s 1 (page_number 0)) short 1
    -- 2 and 28
    ∷ refuses (λ s. root_call s 1) astray 2
    ∷ refuses (λ s. fix_call s (handle_at 0 1 0) 0) astray 2
    ∷ refuses (λ s. unfix_call s (handle_at 0 1 0)) astray 2
    ∷ refuses (λ s. show_call s (handle_at 0 1 0)) astray 2
    ∷ refuses (λ s. peek_call s 1 (page_number 0)) astray 2
    ∷ refuses (λ s. word_call s (handle_at 0 1 0) 0) astray 2
    ∷ refuses (λ s. write_call s (handle_at 0 1 0) 0 []) astray 2
    ∷ refuses (λ s. link_call s (handle_at 0 1 0) 2 (page_number 1) false) astray 2
    ∷ refuses (λ s. unlink_call s (handle_at 0 1 0) 1) astray 2
    ∷ refuses (λ s. evict_call s 1 (page_number 1)) astray 2
    ∷ refuses (λ s. find_call s 1 (page_number 0)) astray 2
    -- root: 28 and 13, frame 1 having as many pins as can be
    ∷ refuses (λ s. root_call s 1) beyond 28
    -- 28 and 3, with 4 or 5 where the call has it
    ∷ refuses (λ s. fix_call s (handle_at 2 1 0) 16) sane 28
    ∷ refuses (λ s. unfix_call s (handle_at 2 1 0)) sane 28
    ∷ refuses (λ s. show_call s (handle_at 2 1 0)) sane 28
    ∷ refuses (λ s. word_call s (handle_at 2 1 0) 16) sane 28
    ∷ refuses (λ s. write_call s (handle_at 2 1 0) 193 []) sane 28
    ∷ refuses (λ s. link_call s (handle_at 2 1 0) 16 (page_number 0) false) sane 28
    ∷ refuses (λ s. unlink_call s (handle_at 2 1 0) 16) sane 28
    -- 28 and 6
    ∷ refuses (λ s. peek_call s 1 (page_number 3)) sane 28
    ∷ refuses (λ s. evict_call s 1 (page_number 3)) sane 28
    ∷ refuses (λ s. find_call s 1 (page_number 3)) sane 28
    ∷ []

pub order-rows : all_hold ordered ≡ true
unfolding ordered all_hold
order-rows = refl

pub order-rows-directory : all_hold ordered-directory ≡ true
unfolding ordered-directory all_hold
order-rows-directory = refl

pub order-rows-stores : all_hold ordered-stores ≡ true
unfolding ordered-stores all_hold
order-rows-stores = refl

pub order-rows-after : all_hold ordered-after ≡ true
unfolding ordered-after all_hold
order-rows-after = refl
