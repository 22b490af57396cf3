-- Request A.11: a load of a store below its ceiling and of one at it. Every record, the hand, the three buffers and the looks after it.
use Rattle.std.specs.Prelude.{◌≡◌, refl, true, List, [], ◌∷◌, ℕ, replicate}
use Rattle.machine.specs.declared.FrameRecord.{FrameRecord}
use Rattle.machine.specs.Machine.{State, page_number}
use Rattle.machine.specs.Answers.{handle, Shown, handed_back}
use Rattle.machine.specs.Calls.{fix_call, peek_call}
use Rattle.chains.specs.ChainRows.{directory_of}
use Rattle.cases.specs.Rows.{empty, child, unsaved, of_store, root_of, under, names, swizzled_to, page, machine_of, with_directory, handle_at, Case, leaves, refuses, hands, all_hold}

-- two stores of four pages over five frames, the roots in frames 0 and 1 with usage counts 1 and 2: the ceilings, the hand, the roots' words, what is in frames 2 to 4, and the stored page 1 of the first
abbrev shared : List ℕ → ℕ → List (List ℕ) → List (List ℕ) → List (FrameRecord × List ℕ) → List ℕ → State
shared ceilings hand first second frames stored =
    machine_of ceilings hand ((root_of 0 0 1, page first 10) ∷ (root_of 1 1 2, page second 11) ∷ frames) (page [] 20 ∷ stored ∷ page [] 22 ∷ page [] 23 ∷ page [] 30 ∷ page [] 31 ∷ page [] 32 ∷ page [] 33 ∷ [])

-- page 1 of the first store in frame 2, page 1 of the second in frame 3, its page 3 to be loaded, by its root's slot 2, and frame 4 empty: the ceilings, and the two records
abbrev gap : List ℕ → FrameRecord → FrameRecord → State
gap ceilings a b = shared ceilings 2 (swizzled_to 2 ∷ []) (swizzled_to 3 ∷ names 2 ∷ names 3 ∷ []) ((a, page [] 12) ∷ (b, page [] 13) ∷ (empty, page [] 14) ∷ []) (page [] 21)

-- the same with page 2 of the second in frame 4: the hand too, and the words of the first store's page
abbrev full : List ℕ → ℕ → FrameRecord → List (List ℕ) → FrameRecord → FrameRecord → State
full ceilings hand a words b c = shared ceilings hand (swizzled_to 2 ∷ []) (swizzled_to 3 ∷ swizzled_to 4 ∷ names 3 ∷ []) ((a, page words 12) ∷ (b, page [] 13) ∷ (c, page [] 14) ∷ []) (page [] 21)

-- page 3 of the second store in a frame
abbrev loaded_three : FrameRecord × List ℕ
loaded_three = (under 1 3 1 1, page [] 33)

-- the first store's page is dirty, with a word naming page 3 of that store
abbrev dirty_neighbour : State
dirty_neighbour = full (2 ∷ 4 ∷ []) 3 (unsaved (under 0 1 0 0)) (names 3 ∷ []) (under 1 1 1 0) (under 1 2 0 1)

-- what peek of it hands back where frames and store are lent at bytes 0 of blocks 5 and 6
abbrev peeked : State → Shown
peeked s = handed_back (record { at = (5, 0); bytes = s.frames }) (record { at = (6, 0); bytes = s.store }) (peek_call s 0 (page_number 1)).answer

pub below_table : List Case
below_table =
    -- "Below it, loading goes as in 01": into the first empty frame, though a page of its own could be taken. "a child's store is its parent's"
    leaves (fix_call (gap (5 ∷ 3 ∷ []) (under 0 1 0 0) (under 1 1 0 0)) (handle_at 1 1 0) 2) (handle 4 1 3 0)
    (shared (5 ∷ 3 ∷ []) 2 (swizzled_to 2 ∷ []) (swizzled_to 3 ∷ names 2 ∷ swizzled_to 4 ∷ []) ((under 0 1 0 0, page [] 12) ∷ (under 1 1 0 0, page [] 13) ∷ loaded_three ∷ []) (page [] 21))
    -- pinned pages of either store warm, and its own page goes, the first with usage count 0
    ∷ leaves (fix_call (full (5 ∷ 5 ∷ []) 2 (under 0 1 2 1) [] (under 1 1 1 1) (under 1 2 0 0)) (handle_at 1 1 0) 2) (handle 4 1 3 3)
    (shared (5 ∷ 5 ∷ []) 0 (swizzled_to 2 ∷ []) (swizzled_to 3 ∷ names 2 ∷ swizzled_to 4 ∷ []) ((under 0 1 2 2, page [] 12) ∷ (under 1 1 1 2, page [] 13) ∷ loaded_three ∷ []) (page [] 21))
    -- "every root passed over unchanged, so a neighbour's page may be evicted", though its store is at its own ceiling: frame 2 after 5 looks, its image to its own place
    ∷ leaves (fix_call dirty_neighbour (handle_at 1 1 0) 2) (handle 2 1 3 5)
    (shared (2 ∷ 4 ∷ []) 3 (names 1 ∷ []) (swizzled_to 3 ∷ swizzled_to 4 ∷ swizzled_to 2 ∷ []) (loaded_three ∷ (under 1 1 1 1, page [] 13) ∷ (under 1 2 0 0, page [] 14) ∷ []) (page (names 3 ∷ []) 12))
    -- "though its map, pins and shown bytes are the same after it": peek gives them from the frame, and then from the store
    ∷ hands (peeked dirty_neighbour) (5, 576) (replicate 192 12) 0
    ∷ hands (peeked (fix_call dirty_neighbour (handle_at 1 1 0) 2).left) (6, 320) (replicate 192 12) 0
    ∷ []

pub at_table : List Case
at_table =
    -- "A store at its ceiling sweeps its own pages only, even where frames are empty; any other frame costs a look and is left unchanged": from frame 2 on a neighbour's page with usage count 0, its own, which loses 1, an empty frame, two roots, and the first two again: 7 looks
    leaves (fix_call (gap (5 ∷ 2 ∷ []) (under 0 1 0 0) (under 1 1 0 1)) (handle_at 1 1 0) 2) (handle 3 1 3 7)
    (shared (5 ∷ 2 ∷ []) 4 (swizzled_to 2 ∷ []) (names 1 ∷ names 2 ∷ swizzled_to 3 ∷ []) ((under 0 1 0 0, page [] 12) ∷ loaded_three ∷ (empty, page [] 14) ∷ []) (page [] 21))
    -- its own pinned page warms, a neighbour's doesn't
    ∷ leaves (fix_call (full (5 ∷ 3 ∷ []) 2 (under 0 1 2 1) [] (under 1 1 1 1) (under 1 2 0 0)) (handle_at 1 1 0) 2) (handle 4 1 3 3)
    (shared (5 ∷ 3 ∷ []) 0 (swizzled_to 2 ∷ []) (swizzled_to 3 ∷ names 2 ∷ swizzled_to 4 ∷ []) ((under 0 1 2 1, page [] 12) ∷ (under 1 1 1 2, page [] 13) ∷ loaded_three ∷ []) (page [] 21))
    -- the first store at its ceiling: frame 2 after 7 looks, the second root and the second store's pages, pinned and not, left as they are. Page 2 comes before the second store's page 2 in its chain.
    ∷ leaves
    (fix_call
    (machine_of (2 ∷ 4 ∷ []) 1
    ((root_of 0 1 0, page (swizzled_to 2 ∷ names 2 ∷ []) 10) ∷ (root_of 1 0 0, page (swizzled_to 3 ∷ swizzled_to 4 ∷ []) 11) ∷ (under 0 1 0 1, page [] 12) ∷ (under 1 1 0 0, page [] 13) ∷ (under 1 2 1 0, page [] 14) ∷ [])
    (replicate 6 (page [] 20)))
    (handle_at 0 0 0) 1)
    (handle 2 0 2 7)
    (with_directory
    (machine_of (2 ∷ 4 ∷ []) 3
    ((root_of 0 1 0, page (names 1 ∷ swizzled_to 2 ∷ []) 10) ∷ (root_of 1 0 0, page (swizzled_to 3 ∷ swizzled_to 4 ∷ []) 11) ∷ (under 0 2 1 1, page [] 20) ∷ (under 1 1 0 0, page [] 13) ∷ (under 1 2 1 0, page [] 14) ∷ [])
    (replicate 6 (page [] 20)))
    (directory_of (2 ∷ 4 ∷ 3 ∷ []) (0 ∷ 1 ∷ 5 ∷ [])))
    -- at most 4 × F looks
    ∷ leaves (fix_call (machine_of (1 ∷ 2 ∷ []) 0 ((root_of 0 0 0, page [] 10) ∷ (root_of 1 1 0, page (swizzled_to 2 ∷ names 2 ∷ []) 11) ∷ (under 1 1 0 3, page [] 12) ∷ []) (replicate 6 (page [] 20))) (handle_at 1 1 0) 1) (handle 2 1 2 12)
    (machine_of (1 ∷ 2 ∷ []) 0 ((root_of 0 0 0, page [] 10) ∷ (root_of 1 1 0, page (names 1 ∷ swizzled_to 2 ∷ []) 11) ∷ (under 1 2 1 1, page [] 20) ∷ []) (replicate 6 (page [] 20)))
    ∷ []

-- four stores of two pages over five frames: the ceilings, the third and the fourth root's word, and what is in frame 4
abbrev four : List ℕ → List ℕ → List ℕ → FrameRecord × List ℕ → State
four ceilings third fourth leaf =
    machine_of ceilings 0 ((root_of 0 0 0, page [] 10) ∷ (root_of 1 0 0, page [] 11) ∷ (root_of 2 1 0, page (third ∷ []) 12) ∷ (root_of 3 1 0, page (fourth ∷ []) 13) ∷ leaf ∷ [])
    (page [] 20 ∷ page [] 21 ∷ page [] 30 ∷ page [] 31 ∷ page [] 40 ∷ page [] 41 ∷ page [] 50 ∷ page [] 51 ∷ [])

-- two stores over four frames, the second under this ceiling: its page 1 in frame 2 with page 2, pinned, in frame 3 as its child; page 3 in its root's slot 1
abbrev family : ℕ → State
family ceiling =
    machine_of (4 ∷ ceiling ∷ []) 0 ((root_of 0 0 0, page [] 10) ∷ (root_of 1 1 0, page (swizzled_to 2 ∷ names 3 ∷ []) 11) ∷ (under 1 1 0 0, page (swizzled_to 3 ∷ []) 12) ∷ (of_store 1 (child 2 0 2 1 0), page [] 13) ∷ [])
    (replicate 8 (page [] 20))

pub four_table : List Case
four_table =
    -- the fourth store is below its ceiling, and the third's page goes, after four roots
    leaves (fix_call (four (1 ∷ 1 ∷ 2 ∷ 2 ∷ []) (swizzled_to 4) (names 1) (under 2 1 0 0, page [] 14)) (handle_at 3 3 0) 0) (handle 4 3 1 5)
    (four (1 ∷ 1 ∷ 2 ∷ 2 ∷ []) (names 1) (swizzled_to 4) (under 3 1 1 1, page [] 51))
    -- a ceiling of 1 is the root's: no other page ever comes in
    ∷ refuses (λ s. fix_call s (handle_at 3 3 0) 0) (four (1 ∷ 1 ∷ 2 ∷ 1 ∷ []) (names 1) (names 1) (empty, page [] 14)) 27
    ∷ []

pub denied_table : List Case
denied_table =
    -- "27: a store at its ceiling has no page of its own that a sweep could take": each is pinned, though a frame is empty and a neighbour's page could be taken; no look, so nothing warms
    refuses (λ s. fix_call s (handle_at 1 1 0) 2) (gap (5 ∷ 2 ∷ []) (under 0 1 0 0) (under 1 1 1 0)) 27
    -- "pinned or has a resident child"; "15 is for a store below its ceiling", with the same records, where no frame is empty. That both come after 14 stands in OrderRows, that one store never gives 15 in SweepRows.
    ∷ refuses (λ s. fix_call s (handle_at 1 1 0) 1) (family 3) 27
    ∷ refuses (λ s. fix_call s (handle_at 1 1 0) 1) (family 4) 15
    -- a resident page is pinned, whatever could be taken
    ∷ leaves (fix_call (gap (5 ∷ 2 ∷ []) (under 0 1 0 0) (under 1 1 1 0)) (handle_at 1 1 0) 0) (handle 3 1 1 0) (gap (5 ∷ 2 ∷ []) (under 0 1 0 0) (under 1 1 2 1))
    ∷ []

pub below_rows : all_hold below_table ≡ true
unfolding below_table all_hold
below_rows = refl

pub at_rows : all_hold at_table ≡ true
unfolding at_table all_hold
at_rows = refl

pub four-rows : all_hold four_table ≡ true
unfolding four_table all_hold
four-rows = refl

pub denied-rows : all_hold denied_table ≡ true
unfolding denied_table all_hold
denied-rows = refl
