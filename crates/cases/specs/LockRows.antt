-- Request A.8: words with bit 30, and locked pages.
use Rattle.std.specs.Prelude.{◌≡◌, refl, Bool, true, false, List, [], ◌∷◌, ℕ, replicate}
use Rattle.page.specs.Word.{word_at, is_marked, name_of}
use Rattle.machine.specs.declared.FrameRecord.{FrameRecord}
use Rattle.machine.specs.Machine.{State, page_number}
use Rattle.machine.specs.Answers.{refused, done, handle, number}
use Rattle.machine.specs.Calls.{root_call, fix_call, unfix_call, word_call, write_call, link_call, unlink_call, evict_call, settle_call}
use Rattle.cases.specs.Rows.{joined, made, empty, child, resident, changed, names, swizzled_to, locks_page, locks_frame, nothing, page, machine, zeroed, handle_of, open_one, flag, Case, is, answers, leaves, refuses, all_hold}

-- bit 30, on a word of otherwise 0
abbrev alone : List ℕ
alone = locks_page 0

-- what a word says: its name, and 1 where it is marked
abbrev says : List ℕ → List ℕ
says bytes = let w = word_at bytes 0 in name_of w ∷ flag (is_marked w) ∷ []

-- two frames over these pages as open leaves them, and refused
abbrev frames : List ℕ
frames = joined (page [] 8 ∷ page [] 9 ∷ [])

abbrev directory : List ℕ
directory = replicate 131 7

abbrev opens : List (List ℕ) → Case
opens store = leaves (open_one frames (joined store) directory) done (machine 0 ((resident 0 0 0, first store) ∷ (empty, page [] 9) ∷ []) store)
  where
    first : List (List ℕ) → List ℕ
    first [] = []
    first (p ∷ ps) = p

abbrev unsound : List (List ℕ) → Case
unsound store =
    leaves (open_one frames (joined store) directory) (refused 16) (zeroed frames (joined store) directory)

-- ---- words, and open

pub mark_table : List Case
mark_table =
    -- "Bit 30 of a word marks the page it names as locked, and page numbers and frame indices become the low 30 bits."
    is (says (names 5)) (5 ∷ 0 ∷ [])
    ∷ is (says (locks_page 5)) (5 ∷ 1 ∷ [])
    ∷ is (says (swizzled_to 3)) (0x80000003 ∷ 0 ∷ [])
    ∷ is (says (locks_frame 3)) (0x80000003 ∷ 1 ∷ [])
    ∷ is (says nothing) (0 ∷ 0 ∷ [])
    ∷ is (says alone) (0x40000000 ∷ 0 ∷ [])
    -- the low 30 bits, all set
    ∷ is (says (255 ∷ 255 ∷ 255 ∷ 0x7F ∷ [])) (0x3FFFFFFF ∷ 1 ∷ [])
    ∷ is (says (255 ∷ 255 ∷ 255 ∷ 0x3F ∷ [])) (0x3FFFFFFF ∷ 0 ∷ [])
    -- "Opening accepts bit 30 on a word naming a page": in the root, and out of its reach
    ∷ opens (page (locks_page 2 ∷ []) 1 ∷ page (locks_page 1 ∷ []) 2 ∷ page [] 3 ∷ [])
    -- "and denies it on a word of otherwise 0 (16"
    ∷ unsound (page (alone ∷ []) 1 ∷ page [] 2 ∷ page [] 3 ∷ [])
    ∷ unsound (page [] 1 ∷ page [] 2 ∷ page (nothing ∷ alone ∷ []) 3 ∷ [])
    -- numbers go by the low 30 bits: one that stands in two words, one that isn't below N
    ∷ unsound (page (names 2 ∷ locks_page 2 ∷ []) 1 ∷ page [] 2 ∷ page [] 3 ∷ [])
    ∷ unsound (page (locks_page 2 ∷ []) 1 ∷ page (locks_page 2 ∷ []) 2 ∷ page [] 3 ∷ [])
    ∷ unsound (page (locks_page 3 ∷ []) 1 ∷ page [] 2 ∷ page [] 3 ∷ [])
    ∷ unsound (page (locks_frame 1 ∷ []) 1 ∷ page [] 2 ∷ page [] 3 ∷ [])
    ∷ []

-- ---- loading, eviction, settling

-- three frames over four pages: the root's record and words, what is in frames 1 and 2, the root's and page 2's stored words
abbrev carrying : FrameRecord → List (List ℕ) → FrameRecord × List ℕ → FrameRecord × List ℕ → List (List ℕ) → List (List ℕ) → State
carrying r words one two first second =
    machine 1 ((r, page words 10) ∷ one ∷ two ∷ []) (page first 20 ∷ page [] 21 ∷ page second 22 ∷ page [] 23 ∷ [])

abbrev none : FrameRecord × List ℕ
none = (empty, page [] 12)

abbrev loads : List (List ℕ) → State
loads second = carrying (resident 0 1 0) (locks_frame 1 ∷ locks_page 2 ∷ []) (resident 1 0 0, page (names 3 ∷ []) 11) none (locks_page 1 ∷ locks_page 2 ∷ []) second

pub carry_table : List Case
carry_table =
    -- "Loading, eviction, settling .. carry it": the parent's word, and the words of the page that comes in
    leaves (fix_call (carrying (resident 0 1 0) (locks_page 1 ∷ locks_page 2 ∷ []) none none [] (locks_page 3 ∷ [])) (handle_of 0 0) 1) (handle 1 0 2 0)
    (carrying (resident 0 1 0) (locks_page 1 ∷ locks_frame 1 ∷ []) (child 0 1 2 1 1, page (locks_page 3 ∷ []) 22) none [] (locks_page 3 ∷ []))
    -- a locked page goes; and one that isn't, dirty, with a marked word
    ∷ leaves (evict_call (carrying (resident 0 1 0) (locks_frame 1 ∷ names 2 ∷ []) (resident 1 0 3, page (names 3 ∷ []) 11) none [] []) 0 (page_number 1)) done
    (carrying (resident 0 1 0) (locks_page 1 ∷ names 2 ∷ []) (empty, page (names 3 ∷ []) 11) none [] [])
    ∷ leaves (evict_call (carrying (resident 0 1 0) (locks_page 1 ∷ swizzled_to 1 ∷ []) (changed 2 0 3, page (locks_page 3 ∷ []) 22) none [] []) 0 (page_number 2)) done
    (carrying (resident 0 1 0) (locks_page 1 ∷ names 2 ∷ []) (empty, page (locks_page 3 ∷ []) 22) none [] (locks_page 3 ∷ []))
    -- the image of a dirty page
    ∷ leaves (settle_call (carrying (changed 0 1 0) (locks_frame 1 ∷ swizzled_to 2 ∷ locks_page 3 ∷ []) (resident 1 0 0, page [] 11) (resident 2 0 0, page [] 12) [] [])) done
    (machine 1 ((resident 0 1 0, page (locks_frame 1 ∷ swizzled_to 2 ∷ locks_page 3 ∷ []) 10) ∷ (resident 1 0 0, page [] 11) ∷ (resident 2 0 0, page [] 12) ∷ [])
    (page (locks_page 1 ∷ names 2 ∷ locks_page 3 ∷ []) 10 ∷ page [] 21 ∷ page [] 22 ∷ page [] 23 ∷ []))
    -- "when loading 14": bit 30 alone; and by the low 30 bits a number repeated, named by a resident page, not below N
    ∷ refuses (λ s. fix_call s (handle_of 0 0) 1) (loads (nothing ∷ alone ∷ [])) 14
    ∷ refuses (λ s. fix_call s (handle_of 0 0) 1) (carrying (resident 0 1 0) (locks_frame 1 ∷ locks_page 2 ∷ []) (resident 1 0 0, page [] 11) none [] (names 3 ∷ locks_page 3 ∷ [])) 14
    ∷ refuses (λ s. fix_call s (handle_of 0 0) 1) (loads (locks_page 3 ∷ [])) 14
    ∷ refuses (λ s. fix_call s (handle_of 0 0) 1) (loads (locks_page 4 ∷ [])) 14
    ∷ refuses (λ s. fix_call s (handle_of 0 0) 1) (loads (locks_frame 1 ∷ [])) 14
    ∷ []

-- ---- agreement: "in an occupied frame 2"

abbrev agrees : List (List ℕ) → FrameRecord × List ℕ → FrameRecord × List ℕ → State
agrees words one two = carrying (resident 0 1 0) words one two [] []

pub agrees_table : List Case
agrees_table =
    -- marked words, swizzled and not; in an empty frame bit 30 is free
    leaves (settle_call (agrees (locks_frame 1 ∷ locks_page 2 ∷ []) (resident 1 0 0, page [] 11) (empty, page (alone ∷ locks_frame 0 ∷ []) 12))) done
    (agrees (locks_frame 1 ∷ locks_page 2 ∷ []) (resident 1 0 0, page [] 11) (empty, page (alone ∷ locks_frame 0 ∷ []) 12))
    ∷ refuses settle_call (agrees (locks_frame 1 ∷ alone ∷ []) (resident 1 0 0, page [] 11) none) 2
    ∷ refuses settle_call (agrees (locks_frame 1 ∷ []) (resident 1 0 0, page (alone ∷ []) 11) none) 2
    -- by the low 30 bits: swizzled to the root's frame, to an empty one, to one that doesn't point back; a resident page's number, one not below N, one that stands in two words
    ∷ refuses settle_call (agrees (locks_frame 0 ∷ []) none none) 2
    ∷ refuses settle_call (agrees (locks_frame 1 ∷ []) none none) 2
    ∷ refuses settle_call (agrees (locks_frame 3 ∷ []) none none) 2
    ∷ refuses settle_call (agrees (locks_frame 1 ∷ locks_frame 1 ∷ []) (resident 1 0 0, page [] 11) none) 2
    ∷ refuses settle_call (agrees (locks_frame 1 ∷ locks_page 1 ∷ []) (resident 1 0 0, page [] 11) none) 2
    ∷ refuses settle_call (agrees (locks_page 4 ∷ []) none none) 2
    ∷ refuses settle_call (agrees (locks_page 2 ∷ names 2 ∷ []) none none) 2
    -- a locked page that is dirty is no 2, and goes out as any other
    ∷ leaves (settle_call (agrees (locks_frame 1 ∷ []) (changed 1 0 0, page [] 11) none)) done
    (machine 1 ((resident 0 1 0, page (locks_frame 1 ∷ []) 10) ∷ (resident 1 0 0, page [] 11) ∷ none ∷ []) (page [] 20 ∷ page [] 11 ∷ page [] 22 ∷ page [] 23 ∷ []))
    ∷ []

-- ---- locked pages

-- four frames over six pages: page 1 in frame 1 by the root's slot 0, page 2 in frame 2 by page 1's slot 0; the root's words, page 1's record and words, page 2's words, and what the stored page 4 names
abbrev below : List (List ℕ) → FrameRecord → List (List ℕ) → List (List ℕ) → List (List ℕ) → State
below words r first second fourth =
    machine 0 ((resident 0 1 0, page words 10) ∷ (r, page first 11) ∷ (child 1 0 2 1 0, page second 12) ∷ (empty, page [] 13) ∷ [])
    (page [] 20 ∷ page [] 21 ∷ page [] 22 ∷ page [] 23 ∷ page fourth 24 ∷ page [] 25 ∷ [])

abbrev six_pages : List (List ℕ)
six_pages = page [] 20 ∷ page [] 21 ∷ page [] 22 ∷ page [] 23 ∷ page [] 24 ∷ page [] 25 ∷ []

-- page 1 is locked, page 2 isn't
abbrev held : State
held = below (locks_frame 1 ∷ []) (resident 1 1 0) (swizzled_to 2 ∷ names 3 ∷ []) (locks_page 5 ∷ []) []

-- the other way round: page 2 is locked, by page 1's slot 0, and page 1 isn't, though its words are marked
abbrev free : State
free = below (swizzled_to 1 ∷ []) (resident 1 1 0) (locks_frame 2 ∷ locks_page 3 ∷ []) [] (alone ∷ locks_page 5 ∷ [])

pub lock_table : List Case
lock_table =
    -- "26: the handle's page is locked, after 5 and before 6": write, with no bytes too
    refuses (λ s. write_call s (handle_of 1 1) 0 (7 ∷ [])) held 26
    ∷ refuses (λ s. write_call s (handle_of 1 1) 192 []) held 26
    ∷ refuses (λ s. write_call s (handle_of 1 1) 193 []) held 5
    ∷ refuses (λ s. write_call s (handle_of 1 2) 0 []) held 3
    -- link: before it 3 and 4; after it 6, 9 and 8
    ∷ refuses (λ s. link_call s (handle_of 1 1) 2 (page_number 4) false) held 26
    ∷ refuses (λ s. link_call s (handle_of 1 1) 2 (page_number 4) true) held 26
    ∷ refuses (λ s. link_call s (handle_of 1 1) 16 (page_number 4) false) held 4
    ∷ refuses (λ s. link_call s (handle_of 1 2) 2 (page_number 4) false) held 3
    ∷ refuses (λ s. link_call s (handle_of 1 1) 2 (page_number 0) false) held 26
    ∷ refuses (λ s. link_call s (handle_of 1 1) 2 (page_number 3) false) held 26
    ∷ refuses (λ s. link_call s (handle_of 1 1) 1 (page_number 4) false) held 26
    -- unlink: before it 3 and 4; after it 7 and 10
    ∷ refuses (λ s. unlink_call s (handle_of 1 1) 1) held 26
    ∷ refuses (λ s. unlink_call s (handle_of 1 2) 1) held 3
    ∷ refuses (λ s. unlink_call s (handle_of 1 1) 16) held 4
    ∷ refuses (λ s. unlink_call s (handle_of 1 1) 5) held 26
    ∷ refuses (λ s. unlink_call s (handle_of 1 1) 0) held 26
    ∷ []

pub free_table : List Case
free_table =
    -- the page that a marked word names is locked: not the root, not the page below it, and not the page that has the word
    leaves (unlink_call held (handle_of 2 2) 0) done
    (machine 0 ((resident 0 1 0, page (locks_frame 1 ∷ []) 10) ∷ (resident 1 1 0, page (swizzled_to 2 ∷ names 3 ∷ []) 11) ∷ (made 1 1 0 0 1 1 2, page [] 12) ∷ (empty, page [] 13) ∷ [])
    six_pages)
    ∷ leaves (link_call held (handle_of 0 0) 1 (page_number 4) false) done
    (machine 0 ((changed 0 1 0, page (locks_frame 1 ∷ names 4 ∷ []) 10) ∷ (resident 1 1 0, page (swizzled_to 2 ∷ names 3 ∷ []) 11) ∷ (child 1 0 2 1 0, page (locks_page 5 ∷ []) 12) ∷ (empty, page [] 13) ∷ [])
    six_pages)
    ∷ leaves (unlink_call free (handle_of 1 1) 1) done (below (swizzled_to 1 ∷ []) (changed 1 1 0) (locks_frame 2 ∷ []) [] (alone ∷ locks_page 5 ∷ []))
    ∷ refuses (λ s. unlink_call s (handle_of 1 1) 0) free 10
    ∷ refuses (λ s. write_call s (handle_of 2 2) 0 []) free 26
    -- "Link takes the mark": bit 30 alone in a stored page names nothing (9), a marked word there names its page
    ∷ leaves (link_call free (handle_of 1 1) 2 (page_number 4) true) done (below (swizzled_to 1 ∷ []) (changed 1 1 0) (locks_frame 2 ∷ locks_page 3 ∷ locks_page 4 ∷ []) [] (alone ∷ locks_page 5 ∷ []))
    ∷ leaves (link_call free (handle_of 1 1) 2 (page_number 4) false) done (below (swizzled_to 1 ∷ []) (changed 1 1 0) (locks_frame 2 ∷ locks_page 3 ∷ names 4 ∷ []) [] (alone ∷ locks_page 5 ∷ []))
    ∷ refuses (λ s. link_call s (handle_of 1 1) 2 (page_number 5) true) free 9
    ∷ refuses (λ s. link_call s (handle_of 1 1) 2 (page_number 3) false) free 9
    ∷ refuses (λ s. link_call s (handle_of 1 1) 1 (page_number 4) false) free 8
    -- "and word shows it": swizzled and not, of a locked page and of others, and where there is none
    ∷ leaves (word_call held (handle_of 0 0) 0) (number 1 true) held
    ∷ leaves (word_call held (handle_of 1 1) 0) (number 2 false) held
    ∷ leaves (word_call held (handle_of 1 1) 1) (number 3 false) held
    ∷ leaves (word_call held (handle_of 2 2) 0) (number 5 true) held
    ∷ leaves (word_call held (handle_of 2 2) 1) (number 0 false) held
    -- the child of a locked page is loaded, and evicted: the frame's word changes, and nothing else of the page
    ∷ leaves (fix_call held (handle_of 1 1) 1) (handle 3 0 3 0)
    (machine 0 ((resident 0 1 0, page (locks_frame 1 ∷ []) 10) ∷ (resident 1 1 0, page (swizzled_to 2 ∷ swizzled_to 3 ∷ []) 11) ∷ (child 1 0 2 1 0, page (locks_page 5 ∷ []) 12) ∷ (child 1 1 3 1 1, page [] 23) ∷ []) six_pages)
    ∷ leaves (evict_call (machine 0 ((resident 0 1 0, page (locks_frame 1 ∷ []) 10) ∷ (resident 1 1 0, page (swizzled_to 2 ∷ names 3 ∷ []) 11) ∷ (child 1 0 2 0 0, page [] 12) ∷ (empty, page [] 13) ∷ []) six_pages) 0 (page_number 2)) done
    (machine 0 ((resident 0 1 0, page (locks_frame 1 ∷ []) 10) ∷ (resident 1 1 0, page (names 2 ∷ names 3 ∷ []) 11) ∷ (empty, page [] 12) ∷ (empty, page [] 13) ∷ []) six_pages)
    ∷ []

-- ---- from an open on: page 1 gets locked, and free again

abbrev zeros : State
zeros = (open_one (joined (page [] 0 ∷ page [] 0 ∷ [])) (joined (page [] 0 ∷ page [] 0 ∷ [])) directory).left

abbrev after_link : Bool → State → State
after_link l s = (link_call s (handle_of 0 0) 4 (page_number 1) l).left

-- the root is pinned, page 1 is linked with the mark and fixed
abbrev locked_now : State
locked_now = (fix_call (after_link true (root_call zeros 0).left) (handle_of 0 0) 4).left

-- it is unfixed, evicted and unlinked, linked without, and fixed
abbrev free_now : State
free_now = (fix_call (after_link false (unlink_call (evict_call (unfix_call locked_now (handle_of 1 1)).left 0 (page_number 1)).left (handle_of 0 0) 4).left) (handle_of 0 0) 4).left

pub stretch_table : List Case
stretch_table =
    answers (write_call locked_now (handle_of 1 1) 0 (7 ∷ [])).answer (refused 26)
    ∷ answers (word_call locked_now (handle_of 0 0) 4).answer (number 1 true)
    ∷ answers (word_call free_now (handle_of 0 0) 4).answer (number 1 false)
    ∷ answers (write_call free_now (handle_of 1 1) 0 (7 ∷ [])).answer done
    ∷ []

pub mark-rows : all_hold mark_table ≡ true
unfolding mark_table all_hold
mark-rows = refl

pub carry-rows : all_hold carry_table ≡ true
unfolding carry_table all_hold
carry-rows = refl

pub agrees-rows : all_hold agrees_table ≡ true
unfolding agrees_table all_hold
agrees-rows = refl

pub lock-rows : all_hold lock_table ≡ true
unfolding lock_table all_hold
lock-rows = refl

pub free-rows : all_hold free_table ≡ true
unfolding free_table all_hold
free-rows = refl

pub stretch-rows : all_hold stretch_table ≡ true
unfolding stretch_table all_hold
stretch-rows = refl
