-- Request A.11, "Four trays, one set of frames": calls that name a store, 28, 9 and 14 within a store, rule 2 over several, and their maps. Open and rule 1 stand in FigureRows, loading, 15 and 27 in CeilingRows.
use Rattle.std.specs.Prelude.{◌≡◌, refl, true, false, List, [], ◌∷◌, ◌++◌, map, ℕ, replicate}
use Rattle.machine.specs.declared.FrameRecord.{FrameRecord}
use Rattle.machine.specs.Machine.{State, page_number}
use Rattle.machine.specs.Directory.{residents_of}
use Rattle.machine.specs.Answers.{done, handle, payload, in_frames, in_store, number, frame, nowhere}
use Rattle.machine.specs.Calls.{root_call, fix_call, unfix_call, show_call, peek_call, word_call, write_call, link_call, unlink_call, evict_call, settle_call, find_call}
use Rattle.machine.specs.History.{Call, reopen, root, fix, unfix, write, link, unlink, update, start, next, run}
use Rattle.cases.specs.Rows.{joined, empty, child, unsaved, of_store, root_of, under, names, swizzled_to, locks_page, locks_frame, nothing, page, machine_of, handle_at, Case, is, answers, leaves, refuses, disagrees, all_hold}

-- ---- two stores of three pages over four frames, the hand at 2: page 1 of each in frames 2 and 3, by its root's slot 0; page 2 of each in its root's slot 1

-- ceilings of 4, the frames, and the second store's pages
abbrev sharing : List (FrameRecord × List ℕ) → List (List ℕ) → State
sharing frames stored = machine_of (4 ∷ 4 ∷ []) 2 frames (page [] 20 ∷ page [] 21 ∷ page [] 22 ∷ stored)

abbrev of_second : List (List ℕ)
of_second = page [] 30 ∷ page [] 31 ∷ page [] 32 ∷ []

abbrev first_root : FrameRecord × List ℕ
first_root = (root_of 0 1 0, page (swizzled_to 2 ∷ names 2 ∷ []) 10)

abbrev second_root : FrameRecord × List ℕ
second_root = (root_of 1 1 2, page (swizzled_to 3 ∷ names 2 ∷ []) 11)

abbrev first_leaf : FrameRecord × List ℕ
first_leaf = (under 0 1 1 0, page [] 12)

abbrev second_leaf : FrameRecord × List ℕ
second_leaf = (under 1 1 1 0, page [] 13)

-- empty in their places
abbrev free_frame : FrameRecord × List ℕ
free_frame = (empty, page [] 12)

abbrev no_leaf : FrameRecord × List ℕ
no_leaf = (empty, page [] 13)

-- with another root and another leaf of the second store
abbrev second : FrameRecord × List ℕ → FrameRecord × List ℕ → State
second top leaf = sharing (first_root ∷ top ∷ first_leaf ∷ leaf ∷ []) of_second

abbrev both : State
both = second second_root second_leaf

-- the second root alone of its store, with these words; and beside these pages
abbrev bare_over : List (List ℕ) → List (List ℕ) → State
bare_over words stored = sharing (first_root ∷ (root_of 1 1 2, page words 11) ∷ first_leaf ∷ no_leaf ∷ []) stored

abbrev bare : List (List ℕ) → State
bare words = bare_over words of_second

pub stores_named : List Case
stores_named =
    -- "root": in frame t
    leaves (root_call both 1) (handle 1 1 0 0) (second (root_of 1 2 3, page (swizzled_to 3 ∷ names 2 ∷ []) 11) second_leaf)
    ∷ answers (root_call both 0).answer (handle 0 0 0 0)
    -- "Handles": fix, unfix, show and word
    ∷ leaves (fix_call both (handle_at 1 1 0) 0) (handle 3 1 1 0) (second second_root (under 1 1 2 1, page [] 13))
    ∷ leaves (unfix_call both (handle_at 3 1 1)) done (second second_root (under 1 1 0 0, page [] 13))
    ∷ leaves (show_call both (handle_at 3 1 1)) (payload in_frames 832 192) both
    ∷ leaves (word_call both (handle_at 1 1 0) 0) (number 1 false) both
    ∷ leaves (word_call both (handle_at 1 1 0) 1) (number 2 false) both
    -- "find", "pages are compared within their store": chain 0 is frames 1 and 0, chain 1 frames 3 and 2, and every entry compared counts
    ∷ leaves (find_call both 0 (page_number 0)) (frame 0 2) both
    ∷ leaves (find_call both 1 (page_number 0)) (frame 1 1) both
    ∷ leaves (find_call both 0 (page_number 1)) (frame 2 2) both
    ∷ leaves (find_call both 1 (page_number 1)) (frame 3 1) both
    ∷ leaves (find_call both 1 (page_number 2)) (nowhere 0) both
    -- the other store's page of that number is resident, and its own isn't
    ∷ answers (find_call (bare (names 1 ∷ [])) 1 (page_number 1)).answer (nowhere 1)
    -- "the number of resident pages with that remainder", of both
    ∷ is (residents_of both.pool 0 ∷ residents_of both.pool 1 ∷ []) (2 ∷ 2 ∷ [])
    -- "peek": from the frame, and from its own store
    ∷ leaves (peek_call both 0 (page_number 1)) (payload in_frames 576 192) both
    ∷ leaves (peek_call both 1 (page_number 1)) (payload in_frames 832 192) both
    ∷ leaves (peek_call both 0 (page_number 2)) (payload in_store 576 192) both
    ∷ leaves (peek_call both 1 (page_number 2)) (payload in_store 1344 192) both
    ∷ answers (peek_call (bare (names 1 ∷ [])) 1 (page_number 1)).answer (payload in_store 1088 192)
    -- N is that of each store
    ∷ refuses (λ s. find_call s 1 (page_number 3)) both 6
    ∷ []

-- "28: the store number isn't below T": T, and more. One below T that isn't the frame's is 3.
pub stores_refused : List Case
stores_refused =
    refuses (λ s. root_call s 2) both 28
    ∷ refuses (λ s. fix_call s (handle_at 1 2 0) 0) both 28
    ∷ refuses (λ s. unfix_call s (handle_at 1 255 0)) both 28
    ∷ refuses (λ s. show_call s (handle_at 1 2 0)) both 28
    ∷ refuses (λ s. peek_call s 2 (page_number 1)) both 28
    ∷ refuses (λ s. word_call s (handle_at 1 2 0) 0) both 28
    ∷ refuses (λ s. write_call s (handle_at 1 2 0) 0 []) both 28
    ∷ refuses (λ s. link_call s (handle_at 1 2 0) 2 (page_number 1) false) both 28
    ∷ refuses (λ s. unlink_call s (handle_at 1 2 0) 1) both 28
    ∷ refuses (λ s. evict_call s 2 (page_number 1)) both 28
    ∷ refuses (λ s. find_call s 255 (page_number 1)) both 28
    ∷ refuses (λ s. fix_call s (handle_at 1 0 0) 0) both 3
    ∷ refuses (λ s. unfix_call s (handle_at 3 0 1)) both 3
    ∷ refuses (λ s. show_call s (handle_at 2 1 1)) both 3
    ∷ refuses (λ s. word_call s (handle_at 0 1 0) 0) both 3
    ∷ refuses (λ s. write_call s (handle_at 3 0 1) 0 []) both 3
    ∷ refuses (λ s. link_call s (handle_at 3 0 1) 0 (page_number 2) false) both 3
    ∷ refuses (λ s. unlink_call s (handle_at 1 0 0) 1) both 3
    ∷ []

-- the second leaf is locked
abbrev locked_leaf : State
locked_leaf = second (root_of 1 1 2, page (locks_frame 3 ∷ names 2 ∷ []) 11) second_leaf

pub stores_changed : List Case
stores_changed =
    -- "evict": its own page, whose image goes to its own store; the other's page of that number stays
    leaves (evict_call (second (root_of 1 1 2, page (swizzled_to 3 ∷ []) 11) (unsaved (under 1 1 0 2), page (names 2 ∷ []) 13)) 1 (page_number 1)) done
    (sharing (first_root ∷ (root_of 1 1 2, page (names 1 ∷ []) 11) ∷ first_leaf ∷ (empty, page (names 2 ∷ []) 13) ∷ []) (page [] 30 ∷ page (names 2 ∷ []) 13 ∷ page [] 32 ∷ []))
    -- and the first's, the second in its chain
    ∷ leaves (evict_call (sharing (first_root ∷ second_root ∷ (under 0 1 0 0, page [] 12) ∷ second_leaf ∷ []) of_second) 0 (page_number 1)) done
    (sharing ((root_of 0 1 0, page (names 1 ∷ names 2 ∷ []) 10) ∷ second_root ∷ free_frame ∷ second_leaf ∷ []) of_second)
    -- 11, 20, 21 and 22 are by the page of that store
    ∷ refuses (λ s. evict_call s 1 (page_number 1)) (bare (names 1 ∷ [])) 11
    ∷ refuses (λ s. evict_call s 1 (page_number 0)) (second (root_of 1 0 0, page [] 11) no_leaf) 20
    ∷ refuses (λ s. evict_call s 1 (page_number 1)) both 21
    ∷ refuses (λ s. evict_call s 1 (page_number 1))
    (sharing ((root_of 0 0 0, page [] 10) ∷ (root_of 1 0 0, page (swizzled_to 3 ∷ []) 11) ∷ (of_store 1 (child 3 0 2 0 0), page [] 12) ∷ (under 1 1 0 0, page (swizzled_to 2 ∷ []) 13) ∷ []) of_second) 22
    -- write, and unlink, which takes a word alone
    ∷ leaves (write_call both (handle_at 3 1 1) 5 (7 ∷ 8 ∷ [])) done (second second_root (unsaved (under 1 1 1 0), replicate 64 0 ++ replicate 5 13 ++ (7 ∷ 8 ∷ []) ++ replicate 185 13))
    ∷ leaves (unlink_call both (handle_at 1 1 0) 1) done (second (unsaved (root_of 1 1 2), page (swizzled_to 3 ∷ []) 11) second_leaf)
    ∷ refuses (λ s. unlink_call s (handle_at 1 1 0) 0) both 10
    -- "Settle writes every store": each image to its own place, with the numbers of its own pages
    ∷ leaves
    (settle_call (sharing (first_root ∷ (unsaved (root_of 1 1 2), page (swizzled_to 3 ∷ names 2 ∷ []) 11) ∷ (unsaved (under 0 1 1 0), page [] 12) ∷ (unsaved (under 1 1 1 0), page [] 13) ∷ []) of_second)) done
    (machine_of (4 ∷ 4 ∷ []) 2 (first_root ∷ second_root ∷ first_leaf ∷ second_leaf ∷ []) (page [] 20 ∷ page [] 12 ∷ page [] 22 ∷ page (names 1 ∷ names 2 ∷ []) 11 ∷ page [] 13 ∷ page [] 32 ∷ []))
    -- 26 in the second store; its root is locked by no word, though the first root's is marked
    ∷ refuses (λ s. write_call s (handle_at 3 1 1) 0 []) locked_leaf 26
    ∷ refuses (λ s. link_call s (handle_at 3 1 1) 0 (page_number 2) false) locked_leaf 26
    ∷ refuses (λ s. unlink_call s (handle_at 3 1 1) 0) locked_leaf 26
    ∷ answers (write_call (sharing ((root_of 0 1 0, page (locks_frame 2 ∷ []) 10) ∷ second_root ∷ first_leaf ∷ second_leaf ∷ []) of_second) (handle_at 1 1 0) 0 (7 ∷ [])).answer done
    ∷ []

-- "pages are compared within their store": 9 and 14
pub stores_compared : List Case
stores_compared =
    -- pages 1 and 2 of the first store are named, swizzled and not
    leaves (link_call (bare []) (handle_at 1 1 0) 0 (page_number 1) false) done (second (unsaved (root_of 1 1 2), page (names 1 ∷ []) 11) no_leaf)
    ∷ leaves (link_call (bare []) (handle_at 1 1 0) 3 (page_number 2) true) done (second (unsaved (root_of 1 1 2), page (nothing ∷ nothing ∷ nothing ∷ locks_page 2 ∷ []) 11) no_leaf)
    -- by its own resident page, swizzled and not; by its own stored page, and not by the stored root, which is resident
    ∷ refuses (λ s. link_call s (handle_at 3 1 1) 0 (page_number 1) false) both 9
    ∷ refuses (λ s. link_call s (handle_at 3 1 1) 0 (page_number 2) false) both 9
    ∷ refuses (λ s. link_call s (handle_at 1 1 0) 0 (page_number 1) false) (bare_over [] (page [] 30 ∷ page [] 31 ∷ page (names 1 ∷ []) 32 ∷ [])) 9
    ∷ answers (link_call (bare_over [] (page (names 1 ∷ []) 30 ∷ page [] 31 ∷ page [] 32 ∷ [])) (handle_at 1 1 0) 0 (page_number 1) false).answer done
    -- 14: page 2 of the second store comes in with a word naming page 1, which a resident page of the first names, and none of its own
    ∷ leaves (fix_call (bare_over (names 2 ∷ []) (page [] 30 ∷ page [] 31 ∷ page (names 1 ∷ []) 32 ∷ [])) (handle_at 1 1 0) 0) (handle 3 1 2 0)
    (sharing (first_root ∷ (root_of 1 1 2, page (swizzled_to 3 ∷ []) 11) ∷ first_leaf ∷ (of_store 1 (child 1 0 2 1 1), page (names 1 ∷ []) 32) ∷ []) (page [] 30 ∷ page [] 31 ∷ page (names 1 ∷ []) 32 ∷ []))
    ∷ refuses (λ s. fix_call s (handle_at 1 1 0) 0) (bare_over (names 2 ∷ names 1 ∷ []) (page [] 30 ∷ page [] 31 ∷ page (names 1 ∷ []) 32 ∷ [])) 14
    ∷ refuses (λ s. fix_call s (handle_at 1 1 0) 0) (bare_over (names 2 ∷ []) (page [] 30 ∷ page [] 31 ∷ page (names 3 ∷ []) 32 ∷ [])) 14
    ∷ []

-- ---- rule 2

-- three stores of one page, whose roots have these records
abbrev roots : FrameRecord → FrameRecord → FrameRecord → State
roots a b c = machine_of (1 ∷ 1 ∷ 1 ∷ []) 0 ((a, page [] 10) ∷ (b, page [] 11) ∷ (c, page [] 12) ∷ (empty, page [] 13) ∷ []) (page [] 20 ∷ page [] 30 ∷ page [] 40 ∷ [])

-- the first root names nothing, and frames 2 and 3 are these
abbrev others : FrameRecord × List ℕ → FrameRecord × List ℕ → FrameRecord × List ℕ → State
others top one two = sharing ((root_of 0 1 0, page [] 10) ∷ top ∷ one ∷ two ∷ []) of_second

pub stores_agreeing : List Case
stores_agreeing =
    -- one number in two frames and in two words, of two stores
    leaves (settle_call both) done both
    -- "frames 0 to T − 1 hold their roots": frame 1 is empty, holds another page, has a parent frame, a parent slot; two roots in each other's frames
    ∷ leaves (settle_call (roots (root_of 0 0 0) (root_of 1 3 1) (root_of 2 0 0))) done (roots (root_of 0 0 0) (root_of 1 3 1) (root_of 2 0 0))
    ∷ disagrees (roots (root_of 0 0 0) empty (root_of 2 0 0))
    ∷ disagrees (others (of_store 1 (child 0 0 2 0 0), page [] 11) free_frame no_leaf)
    ∷ disagrees (roots (root_of 0 0 0) (of_store 1 (child 1 0 0 0 0)) (root_of 2 0 0))
    ∷ disagrees (roots (root_of 0 0 0) (of_store 1 (child 0 1 0 0 0)) (root_of 2 0 0))
    ∷ disagrees (roots (root_of 0 0 0) (root_of 2 0 0) (root_of 1 0 0))
    -- a store number not below T, of a root and of another page; one in an empty frame's record
    ∷ disagrees (roots (root_of 0 0 0) (root_of 1 0 0) (root_of 3 0 0))
    ∷ disagrees (second second_root (of_store 2 (child 1 0 1 1 0), page [] 13))
    ∷ disagrees (second (root_of 1 1 2, page [] 11) (of_store 1 empty, page [] 13))
    -- "a child's store is its parent's": page 2 of the first store under the second root
    ∷ disagrees (others (root_of 1 1 2, page (swizzled_to 2 ∷ []) 11) (of_store 0 (child 1 0 2 0 0), page [] 12) no_leaf)
    -- "No page is in two frames.", of its store
    ∷ disagrees (others (root_of 1 1 2, page (swizzled_to 2 ∷ swizzled_to 3 ∷ []) 11) (under 1 1 0 0, page [] 12) (of_store 1 (child 1 1 1 0 0), page [] 13))
    -- "Every swizzled word of an occupied frame names an occupied frame, never the root's": a word of the first root names the second's frame, whose record has parent 0 and slot 0
    ∷ disagrees (sharing ((root_of 0 1 0, page (swizzled_to 1 ∷ []) 10) ∷ (root_of 1 1 2, page [] 11) ∷ free_frame ∷ no_leaf ∷ []) of_second)
    -- "Every other word there is 0 or a number below N of a page that isn't resident.", in its store; "No number stands in two such words."
    ∷ disagrees (second (root_of 1 1 2, page (swizzled_to 3 ∷ names 1 ∷ []) 11) second_leaf)
    ∷ disagrees (second (root_of 1 1 2, page (swizzled_to 3 ∷ names 3 ∷ []) 11) second_leaf)
    ∷ disagrees (second second_root (under 1 1 1 0, page (names 2 ∷ []) 13))
    -- "one resident tree under each root": two pages are each other's parents, beside two roots
    ∷ disagrees (others (root_of 1 1 2, page [] 11) (of_store 1 (child 3 0 1 0 0), page (swizzled_to 3 ∷ []) 12) (of_store 1 (child 2 0 2 0 0), page (swizzled_to 2 ∷ []) 13))
    ∷ []

-- the same under other ceilings
abbrev ceiled : List ℕ → State
ceiled ceilings = machine_of ceilings 2 (first_root ∷ second_root ∷ first_leaf ∷ second_leaf ∷ []) (replicate 6 (page [] 20))

pub ceilings_kept : List Case
ceilings_kept =
    -- "records with more pages of a store than its ceiling under 2", "its root included"
    leaves (settle_call (ceiled (2 ∷ 2 ∷ []))) done (ceiled (2 ∷ 2 ∷ []))
    ∷ disagrees (ceiled (1 ∷ 4 ∷ []))
    ∷ disagrees (ceiled (4 ∷ 1 ∷ []))
    ∷ []

-- ---- "There is one plain map per store"

-- the map after a call on `both`
abbrev map_after : Call → List ℕ
map_after c = (next c (start both)).map

-- after these calls, for pages 0 and 1 of the first store and of the second: how often each was pinned and released; and the frames in the answers that pinned those of the second
abbrev balanced : List Call → List ℕ
balanced cs = let b = (run cs (start both)).balance in map b.fixes (0 ∷ 1 ∷ 3 ∷ 4 ∷ []) ++ map b.unfixes (0 ∷ 1 ∷ 3 ∷ 4 ∷ []) ++ map b.frame (3 ∷ 4 ∷ [])

pub map_table : List Case
map_table =
    -- page 1 of the second is the fifth page
    is (map_after (write (handle_at 3 1 1) 0 (7 ∷ []))) (joined (page [] 20 ∷ page [] 21 ∷ page [] 22 ∷ page [] 30 ∷ (replicate 64 0 ++ (7 ∷ []) ++ replicate 191 31) ∷ page [] 32 ∷ []))
    ∷ is (next (link (handle_at 1 1 0) 0 (page_number 1) true) (start (bare []))).map (joined (page [] 20 ∷ page [] 21 ∷ page [] 22 ∷ page (locks_page 1 ∷ []) 30 ∷ page [] 31 ∷ page [] 32 ∷ []))
    ∷ is (next (unlink (handle_at 1 1 0) 0) (start (bare_over (names 1 ∷ []) (page (names 1 ∷ []) 30 ∷ page [] 31 ∷ page [] 32 ∷ [])))).map (joined (page [] 20 ∷ page [] 21 ∷ page [] 22 ∷ of_second))
    -- and so are pins counted
    ∷ is (balanced (root 1 ∷ fix (handle_at 1 1 0) 0 ∷ unfix (handle_at 3 1 1) ∷ [])) (0 ∷ 0 ∷ 1 ∷ 1 ∷ 0 ∷ 0 ∷ 0 ∷ 1 ∷ 1 ∷ 3 ∷ [])
    -- an open in the list may name another T
    ∷ is (let x = next (reopen 3 (1 ∷ 4 ∷ 1 ∷ 0 ∷ [])) (start both) in x.now.pool.stores ∷ x.now.pool.pages ∷ x.now.pool.ceilings) (3 ∷ 2 ∷ 1 ∷ 4 ∷ 1 ∷ 0 ∷ [])
    ∷ []

-- in one, since most of them are about one machine
pub store-rows : all_hold (stores_named ++ stores_refused ++ stores_changed ++ stores_compared) ≡ true
unfolding stores_named stores_refused stores_changed stores_compared all_hold
store-rows = refl

pub stores-agreeing-rows : all_hold (stores_agreeing ++ ceilings_kept) ≡ true
unfolding stores_agreeing ceilings_kept all_hold
stores-agreeing-rows = refl

pub map_rows : all_hold map_table ≡ true
unfolding map_table all_hold next run update
map_rows = refl
