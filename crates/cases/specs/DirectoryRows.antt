-- Request A.3: what open, loading and eviction do to the directory, what find and peek give by it, and where it is refused. Rows of its bytes and chains by themselves stand in chains/specs/ChainRows.
use Rattle.std.specs.Prelude.{◌≡◌, refl, true, false, List, [], ◌∷◌, ◌++◌, ℕ, replicate}
use Rattle.machine.specs.declared.FrameRecord.{FrameRecord}
use Rattle.machine.specs.Machine.{State, state, page_number}
use Rattle.machine.specs.Directory.{chains_agree, residents_of}
use Rattle.machine.specs.Moves.{evicted}
use Rattle.machine.specs.Answers.{Answer, refused, done, handle, payload, in_frames, in_store, frame, nowhere, Out}
use Rattle.machine.specs.Calls.{root_call, fix_call, miss_out, unfix_call, show_call, payload_place, peek_call, word_call, write_call, link_call, unlink_call, evict_call, settle_call, found_answer, find_call}
use Rattle.chains.specs.ChainRows.{directory_of}
use Rattle.cases.specs.Rows.{joined, empty, child, resident, names, swizzled_to, page, strewn, assembled, machine, zeroed, with_directory, open_one, handle_of, flag, Case, is, also, answers, leaves, refuses, all_hold}

-- ---- open

abbrev host : List ℕ
host = joined (page [] 8 ∷ page [] 9 ∷ [])

-- a store of two pages: page 1, and so the store, is sound where it names nothing
abbrev two_pages : List (List ℕ) → List ℕ
two_pages words = joined (page [] 1 ∷ page words 2 ∷ [])

pub opened_table : List Case
opened_table =
    -- "Open leaves page 0 alone in it", whatever stood there
    leaves (open_one host (two_pages []) (strewn 131)) done (machine 0 ((resident 0 0 0, page [] 1) ∷ (empty, page [] 9) ∷ []) (page [] 1 ∷ page [] 2 ∷ []))
    -- refused, it leaves the directory as found: by 16, and by 1 for a wrong length
    ∷ leaves (open_one host (two_pages (names 2 ∷ [])) (strewn 131)) (refused 16) (zeroed host (two_pages (names 2 ∷ [])) (strewn 131))
    ∷ leaves (open_one host (two_pages []) (strewn 130)) (refused 1) (zeroed host (two_pages []) (strewn 130))
    ∷ leaves (open_one host (two_pages []) (strewn 132)) (refused 1) (zeroed host (two_pages []) (strewn 132))
    ∷ leaves (open_one host (two_pages []) []) (refused 1) (zeroed host (two_pages []) [])
    ∷ []

-- ---- "A directory of wrong length falls under refusal 1": in every other call

-- three frames over four pages, page 1 in frame 1 by the root's slot 0, page 2 named by its slot 1
abbrev small : List ℕ → State
small d = with_directory (machine 0 ((resident 0 1 0, page (swizzled_to 1 ∷ names 2 ∷ []) 10) ∷ (resident 1 0 0, page [] 11) ∷ (empty, page [] 12) ∷ []) (replicate 4 (page [] 20))) d

abbrev cut : State
cut = small ((1 ∷ 2 ∷ []) ++ replicate 128 0)

abbrev long : State
long = small ((1 ∷ 2 ∷ []) ++ replicate 130 0)

pub length_table : List Case
length_table =
    refuses (λ s. root_call s 0) cut 1
    ∷ refuses (λ s. fix_call s (handle_of 0 0) 0) cut 1
    ∷ refuses (λ s. unfix_call s (handle_of 0 0)) cut 1
    ∷ refuses (λ s. show_call s (handle_of 0 0)) cut 1
    ∷ refuses (λ s. peek_call s 0 (page_number 0)) cut 1
    ∷ refuses (λ s. word_call s (handle_of 0 0) 0) cut 1
    ∷ refuses (λ s. write_call s (handle_of 0 0) 0 []) cut 1
    ∷ refuses (λ s. link_call s (handle_of 0 0) 2 (page_number 3) false) cut 1
    ∷ refuses (λ s. unlink_call s (handle_of 0 0) 1) cut 1
    ∷ refuses (λ s. evict_call s 0 (page_number 1)) cut 1
    ∷ refuses settle_call cut 1
    ∷ refuses (λ s. find_call s 0 (page_number 0)) cut 1
    ∷ refuses (λ s. root_call s 0) long 1
    ∷ refuses settle_call long 1
    ∷ refuses (λ s. find_call s 0 (page_number 0)) long 1
    ∷ leaves (settle_call (small (directory_of (1 ∷ 2 ∷ []) []))) done (small (directory_of (1 ∷ 2 ∷ []) []))
    ∷ []

-- ---- "one whose chains don't give exactly the resident pages of their remainders, each once in any order, or with another byte not 0, under 2"

-- the same with page 2 in frame 2
abbrev full : List ℕ → State
full d =
    with_directory (machine 0 ((resident 0 1 0, page (swizzled_to 1 ∷ swizzled_to 2 ∷ []) 10) ∷ (resident 1 0 0, page [] 11) ∷ (resident 2 0 0, page [] 12) ∷ []) (replicate 4 (page [] 20))) d

-- the directory doesn't agree with the records
abbrev misleads : State → Case
misleads s = is (flag (chains_agree s.pool s.directory) ∷ []) (0 ∷ [])

pub mislead_table : List Case
mislead_table =
    -- a resident page in no chain: the root, another
    misleads (small (directory_of (0 ∷ 2 ∷ []) []))
    ∷ misleads (small (directory_of (1 ∷ []) []))
    -- in another chain in place of its own, and beside its own
    ∷ misleads (small (directory_of (1 ∷ 0 ∷ 2 ∷ []) []))
    ∷ misleads (small (directory_of (1 ∷ 2 ∷ 2 ∷ []) []))
    -- an empty frame at a head, after another, and in the root's chain; a frame that isn't below F, and bytes that are no frame's
    ∷ misleads (small (directory_of (1 ∷ 2 ∷ 3 ∷ []) []))
    ∷ misleads (small (directory_of (1 ∷ 2 ∷ []) (0 ∷ 3 ∷ [])))
    ∷ misleads (small (directory_of (1 ∷ 2 ∷ []) (3 ∷ [])))
    ∷ misleads (small (directory_of (1 ∷ 2 ∷ []) (4 ∷ [])))
    ∷ misleads (small (directory_of (1 ∷ 2 ∷ 0 ∷ 4 ∷ []) []))
    ∷ misleads (small (directory_of (1 ∷ 2 ∷ []) (65 ∷ [])))
    ∷ misleads (small (directory_of (1 ∷ 2 ∷ 0 ∷ 255 ∷ []) []))
    -- a chain into itself
    ∷ misleads (small (directory_of (1 ∷ 2 ∷ []) (0 ∷ 2 ∷ [])))
    ∷ misleads (small (directory_of (1 ∷ 2 ∷ []) (1 ∷ [])))
    -- two chains that share a tail; one that leads into another's head
    ∷ misleads (full (directory_of (1 ∷ 2 ∷ 3 ∷ []) (0 ∷ 1 ∷ 1 ∷ [])))
    ∷ misleads (full (directory_of (1 ∷ 2 ∷ 3 ∷ []) (0 ∷ 3 ∷ [])))
    -- frames that lead to each other, with no head before them
    ∷ misleads (full (directory_of (1 ∷ []) (0 ∷ 3 ∷ 2 ∷ [])))
    -- "another byte not 0": of an empty frame, of the first from F on, of the last
    ∷ misleads (small (directory_of (1 ∷ 2 ∷ []) (0 ∷ 0 ∷ 1 ∷ [])))
    ∷ misleads (small (directory_of (1 ∷ 2 ∷ []) (0 ∷ 0 ∷ 0 ∷ 1 ∷ [])))
    ∷ misleads (small (directory_of (1 ∷ 2 ∷ []) (replicate 63 0 ++ (1 ∷ []))))
    -- and the last head
    ∷ misleads (small ((1 ∷ 2 ∷ []) ++ replicate 64 0 ++ (1 ∷ []) ++ replicate 64 0))
    -- records and frames agree: it is the directory that is refused, in any call
    ∷ leaves (settle_call (full (directory_of (1 ∷ 2 ∷ 3 ∷ []) []))) done (full (directory_of (1 ∷ 2 ∷ 3 ∷ []) []))
    ∷ refuses settle_call (full (directory_of (1 ∷ 2 ∷ []) [])) 2
    ∷ refuses (λ s. unfix_call s (handle_of 0 0)) (full (directory_of (1 ∷ 2 ∷ 3 ∷ []) (0 ∷ 3 ∷ []))) 2
    ∷ refuses (λ s. find_call s 0 (page_number 0)) (full (directory_of (1 ∷ 2 ∷ 3 ∷ []) (0 ∷ 0 ∷ 0 ∷ 1 ∷ []))) 2
    ∷ refuses (λ s. peek_call s 0 (page_number 3)) (full (directory_of (1 ∷ 2 ∷ 3 ∷ 4 ∷ []) [])) 2
    ∷ []

-- ---- pages of one remainder

-- four frames over 136 pages of zeros, the hand at 1: the root's words, the records of frames 1 to 3, and the directory. Pages 1, 68 and 135 have remainder 1. Of the store three pages are there, which is what moves and searches read; calls get it whole.
abbrev kin : List (List ℕ) → FrameRecord → FrameRecord → FrameRecord → List ℕ → State
kin words one two three d = assembled (4 ∷ []) 136 1 (resident 0 1 0 ∷ one ∷ two ∷ three ∷ []) (page words 10 ++ replicate 768 0) (replicate 768 0) d

abbrev stored : State → State
stored s = state s.pool s.frames (replicate 34816 0) s.directory

-- page 68 in frame 2 by the root's slot 1, page 135 in frame 3 by its slot 2; page 1 not resident, by its slot 0, and page 2, by its slot 3
abbrev two_kin : List ℕ → State
two_kin d = kin (names 1 ∷ swizzled_to 2 ∷ swizzled_to 3 ∷ names 2 ∷ []) empty (child 0 1 68 0 0) (child 0 2 135 0 0) d

-- with page 1 in frame 1
abbrev three_kin : List ℕ → State
three_kin d = kin (swizzled_to 1 ∷ swizzled_to 2 ∷ swizzled_to 3 ∷ names 2 ∷ []) (child 0 0 1 0 0) (child 0 1 68 0 0) (child 0 2 135 0 0) d

-- chain 0 has the root; chain 1 has frames 3 and 2; 2 and 3; 1, 3 and 2; 3, 1 and 2
abbrev newer : List ℕ
newer = directory_of (1 ∷ 4 ∷ []) (0 ∷ 0 ∷ 0 ∷ 3 ∷ [])

abbrev older : List ℕ
older = directory_of (1 ∷ 3 ∷ []) (0 ∷ 0 ∷ 4 ∷ [])

abbrev newest : List ℕ
newest = directory_of (1 ∷ 2 ∷ []) (0 ∷ 4 ∷ 0 ∷ 3 ∷ [])

abbrev mixed : List ℕ
mixed = directory_of (1 ∷ 4 ∷ []) (0 ∷ 3 ∷ 0 ∷ 2 ∷ [])

-- a call's answer and the directory that it leaves
abbrev enters : Out → Answer → List ℕ → Case
enters o a d = also o.left.directory d (answers o.answer a)

pub loading_table : List Case
loading_table =
    -- "an entry added at its chain's head on loading": page 1 before others, in whatever order; page 2, alone
    enters (fix_call (stored (two_kin newer)) (handle_of 0 0) 0) (handle 1 0 1 0) newest
    ∷ enters (miss_out (two_kin older) 0 0 0 1) (handle 1 0 1 0) (directory_of (1 ∷ 2 ∷ []) (0 ∷ 3 ∷ 4 ∷ []))
    ∷ enters (miss_out (two_kin newer) 0 3 0 2) (handle 1 0 2 0) (directory_of (1 ∷ 4 ∷ 2 ∷ []) (0 ∷ 0 ∷ 0 ∷ 3 ∷ []))
    -- "and taken out on eviction": the head, one between, and the last; the others keep their order
    ∷ is (evicted (three_kin newest) 1).directory newer
    ∷ is (evicted (three_kin newest) 3).directory (directory_of (1 ∷ 2 ∷ []) (0 ∷ 3 ∷ []))
    ∷ is (evicted (three_kin newest) 2).directory (directory_of (1 ∷ 2 ∷ []) (0 ∷ 4 ∷ []))
    -- "each once in any order": another order is accepted, and a hit moves nothing
    ∷ enters (fix_call (stored (three_kin mixed)) (handle_of 0 0) 1) (handle 2 0 68 0) mixed
    ∷ []

-- three frames, full, the hand at 2: page 68 in frame 1 by the root's slot 0, page 135 in frame 2 by its slot 1, and the page that its slot 2 names
abbrev crammed : ℕ → List ℕ → State
crammed p d =
    assembled (3 ∷ []) 136 2 (resident 0 1 0 ∷ child 0 0 68 0 0 ∷ child 0 1 135 0 0 ∷ []) (page (swizzled_to 1 ∷ swizzled_to 2 ∷ names p ∷ []) 10 ++ replicate 512 0) (replicate 768 0) d

pub victim_table : List Case
victim_table =
    -- in a sweep's load the victim, in frame 2, is out before the newcomer is in, which takes its frame: of one remainder, and of two
    enters (miss_out (crammed 1 (directory_of (1 ∷ 2 ∷ []) (0 ∷ 3 ∷ []))) 0 2 0 1) (handle 2 0 1 1) (directory_of (1 ∷ 3 ∷ []) (0 ∷ 0 ∷ 2 ∷ []))
    ∷ enters (miss_out (crammed 2 (directory_of (1 ∷ 3 ∷ []) (0 ∷ 0 ∷ 2 ∷ []))) 0 2 0 2) (handle 2 0 2 1) (directory_of (1 ∷ 2 ∷ 3 ∷ []) [])
    ∷ []

pub found_table : List Case
found_table =
    -- "the place of the page's entry in its chain, from 1", in the order that stands
    enters (find_call (stored (three_kin newest)) 0 (page_number 68)) (frame 2 3) newest
    ∷ answers (found_answer (three_kin newest) 0 1) (frame 1 1)
    ∷ answers (found_answer (three_kin newest) 0 135) (frame 3 2)
    ∷ answers (found_answer (three_kin newest) 0 0) (frame 0 1)
    ∷ answers (found_answer (three_kin mixed) 0 135) (frame 3 1)
    ∷ answers (found_answer (three_kin mixed) 0 1) (frame 1 2)
    ∷ answers (found_answer (three_kin mixed) 0 68) (frame 2 3)
    -- "or the chain's length if absent", 0 for an empty one
    ∷ enters (find_call (stored (two_kin older)) 0 (page_number 1)) (nowhere 2) older
    ∷ answers (found_answer (two_kin older) 0 67) (nowhere 1)
    ∷ answers (found_answer (two_kin older) 0 66) (nowhere 0)
    -- "the number of resident pages with that remainder"
    ∷ is (residents_of (three_kin newest).pool 0 ∷ residents_of (three_kin newest).pool 1 ∷ residents_of (three_kin newest).pool 2 ∷ residents_of (two_kin older).pool 1 ∷ []) (1 ∷ 3 ∷ 0 ∷ 2 ∷ [])
    -- peek goes by it too, and gives no count
    ∷ answers (payload_place (three_kin mixed) 0 68) (payload in_frames 576 192)
    ∷ answers (payload_place (two_kin older) 0 1) (payload in_store 320 192)
    ∷ []

-- "each once": frames of one remainder that lead to each other with no head before them; a chain into itself behind its head; one of them left out
pub kin_table : List Case
kin_table =
    misleads (three_kin (directory_of (1 ∷ 2 ∷ []) (0 ∷ 0 ∷ 4 ∷ 3 ∷ [])))
    ∷ misleads (three_kin (directory_of (1 ∷ 2 ∷ []) (0 ∷ 3 ∷ 4 ∷ 3 ∷ [])))
    ∷ misleads (three_kin (directory_of (1 ∷ 2 ∷ []) (0 ∷ 3 ∷ [])))
    ∷ []

pub opened-directory-rows : all_hold opened_table ≡ true
unfolding opened_table all_hold
opened-directory-rows = refl

pub length-rows : all_hold length_table ≡ true
unfolding length_table all_hold
length-rows = refl

pub mislead-rows : all_hold mislead_table ≡ true
unfolding mislead_table all_hold
mislead-rows = refl

pub loading-rows : all_hold loading_table ≡ true
unfolding loading_table all_hold
loading-rows = refl

pub victim-rows : all_hold victim_table ≡ true
unfolding victim_table all_hold
victim-rows = refl

pub found_rows : all_hold found_table ≡ true
unfolding found_table all_hold
found_rows = refl

pub kin-rows : all_hold kin_table ≡ true
unfolding kin_table all_hold
kin-rows = refl
