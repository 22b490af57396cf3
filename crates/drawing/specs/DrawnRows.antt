-- Records drawn on small machines, computed from the definitions.
use Rattle.std.specs.Prelude.{◌≡◌, refl, true, List, [], ◌∷◌, ◌++◌, ℕ, replicate}
use Rattle.machine.specs.Machine.{State, state}
use Rattle.machine.specs.Answers.{refused}
use Rattle.cases.specs.Rows.{empty, resident, root_of, under, names, swizzled_to, page, machine, machine_of, with_directory, Case, is, answers, all_hold}
use Rattle.recording.specs.Listing.{call_of, record_out}
use Rattle.generator.specs.declared.Generator.{Generator}
use Rattle.generator.specs.Generator.{xor_left, xor_right, number_after}
use Rattle.drawing.specs.Drawing.{fields_from, parent_page, entry_from, refused_draw, drawn_out}

-- 4 frames and 3 pages: page 1 in frame 2, frames 1 and 3 are empty
abbrev pub sparse : ℕ → State
sparse hand =
    machine hand
    ((resident 0 0 0, page (swizzled_to 2 ∷ names 2 ∷ []) 10) ∷ (empty, page [] 11) ∷ (resident 1 0 0, page [] 12) ∷ (empty, page [] 13) ∷ [])
    (page (names 1 ∷ []) 20 ∷ page [] 21 ∷ page [] 22 ∷ [])

-- 4 frames and two stores of 3 pages each: page 1 of store 1 in frame 2, pinned, and frame 3 is empty
abbrev shared : State
shared =
    machine_of (3 ∷ 2 ∷ []) 3
    ((root_of 0 0 0, page (names 1 ∷ []) 10) ∷ (root_of 1 0 0, page (swizzled_to 2 ∷ names 2 ∷ []) 11) ∷ (under 1 1 1 0, page [] 12) ∷ (empty, page [] 13) ∷ [])
    (page [] 20 ∷ page [] 21 ∷ page [] 22 ∷ page (names 1 ∷ []) 30 ∷ page [] 31 ∷ page [] 32 ∷ [])

-- the first with a byte less of the store
abbrev short : State
short = let s = sparse 1 in state s.pool s.frames (page (names 1 ∷ []) 20 ++ page [] 21 ++ replicate 255 0) s.directory

-- and with so many bytes of 0 for the directory
abbrev unlisted : ℕ → State
unlisted n = with_directory (sparse 1) (replicate n 0)

abbrev at : ℕ → Generator
at n = record { number = n }

-- a record drawn from the number n: the refusal, the number after it, the bytes
abbrev draws : State → ℕ → List ℕ → Case
draws s n says = let d = drawn_out s (at n) in is (d.refusal ∷ d.generator.number ∷ d.entry) says

pub draw_table : List Case
draw_table =
    -- "Five draws, each giving the number after it, make a call record: call, frame, page, slot and offset are remainders by 9 (plus 1), F, N, 16 and 193; length is 0 and the data zero."
    draws (sparse 1) 1 (0 ∷ 2398689233 ∷ 1 ∷ 1 ∷ 0 ∷ 0 ∷ 15 ∷ 120 ∷ 0 ∷ replicate 9 0)
    ∷ draws (sparse 1) 4294967295 (0 ∷ 2049502865 ∷ 4 ∷ 3 ∷ 0 ∷ 0 ∷ 10 ∷ 160 ∷ 0 ∷ replicate 9 0)
    ∷ is (entry_from (fields_from 64 4096 2463534242) 4095) (2 ∷ 58 ∷ 160 ∷ 9 ∷ 14 ∷ 81 ∷ 0 ∷ 255 ∷ 15 ∷ replicate 7 0)
    -- only the seed is read as another number: from 0 all five draws give 0
    ∷ draws (sparse 1) 0 (0 ∷ 0 ∷ 1 ∷ replicate 15 0)
    -- "Link's parent page is the page resident in the drawn frame": frames 2 and 0
    ∷ draws (sparse 1) 100 (0 ∷ 1736819584 ∷ 5 ∷ 2 ∷ 2 ∷ 0 ∷ 9 ∷ 39 ∷ 0 ∷ 1 ∷ replicate 8 0)
    ∷ draws (sparse 1) 49 (0 ∷ 569036774 ∷ 5 ∷ 0 ∷ 1 ∷ 0 ∷ 9 ∷ 13 ∷ 0 ∷ replicate 9 0)
    -- "else 0": frame 3 is empty
    ∷ draws (sparse 1) 97 (0 ∷ 773620837 ∷ 5 ∷ 3 ∷ 2 ∷ 0 ∷ 10 ∷ 23 ∷ 0 ∷ replicate 9 0)
    -- of whichever store, and N is that of each: it is page 1 of store 1. The record's handle is of store 0, and refused by 3
    ∷ draws shared 206 (0 ∷ 3619323272 ∷ 5 ∷ 2 ∷ 2 ∷ 0 ∷ 11 ∷ 62 ∷ 0 ∷ 1 ∷ replicate 8 0)
    ∷ answers (record_out shared (drawn_out shared (at 206)).entry).answer (refused 3)
    -- no other call has a parent's page: a write, by frame 2
    ∷ draws (sparse 1) 17 (0 ∷ 689350324 ∷ 4 ∷ 2 ∷ 1 ∷ 0 ∷ 5 ∷ 65 ∷ 0 ∷ replicate 9 0)
    -- refused by 1, the store or the directory being a byte short, and by 2, the hand being no frame's or no page in a chain: 16 zeros, and the number stays
    ∷ draws short 100 (1 ∷ 100 ∷ replicate 16 0)
    ∷ draws (unlisted 130) 100 (1 ∷ 100 ∷ replicate 16 0)
    ∷ draws (sparse 4) 100 (2 ∷ 100 ∷ replicate 16 0)
    ∷ draws (unlisted 131) 100 (2 ∷ 100 ∷ replicate 16 0)
    ∷ []

pub drawn-rows : all_hold draw_table ≡ true
unfolding draw_table all_hold record_out call_of drawn_out refused_draw fields_from parent_page number_after xor_left xor_right
drawn-rows = refl
