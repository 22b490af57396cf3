-- Request A.11, "Four trays, one set of frames": T, N and the ceilings. Open with several stores, and figures that rule 1 refuses.
use Rattle.std.specs.Prelude.{◌≡◌, refl, true, false, List, [], ◌∷◌, ◌++◌, ℕ, zero, suc, ◌-◌, replicate}
use Rattle.machine.specs.declared.FrameRecord.{FrameRecord}
use Rattle.machine.specs.Machine.{State, with_pool, page_number}
use Rattle.machine.specs.Answers.{refused, done}
use Rattle.machine.specs.Calls.{open_call, root_call, fix_call, unfix_call, show_call, peek_call, word_call, write_call, link_call, unlink_call, evict_call, settle_call, find_call}
use Rattle.chains.specs.ChainRows.{directory_of}
use Rattle.cases.specs.Rows.{joined, empty, root_of, names, swizzled_to, nothing, page, strewn, machine_of, zeroed, with_directory, handle_at, Case, leaves, refuses, all_hold}

-- ---- open

-- so many frames as the host left them
abbrev host : ℕ → List ℕ
host n = joined (replicate n (page (swizzled_to 9 ∷ []) 9))

abbrev unopened : ℕ → List ℕ → ℕ → List (List ℕ) → ℕ → Case
unopened T ceilings F stores n = leaves (open_call T ceilings (host F) (joined stores) (strewn 131)) (refused n) (zeroed (host F) (joined stores) (strewn 131))

abbrev free : FrameRecord × List ℕ
free = (empty, page (swizzled_to 9 ∷ []) 9)

-- six pages, of which the third names page 2
abbrev six : List (List ℕ)
six = page [] 1 ∷ page [] 2 ∷ page (names 2 ∷ []) 3 ∷ page [] 4 ∷ page [] 5 ∷ page [] 6 ∷ []

pub stores_opened : List Case
stores_opened =
    -- "with T stores of N pages each, lent one after another as one buffer, frames 0 to T − 1 hold their roots, entered in the directory in that order": T 2, one number in both stores
    leaves (open_call 2 (2 ∷ 3 ∷ 0 ∷ 0 ∷ []) (host 3) (joined (page (names 1 ∷ []) 1 ∷ page [] 2 ∷ page (nothing ∷ names 1 ∷ []) 3 ∷ page [] 4 ∷ [])) (strewn 131)) done
    (with_directory
    (machine_of (2 ∷ 3 ∷ []) 0 ((root_of 0 0 0, page (names 1 ∷ []) 1) ∷ (root_of 1 0 0, page (nothing ∷ names 1 ∷ []) 3) ∷ free ∷ []) (page (names 1 ∷ []) 1 ∷ page [] 2 ∷ page (nothing ∷ names 1 ∷ []) 3 ∷ page [] 4 ∷ []))
    (directory_of (2 ∷ []) (0 ∷ 1 ∷ [])))
    -- T 3 and 4: "Every store has a ceiling of 1 to F resident pages"
    ∷ leaves (open_call 3 (1 ∷ 4 ∷ 2 ∷ 0 ∷ []) (host 4) (joined (page [] 1 ∷ page [] 2 ∷ page [] 3 ∷ [])) (strewn 131)) done
    (with_directory (machine_of (1 ∷ 4 ∷ 2 ∷ []) 0 ((root_of 0 0 0, page [] 1) ∷ (root_of 1 0 0, page [] 2) ∷ (root_of 2 0 0, page [] 3) ∷ free ∷ []) (page [] 1 ∷ page [] 2 ∷ page [] 3 ∷ []))
    (directory_of (3 ∷ []) (0 ∷ 1 ∷ 2 ∷ [])))
    ∷ leaves (open_call 4 (5 ∷ 1 ∷ 1 ∷ 5 ∷ []) (host 5) (joined (page [] 1 ∷ page [] 2 ∷ page [] 3 ∷ page [] 4 ∷ [])) (strewn 131)) done
    (with_directory
    (machine_of (5 ∷ 1 ∷ 1 ∷ 5 ∷ []) 0 ((root_of 0 0 0, page [] 1) ∷ (root_of 1 0 0, page [] 2) ∷ (root_of 2 0 0, page [] 3) ∷ (root_of 3 0 0, page [] 4) ∷ free ∷ []) (page [] 1 ∷ page [] 2 ∷ page [] 3 ∷ page [] 4 ∷ []))
    (directory_of (4 ∷ []) (0 ∷ 1 ∷ 2 ∷ 3 ∷ [])))
    -- one buffer as T 2 with N 3, and as T 3 with N 2, where 2 isn't below N; as T 4 it leaves a remainder
    ∷ leaves (open_call 2 (1 ∷ 1 ∷ 0 ∷ 0 ∷ []) (host 5) (joined six) (strewn 131)) done (machine_of (1 ∷ 1 ∷ []) 0 ((root_of 0 0 0, page [] 1) ∷ (root_of 1 0 0, page [] 4) ∷ free ∷ free ∷ free ∷ []) six)
    ∷ unopened 3 (1 ∷ 1 ∷ 1 ∷ 0 ∷ []) 5 six 16
    ∷ unopened 4 (1 ∷ 1 ∷ 1 ∷ 1 ∷ []) 5 six 1
    ∷ unopened 2 (1 ∷ 1 ∷ 0 ∷ 0 ∷ []) 5 ((0 ∷ []) ∷ six) 1
    -- "16 is for any of them": in the second store alone a number that stands in two words, one that isn't below N; in the last of four
    ∷ unopened 2 (1 ∷ 1 ∷ 0 ∷ 0 ∷ []) 3 (page [] 1 ∷ page [] 2 ∷ page (names 1 ∷ []) 3 ∷ page (names 1 ∷ []) 4 ∷ []) 16
    ∷ unopened 2 (1 ∷ 1 ∷ 0 ∷ 0 ∷ []) 3 (page [] 1 ∷ page [] 2 ∷ page (names 2 ∷ []) 3 ∷ page [] 4 ∷ []) 16
    ∷ unopened 4 (1 ∷ 1 ∷ 1 ∷ 1 ∷ []) 5 (page [] 1 ∷ page [] 2 ∷ page [] 3 ∷ page (swizzled_to 4 ∷ []) 4 ∷ []) 16
    ∷ []

pub figures_opened : List Case
figures_opened =
    -- "T is 1 to 4 and F at least T + 1." "Figures outside these fall under refusal 1"
    unopened 0 (0 ∷ 0 ∷ 0 ∷ 0 ∷ []) 3 (page [] 1 ∷ []) 1
    ∷ unopened 5 (1 ∷ 1 ∷ 1 ∷ 1 ∷ []) 6 (replicate 5 (page [] 1)) 1
    ∷ unopened 2 (1 ∷ 1 ∷ 0 ∷ 0 ∷ []) 2 (page [] 1 ∷ page [] 2 ∷ []) 1
    ∷ unopened 4 (1 ∷ 1 ∷ 1 ∷ 1 ∷ []) 4 (replicate 4 (page [] 1)) 1
    -- "Every store has a ceiling of 1 to F": none, and one above F, of the first and of the second
    ∷ unopened 2 (0 ∷ 1 ∷ 0 ∷ 0 ∷ []) 3 (page [] 1 ∷ page [] 2 ∷ []) 1
    ∷ unopened 2 (1 ∷ 0 ∷ 0 ∷ 0 ∷ []) 3 (page [] 1 ∷ page [] 2 ∷ []) 1
    ∷ unopened 2 (4 ∷ 1 ∷ 0 ∷ 0 ∷ []) 3 (page [] 1 ∷ page [] 2 ∷ []) 1
    ∷ unopened 2 (1 ∷ 4 ∷ 0 ∷ 0 ∷ []) 3 (page [] 1 ∷ page [] 2 ∷ []) 1
    -- "0 for no store": the first such, and the last
    ∷ unopened 2 (1 ∷ 1 ∷ 1 ∷ 0 ∷ []) 3 (page [] 1 ∷ page [] 2 ∷ []) 1
    ∷ unopened 2 (1 ∷ 1 ∷ 0 ∷ 1 ∷ []) 3 (page [] 1 ∷ page [] 2 ∷ []) 1
    ∷ unopened 1 (3 ∷ 1 ∷ 0 ∷ 0 ∷ []) 3 (page [] 1 ∷ page [] 2 ∷ []) 1
    ∷ []

-- ---- "Figures outside these fall under refusal 1": in every other call

-- so many stores of one page over so many frames, the roots in place: with T as handed, and these ceilings
abbrev figured : ℕ → ℕ → ℕ → List ℕ → State
figured F stores T ceilings =
    let s = machine_of ceilings 0 (roots_of stores ++ replicate (F - stores) (empty, page [] 12)) (replicate stores (page [] 20)) in
    with_pool s (record { records = s.pool.records; count = F; pages = 1; stores = T; ceilings = ceilings; hand = s.pool.hand })
  where
    roots_of : ℕ → List (FrameRecord × List ℕ)
    roots_of zero = []
    roots_of (suc t) = roots_of t ++ ((root_of t 1 0, page [] 20) ∷ [])

-- two of them over three frames
abbrev ceiled : List ℕ → State
ceiled ceilings = figured 3 2 2 ceilings

pub figures_refused : List Case
figures_refused =
    -- ceilings of 1 and of F are accepted; none, and one above F
    leaves (settle_call (ceiled (1 ∷ 3 ∷ 0 ∷ 0 ∷ []))) done (ceiled (1 ∷ 3 ∷ 0 ∷ 0 ∷ []))
    ∷ refuses (λ s. root_call s 1) (ceiled (0 ∷ 3 ∷ 0 ∷ 0 ∷ [])) 1
    ∷ refuses (λ s. fix_call s (handle_at 1 1 0) 0) (ceiled (3 ∷ 0 ∷ 0 ∷ 0 ∷ [])) 1
    ∷ refuses (λ s. unfix_call s (handle_at 1 1 0)) (ceiled (4 ∷ 3 ∷ 0 ∷ 0 ∷ [])) 1
    ∷ refuses (λ s. show_call s (handle_at 1 1 0)) (ceiled (3 ∷ 4 ∷ 0 ∷ 0 ∷ [])) 1
    -- "0 for no store"
    ∷ refuses (λ s. peek_call s 1 (page_number 0)) (ceiled (3 ∷ 3 ∷ 1 ∷ 0 ∷ [])) 1
    ∷ refuses (λ s. word_call s (handle_at 1 1 0) 0) (ceiled (3 ∷ 3 ∷ 0 ∷ 3 ∷ [])) 1
    ∷ refuses (λ s. write_call s (handle_at 1 1 0) 0 []) (ceiled (3 ∷ 3 ∷ 255 ∷ 0 ∷ [])) 1
    -- "T is 1 to 4 and F at least T + 1."
    ∷ refuses (λ s. link_call s (handle_at 1 1 0) 2 (page_number 1) false) (figured 2 2 2 (2 ∷ 2 ∷ 0 ∷ 0 ∷ [])) 1
    ∷ refuses (λ s. unlink_call s (handle_at 1 1 0) 1) (figured 4 4 4 (4 ∷ 4 ∷ 4 ∷ 4 ∷ [])) 1
    ∷ refuses (λ s. evict_call s 1 (page_number 0)) (figured 6 5 5 (6 ∷ 6 ∷ 6 ∷ 6 ∷ [])) 1
    ∷ refuses settle_call (figured 3 0 0 (0 ∷ 0 ∷ 0 ∷ 0 ∷ [])) 1
    -- the store's length is by T
    ∷ refuses (λ s. find_call s 1 (page_number 0)) (figured 4 2 1 (4 ∷ 0 ∷ 0 ∷ 0 ∷ [])) 1
    ∷ refuses settle_call (figured 4 2 3 (4 ∷ 4 ∷ 4 ∷ 0 ∷ [])) 1
    ∷ []

pub stores-opened-rows : all_hold stores_opened ≡ true
unfolding stores_opened all_hold
stores-opened-rows = refl

pub figures-opened-rows : all_hold figures_opened ≡ true
unfolding figures_opened all_hold
figures-opened-rows = refl

pub figures-refused-rows : all_hold figures_refused ≡ true
unfolding figures_refused all_hold
figures-refused-rows = refl
