-- "When records and frames agree": a machine that agrees, and for each sentence machines that break it alone (2). Their directories have just the occupied frames; those that break its own sentences stand in DirectoryRows.
use Rattle.std.specs.Prelude.{◌≡◌, refl, true, List, [], ◌∷◌, ℕ, set}
use Rattle.machine.specs.declared.FrameRecord.{FrameRecord}
use Rattle.machine.specs.Machine.{State, with_pool, with_records}
use Rattle.machine.specs.Answers.{done}
use Rattle.machine.specs.Calls.{settle_call}
use Rattle.chains.specs.ChainRows.{directory_of}
use Rattle.cases.specs.Rows.{made, empty, child, resident, names, swizzled_to, nothing, page, machine, with_directory, Case, leaves, disagrees, all_hold}

-- three frames over four pages, all clean: the hand, and the record and the first words of each frame
abbrev three : ℕ → FrameRecord × List (List ℕ) → FrameRecord × List (List ℕ) → FrameRecord × List (List ℕ) → State
three hand a b c = machine hand ((a.0, page a.1 10) ∷ (b.0, page b.1 11) ∷ (c.0, page c.1 12) ∷ []) (page [] 20 ∷ page [] 21 ∷ page [] 22 ∷ page [] 23 ∷ [])

abbrev root : FrameRecord × List (List ℕ)
root = (resident 0 1 3, swizzled_to 1 ∷ names 2 ∷ [])

-- one in frame 1 by the root's slot 0
abbrev one : FrameRecord × List (List ℕ)
one = (resident 1 0 3, names 3 ∷ [])

-- an empty frame, whose bytes are free
abbrev free : FrameRecord × List (List ℕ)
free = (empty, swizzled_to 1 ∷ names 9 ∷ names 2 ∷ [])

-- a record from F on
abbrev beyond : State → FrameRecord → State
beyond s r = with_pool s (with_records s.pool (set s.pool.records 3 r))

pub agree_table : List Case
agree_table =
    leaves (settle_call (three 2 root one free)) done (three 2 root one free)
    -- "Frame 0 holds page 0 and has no parent (its two parent fields are 0)."
    ∷ disagrees (three 2 (empty, []) free free)
    ∷ disagrees (three 2 (child 0 0 3 0 0, []) free free)
    ∷ disagrees (three 2 (child 0 1 0 1 3, swizzled_to 1 ∷ names 2 ∷ []) one free)
    ∷ disagrees (three 2 (child 1 0 0 1 3, swizzled_to 1 ∷ names 2 ∷ []) one free)
    -- "No page is in two frames.", both in the page's chain
    ∷ disagrees (with_directory (three 2 (resident 0 1 3, swizzled_to 1 ∷ swizzled_to 2 ∷ []) one (child 0 1 1 0 0, [])) (directory_of (1 ∷ 2 ∷ []) (0 ∷ 3 ∷ [])))
    -- "The hand is below F."
    ∷ disagrees (three 3 root one free)
    -- "Every field is in its range."
    ∷ disagrees (three 2 root (child 0 0 4 0 0, []) free)
    ∷ disagrees (three 2 root (resident 1 65536 0, []) free)
    ∷ disagrees (three 2 root (resident 1 0 4, []) free)
    ∷ disagrees (three 2 root (made 2 0 3 0 0 0 1, names 3 ∷ []) free)
    ∷ disagrees (three 2 root (made 1 2 3 0 0 0 1, names 3 ∷ []) free)
    -- "An empty frame's record, and any record from F on, is all zero"
    ∷ disagrees (three 2 root one (made 0 0 1 0 0 0 0, []))
    ∷ disagrees (beyond (three 2 root one free) (child 0 0 2 0 0))
    ∷ []

pub words : List Case
words =
    -- "Every other occupied frame's parent is occupied, and the parent's word at the parent slot is swizzled to it."
    disagrees (three 2 (resident 0 1 3, []) (child 2 0 1 0 0, []) (empty, swizzled_to 1 ∷ []))
    ∷ disagrees (three 2 (resident 0 1 3, []) one free)
    -- "Every swizzled word of an occupied frame names an occupied frame, never the root's, whose record points back to that word."
    ∷ disagrees (three 2 (resident 0 1 3, swizzled_to 1 ∷ swizzled_to 2 ∷ []) one free)
    ∷ disagrees (three 2 (resident 0 1 3, swizzled_to 0 ∷ []) free free)
    ∷ disagrees (three 2 (resident 0 1 3, swizzled_to 1 ∷ swizzled_to 1 ∷ []) one free)
    -- "Every other word there is 0 or a number below N of a page that isn't resident."
    ∷ disagrees (three 2 root (resident 1 0 3, names 4 ∷ []) free)
    ∷ disagrees (three 2 root (resident 1 0 3, names 1 ∷ []) free)
    -- "No number stands in two such words."
    ∷ disagrees (three 2 root (resident 1 0 3, names 2 ∷ []) free)
    ∷ disagrees (three 2 root (resident 1 0 3, names 3 ∷ nothing ∷ names 3 ∷ []) free)
    -- "Following parents from any occupied frame reaches frame 0."
    ∷ disagrees (three 2 (resident 0 1 3, []) (child 2 0 1 0 0, swizzled_to 2 ∷ []) (child 1 0 2 0 0, swizzled_to 1 ∷ []))
    ∷ []

pub agree-rows : all_hold agree_table ≡ true
unfolding agree_table all_hold
agree-rows = refl

pub agree-word-rows : all_hold words ≡ true
unfolding words all_hold
agree-word-rows = refl
