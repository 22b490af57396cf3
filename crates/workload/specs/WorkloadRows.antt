-- Two records of a workload on a small machine, computed from the definitions.
use Rattle.std.specs.Prelude.{◌≡◌, refl, true, List, [], ◌∷◌, ◌++◌, ℕ, replicate}
use Rattle.cases.specs.Rows.{Case, is, all_hold}
use Rattle.recording.specs.Listing.{call_of, record_out}
use Rattle.printing.specs.Printing.{places, with_number}
use Rattle.generator.specs.Generator.{xor_left, xor_right, number_after}
use Rattle.drawing.specs.Drawing.{fields_from, parent_page, drawn_out}
use Rattle.drawing.specs.DrawnRows.{sparse}
use Rattle.workload.specs.Workload.{begun, worked_from}

-- two records from the number n on: the number after them, their bytes, their lines
abbrev works : ℕ → List ℕ → Case
works n says = let w = worked_from 2 (begun (sparse 1) (record { number = n })) in is (w.generator.number ∷ w.entries ++ w.text) says

pub work_table : List Case
work_table =
    -- root, and an unfix of what it pinned: each is run on what the one before left, "1 0 0 0" and "3 0 0 0"
    works 2747
    (1299351098 ∷ 1 ∷ 0 ∷ 2 ∷ 0 ∷ 0 ∷ 113 ∷ replicate 10 0 ++ (3 ∷ 0 ∷ 0 ∷ 0 ∷ 9 ∷ 21 ∷ replicate 10 0)
    ++ (49 ∷ 32 ∷ 48 ∷ 32 ∷ 48 ∷ 32 ∷ 48 ∷ 10 ∷ 51 ∷ 32 ∷ 48 ∷ 32 ∷ 48 ∷ 32 ∷ 48 ∷ 10 ∷ []))
    -- an evict of page 1, and a link by its frame, where no page is resident any more: "7 0 0 0" and "5 3 0 0"
    ∷ works 233
    (1104900250 ∷ 7 ∷ 3 ∷ 1 ∷ 0 ∷ 2 ∷ 179 ∷ replicate 10 0 ++ (5 ∷ 2 ∷ 1 ∷ 0 ∷ 7 ∷ 147 ∷ replicate 10 0)
    ++ (55 ∷ 32 ∷ 48 ∷ 32 ∷ 48 ∷ 32 ∷ 48 ∷ 10 ∷ 53 ∷ 32 ∷ 51 ∷ 32 ∷ 48 ∷ 32 ∷ 48 ∷ 10 ∷ []))
    ∷ []

pub work-rows : all_hold work_table ≡ true
unfolding work_table all_hold worked_from drawn_out fields_from parent_page number_after xor_left xor_right record_out call_of with_number places
work-rows = refl
