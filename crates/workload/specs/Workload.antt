-- Request A.10, "a load from a seed", called a workload here: so many records, each drawn on the pool as the calls before left it, and run.
use Rattle.std.specs.Prelude.{ℕ, zero, suc, ◌*◌, List, [], ◌++◌, replicate}
use Rattle.page.specs.Figures.{page_size}
use Rattle.machine.specs.Machine.{State}
use Rattle.chains.specs.Chain.{directory_size}
use Rattle.machine.specs.Answers.{Out}
use Rattle.recording.specs.Listing.{listing_frames, open_listing, listed}
use Rattle.printing.specs.Printing.{with_listed}
use Rattle.generator.specs.declared.Generator.{Generator}
use Rattle.generator.specs.Generator.{seed_read}
use Rattle.drawing.specs.declared.Drawn.{Drawn}
use Rattle.drawing.specs.Drawing.{drawn_out}
use Rattle.checksum.specs.declared.Sum.{Sum}
use Rattle.checksum.specs.Parts.{added}

-- what records leave: their bytes, their lines, the state and the generator
pub record Worked : Type 0 where
  pub entries : List ℕ
  pub text : List ℕ
  pub left : State
  pub generator : Generator

abbrev pub worked : List ℕ → List ℕ → State → Generator → Worked
worked b t s g = record { entries = b; text = t; left = s; generator = g }

-- before the first
abbrev pub begun : State → Generator → Worked
begun s g = worked [] [] s g

-- one more, as it was drawn: the listing's line for it, and the state that it leaves
abbrev pub with_drawn : Worked → Drawn → Worked
with_drawn w d =
    let p = with_listed w.text (listed w.left d.entry) in
    worked (w.entries ++ d.entry) p.text p.left d.generator

-- the next one, and n more
abbrev pub with_next : Worked → Worked
with_next w = with_drawn w (drawn_out w.left w.generator)

unfoldable pub worked_from : ℕ → Worked → Worked
worked_from zero w = w
worked_from (suc n) w = worked_from n (with_next w)

-- "a pool just opened over 16 zero pages and 4 frames", its directory zero too before it
abbrev pub listing_pool : Out
listing_pool = open_listing (replicate (listing_frames * page_size) 0) (replicate (16 * page_size) 0) (replicate directory_size 0)

-- n records from a seed
unfoldable pub workload_of : ℕ → ℕ → Worked
workload_of seed n = worked_from n (begun listing_pool.left (record { number = seed_read seed }))

-- what records leave, with the sum that their lines were added to
pub record Summed : Type 0 where
  pub left : State
  pub generator : Generator
  pub sum : Sum

abbrev pub summed : State → Generator → Sum → Summed
summed s g c = record { left = s; generator = g; sum = c }

-- n records from a state on
unfoldable pub summed_by : ℕ → State → Generator → Sum → Summed
summed_by n s g c = let w = worked_from n (begun s g) in summed w.left w.generator (added c w.text)
