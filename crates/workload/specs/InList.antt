-- What is claimed of every record of a workload on the listing's pool.
use Rattle.std.specs.Prelude.{◌≢◌}
use Rattle.machine.specs.Answers.{refused}
use Rattle.recording.specs.Listing.{record_out}
use Rattle.drawing.specs.Drawing.{drawn_out}
use Rattle.drawing.specs.Refusals.{MeetsThese}
use Rattle.drawing.specs.DrawsInList.{DrawnThere}
use Rattle.workload.specs.Workload.{Worked}

-- the record that comes after n of any seed is drawn in its ranges, and meets no refusal but those of can_meet, nor 14, nor 15, nor 26
pub record Works (w : Worked) : Type 0 where
  pub drawn : DrawnThere w.left w.generator
  pub meets : MeetsThese (record_out w.left (drawn_out w.left w.generator).entry).answer
  -- 14 is "only after outside alteration"
  pub unaltered : (record_out w.left (drawn_out w.left w.generator).entry).answer ≢ refused 14
  -- request A.11: with one store, a load that is denied a frame meets 27
  pub single : (record_out w.left (drawn_out w.left w.generator).entry).answer ≢ refused 15
  -- request A.8: no page is locked, since the listing's links take no mark
  pub unlocked : (record_out w.left (drawn_out w.left w.generator).entry).answer ≢ refused 26
