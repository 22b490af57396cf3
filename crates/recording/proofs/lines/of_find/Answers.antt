-- `recording::lines::of_find` meets its contract: a frame, absent, or a refusal. Assumes nothing.
use Rattle.recording.specs.Lines.{line_for}
use Rattle.recording.proofs.ListingLaws.{frame-line}
use Rattle.recording.proofs.lines.of_find.Goals as goal

pub returns-in-Some : goal.returns-in-Some
returns-in-Some c = rw (c.in-Ok.is, c.in-Some.is) (frame-line c.args.entry.now c.page.result _ c.placed.ensures c.page.ensures)

pub returns-in-None : goal.returns-in-None
unfolding line_for
returns-in-None c = rw (c.in-Ok.is, c.in-None.is) c.bare.ensures

pub returns-in-Err : goal.returns-in-Err
unfolding line_for
returns-in-Err c = rw c.in-Err.is c.refused.ensures
