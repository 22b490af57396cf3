-- `recording::lines::of_fix` meets its contract. Assumes nothing.
use Rattle.recording.specs.Lines.{line_for}
use Rattle.recording.proofs.lines.of_fix.Goals as goal

pub returns-in-Ok : goal.returns-in-Ok
unfolding line_for
returns-in-Ok c = rw c.in-Ok.is c.placed.ensures

pub returns-in-Err : goal.returns-in-Err
unfolding line_for
returns-in-Err c = rw c.in-Err.is c.refused.ensures
