-- `recording::calls::fix` meets its contract. Assumes nothing.
use Rattle.recording.proofs.ListingLaws.{line-listed}
use Rattle.recording.proofs.calls.fix.Goals as goal

pub returns : goal.returns
returns c = line-listed _ _ c.of_fix.ensures (rw (c.handle-handle.ensures, c.slot-slot.ensures) at c.fix-answer.ensures)
