-- `recording::calls::unlink` meets its contract. Assumes nothing.
use Rattle.recording.proofs.ListingLaws.{line-listed}
use Rattle.recording.proofs.calls.unlink.Goals as goal

pub returns : goal.returns
returns c = line-listed _ _ c.of_done.ensures (rw (c.handle-handle.ensures, c.slot-slot.ensures) at c.unlink-answer.ensures)
