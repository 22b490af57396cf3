-- `recording::calls::unfix` meets its contract. Assumes nothing.
use Rattle.recording.proofs.ListingLaws.{line-listed}
use Rattle.recording.proofs.calls.unfix.Goals as goal

pub returns : goal.returns
returns c = line-listed _ _ c.of_done.ensures (rw c.handle-handle.ensures at c.unfix.ensures)
