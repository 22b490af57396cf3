-- `recording::calls::write` meets its contract. Assumes nothing.
use Rattle.recording.proofs.ListingLaws.{line-listed}
use Rattle.recording.proofs.calls.write.Goals as goal

pub returns : goal.returns
returns c = line-listed _ _ c.of_done.ensures (rw (c.handle-handle.ensures, c.offset-offset.ensures, c.bytes-bytes.ensures) at c.write-answer.ensures)
