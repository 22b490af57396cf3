-- `recording::calls::evict` meets its contract. Assumes nothing.
use Rattle.recording.proofs.ListingLaws.{line-listed}
use Rattle.recording.proofs.calls.evict.Goals as goal

pub returns : goal.returns
returns c = line-listed _ _ c.of_done.ensures (rw c.page-page.ensures at c.evict-answer.ensures)
