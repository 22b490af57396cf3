-- `recording::calls::settle` meets its contract. Assumes nothing.
use Rattle.recording.proofs.ListingLaws.{line-listed}
use Rattle.recording.proofs.calls.settle.Goals as goal

pub returns : goal.returns
returns c = line-listed _ _ c.of_done.ensures c.settle.ensures
