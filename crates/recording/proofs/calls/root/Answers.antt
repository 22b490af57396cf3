-- `recording::calls::root` meets its contract. Assumes nothing.
use Rattle.recording.proofs.ListingLaws.{line-listed}
use Rattle.recording.proofs.calls.root.Goals as goal

pub returns : goal.returns
returns c = line-listed _ _ c.of_fix.ensures c.root.ensures
