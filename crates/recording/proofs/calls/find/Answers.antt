-- `recording::calls::find` meets its contract: the answer is find's, and all is left as it was. Assumes nothing.
use Rattle.recording.proofs.ListingLaws.{line-listed, find-leaves}
use Rattle.recording.proofs.calls.find.Goals as goal

pub returns : goal.returns
returns c = line-listed _ _ c.of_find.ensures (rw c.page-page.ensures at (find-leaves _ 0 c.page-page.result c.find.ensures))
