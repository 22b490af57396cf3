-- `recording::calls::link` meets its contract. Assumes nothing.
use Rattle.recording.proofs.ListingLaws.{line-listed}
use Rattle.recording.proofs.calls.link.Goals as goal

pub returns : goal.returns
returns c = line-listed _ _ c.of_done.ensures (rw (c.parent-parent.ensures, c.slot-slot.ensures, c.page-page.ensures) at c.link-answer.ensures)
