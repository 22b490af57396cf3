-- `recording::fields::parent` meets its contract. Assumes nothing.
use Rattle.recording.proofs.fields.parent.Goals as goal

pub returns : goal.returns
returns c = rw c.page_of-page.ensures
