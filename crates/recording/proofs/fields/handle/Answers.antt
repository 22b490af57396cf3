-- `recording::fields::handle` meets its contract. Assumes nothing.
use Rattle.recording.proofs.fields.handle.Goals as goal

pub returns : goal.returns
returns c = rw c.page-page.ensures
