-- `Seen::is_noted` meets its contract. Assumes nothing.
use Rattle.seen.proofs.Seen.is_noted.Goals as goal

pub returns : goal.returns
returns c = rw (← c.self.view_is) c.is_noted.ensures
