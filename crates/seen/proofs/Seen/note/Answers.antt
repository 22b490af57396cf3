-- `Seen::note` meets its contract. Assumes nothing.
use Rattle.seen.proofs.Seen.note.Goals as goal

pub returns : goal.returns
returns c = rw (← c.self.view_is) c.note.ensures

pub invariant_of-self : goal.invariant_of-self
invariant_of-self c = c.note.ensures.within.table c.self.invariant
