-- `Seen::note_alone` meets its contract. Assumes nothing.
use Rattle.seen.proofs.Seen.note_alone.Goals as goal

pub returns : goal.returns
returns c = rw (← c.self.view_is) c.note_alone.ensures

pub invariant_of-self : goal.invariant_of-self
invariant_of-self c = c.note_alone.ensures.within.table c.self.invariant
