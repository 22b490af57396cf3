-- `Seen::mark_numbers` meets its contract. Assumes nothing.
use Rattle.seen.proofs.Seen.mark_numbers.Goals as goal

pub returns : goal.returns
returns c = rw (← c.self.view_is) c.mark_numbers.ensures

pub invariant_of-self : goal.invariant_of-self
invariant_of-self c = c.mark_numbers.ensures.within.table c.self.invariant
