-- `Seen::mark_page` meets its contract. Assumes nothing.
use Rattle.seen.proofs.Seen.mark_page.Goals as goal

pub returns : goal.returns
returns c = rw (← c.self.view_is) c.mark_page.ensures

pub invariant_of-self : goal.invariant_of-self
invariant_of-self c = c.mark_page.ensures.within.table c.self.invariant
