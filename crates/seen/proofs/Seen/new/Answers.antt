-- `Seen::new` makes a whole table. Assumes nothing.
use Rattle.seen.specs.SeenLaws.{none-noted}
use Rattle.seen.proofs.Seen.new.Goals as goal

pub invariant_of-result : goal.invariant_of-result
invariant_of-result c = (none-noted 0).table
