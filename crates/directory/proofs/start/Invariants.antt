use Rattle.directory.specs.Start.{Rooted}
use Rattle.directory.proofs.start.Given as goal

abbrev pub invariant-loop-t : goal.invariant-loop-t
invariant-loop-t l = Rooted l.directory l.t
