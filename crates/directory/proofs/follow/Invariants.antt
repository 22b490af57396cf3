use Rattle.directory.specs.Pass.{awaited_count}
use Rattle.directory.specs.ChainPasses.{Along}
use Rattle.directory.proofs.follow.Given as goal

abbrev pub invariant-loop-x : goal.invariant-loop-x
invariant-loop-x l = Along l.directory l.initial.awaited l.awaited l.b l.at l.x

abbrev pub decreases-loop-x : goal.decreases-loop-x
decreases-loop-x l = awaited_count l.awaited
