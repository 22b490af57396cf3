use Rattle.std.proofs.Common.{true}
use Rattle.directory.specs.ChainPasses.{Passes}
use Rattle.directory.proofs.follow_row.Given as goal

abbrev pub invariant-loop-b : goal.invariant-loop-b
invariant-loop-b l = Passes l.directory l.initial.awaited l.awaited l.first l.b true
