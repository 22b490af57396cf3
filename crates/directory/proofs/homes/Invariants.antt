use Rattle.directory.specs.HomeFilling.{HomesTo}
use Rattle.directory.proofs.homes.Given as goal

abbrev pub invariant-loop-f : goal.invariant-loop-f
invariant-loop-f l = HomesTo l.residents l.homes l.f
