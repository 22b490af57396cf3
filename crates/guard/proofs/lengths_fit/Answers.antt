-- `guard::lengths_fit` meets its contract: the tests of rule 1, one after the other. Assumes nothing.
use Rattle.std.proofs.Common.{arith}
use Rattle.std.proofs.lemmas.Grind.{common_steps}
use Rattle.rules.specs.Tests.{◌and◌}
use Rattle.machine.specs.Rules.{lengths_fit}
use Rattle.guard.proofs.lengths_fit.Goals as goal

pub returns-then-frames-count : goal.returns-then-frames-count
unfolding lengths_fit ◌and◌
returns-then-frames-count c = grind (arith, common_steps)

pub returns-else-frames-count : goal.returns-else-frames-count
unfolding lengths_fit ◌and◌
returns-else-frames-count c = grind (arith, common_steps)
