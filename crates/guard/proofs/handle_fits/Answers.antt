-- `guard::handle_fits` meets its contract: the tests of rule 3, one after the other. Assumes nothing.
use Rattle.std.proofs.Common.{arith}
use Rattle.std.proofs.lemmas.Grind.{common_steps}
use Rattle.rules.specs.Tests.{◌and◌}
use Rattle.machine.specs.Rules.{handle_fits}
use Rattle.guard.proofs.handle_fits.Goals as goal

-- the frame isn't one of F
pub returns-then-from-f : goal.returns-then-from-f
unfolding handle_fits ◌and◌
returns-then-from-f c = grind (arith, common_steps)

pub returns-then-eq-2 : goal.returns-then-eq-2
unfolding handle_fits ◌and◌
returns-then-eq-2 c = grind (arith, common_steps)

pub returns-else-eq-2 : goal.returns-else-eq-2
unfolding handle_fits ◌and◌
returns-else-eq-2 c = grind (arith, common_steps)
