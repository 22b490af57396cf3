-- `changes::refusals::range_fits` meets its contract: the two tests of rule 5. Assumes nothing.
use Rattle.std.proofs.Common.{arith}
use Rattle.std.proofs.lemmas.Grind.{common_steps}
use Rattle.rules.specs.Tests.{◌and◌}
use Rattle.machine.specs.Rules.{range_fits}
use Rattle.changes.proofs.refusals.range_fits.Goals as goal

pub returns-then-offset-le-PAYLOAD_SIZE : goal.returns-then-offset-le-PAYLOAD_SIZE
unfolding range_fits ◌and◌
returns-then-offset-le-PAYLOAD_SIZE c = grind (arith, common_steps)

pub returns-else-offset-le-PAYLOAD_SIZE : goal.returns-else-offset-le-PAYLOAD_SIZE
unfolding range_fits ◌and◌
returns-else-offset-le-PAYLOAD_SIZE c = grind (arith, common_steps)
