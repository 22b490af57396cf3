-- `fixing::load::is_spared` meets its contract. Assumes nothing.
use Rattle.std.proofs.Common.{arith}
use Rattle.std.proofs.lemmas.Grind.{common_steps}
use Rattle.rules.specs.Tests.{◌and◌}
use Rattle.fixing.proofs.load.is_spared.Goals as goal

pub returns-after-rec-eq1 : goal.returns-after-rec-eq1
unfolding ◌and◌
returns-after-rec-eq1 c = grind (arith, common_steps)

pub returns-else-at_ceiling : goal.returns-else-at_ceiling
unfolding ◌and◌
returns-else-at_ceiling c = grind (arith, common_steps)
