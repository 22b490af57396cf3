-- `guard::ceiling_fits` meets its contract: a ceiling of one of T stores, and that of none. Assumes nothing.
use Rattle.std.proofs.Common.{arith}
use Rattle.std.proofs.lemmas.Grind.{common_steps}
use Rattle.rules.specs.Tests.{pick, ◌and◌}
use Rattle.machine.specs.Rules.{ceiling_fits}
use Rattle.guard.proofs.ceiling_fits.Goals as goal

-- from 1 on, of one of T stores
pub returns-then-ceiling-ge1 : goal.returns-then-ceiling-ge1
unfolding ceiling_fits pick ◌and◌
returns-then-ceiling-ge1 c = grind (arith, common_steps)

-- 0, of one of T stores
pub returns-else-ceiling-ge1 : goal.returns-else-ceiling-ge1
unfolding ceiling_fits pick ◌and◌
returns-else-ceiling-ge1 c = grind (arith, common_steps)

-- of no store
pub returns : goal.returns
unfolding ceiling_fits pick ◌and◌
returns c = grind (arith, common_steps)
