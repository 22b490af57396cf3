-- `homes` meets its contract: the frames passed have their homes. Assumes nothing.
use Rattle.std.proofs.Common.{arith}
use Rattle.directory.specs.HomeFilling.{homes-all}
use Rattle.directory.proofs.homes.Goals as goal

pub returns : goal.returns
returns c = homes-all _ _ _ _ (omega arith) c.remainder.ensures c.loop-f.invariant
