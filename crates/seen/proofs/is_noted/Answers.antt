-- `seen::is_noted` meets its contract. Assumes nothing.
use Rattle.std.proofs.Common.{refl}
use Rattle.seen.specs.Seen.{noted}
use Rattle.seen.proofs.is_noted.Goals as goal

pub returns : goal.returns
unfolding noted
returns c = refl
