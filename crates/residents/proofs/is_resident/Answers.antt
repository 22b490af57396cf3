-- `residents::is_resident` meets its contract. Assumes nothing.
use Rattle.std.proofs.Common.{rules}
use Rattle.seen.specs.Among.{among}
use Rattle.residents.specs.Residents.{in_table}
use Rattle.residents.proofs.is_resident.Goals as goal

pub returns : goal.returns
unfolding in_table among
returns c = c.any_below.ensures _ (λ g b l p. search rules)
