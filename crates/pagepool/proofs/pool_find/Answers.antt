-- `pagepool::pool_find` meets its contract. Assumes nothing.
use mathlib.Core.Path.{◌∙◌, ap}
use Rattle.pagepool.specs.Structs.{found_of}
use Rattle.pagepool.proofs.pool_find.Goals as goal

pub returns : goal.returns
returns c = c.from_find.ensures ∙ ap found_of c.find.ensures
