-- `pagepool::pool_show` meets its contract. Assumes nothing.
use Rattle.std.proofs.Common.{◌∙◌, ap}
use Rattle.pagepool.specs.Structs.{place_of}
use Rattle.pagepool.proofs.pool_show.Goals as goal

pub returns : goal.returns
returns c = c.from_payload.ensures ∙ ap place_of c.show_place.ensures
