-- `counting::share_at` meets its contract: another number of counters is refused. Assumes nothing.
use Rattle.counting.specs.RefusalLaws.{share-refused, share-done}
use Rattle.counting.proofs.share_at.Goals as goal

pub returns-then-counts-ne-DEPTHS : goal.returns-then-counts-ne-DEPTHS
returns-then-counts-ne-DEPTHS c = share-refused _ _ _ c.if-counts-ne-DEPTHS.true

pub returns : goal.returns
returns c = rw c.from.ensures (share-done _ _ _ _ _ c.if-counts-ne-DEPTHS.false c.depths_within.ensures c.first-within.ensures)
