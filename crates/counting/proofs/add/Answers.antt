-- `counting::add` meets its contract: a refused recording leaves all, any other is counted. Assumes nothing.
use Rattle.std.proofs.Common.{arith}
use Rattle.counting.specs.RefusalLaws.{add-accepted, can-count, add-refused, add_done}
use Rattle.counting.proofs.add.Goals as goal

pub returns-then-broken-ne0 : goal.returns-then-broken-ne0
returns-then-broken-ne0 c = add-refused _ _ _ _ c.first_broken-broken.ensures c.if-broken-ne0.true

pub count_depths-requires : goal.count_depths-requires
count_depths-requires c = can-count _ _ _ (add-accepted c.args.tally _ _ _ c.first_broken-broken.ensures (omega arith))

pub overflow_add-recordings : goal.overflow_add-recordings
overflow_add-recordings c = let kept = add-accepted c.args.tally _ _ _ c.first_broken-broken.ensures (omega arith) in omega arith

pub overflow_cast-references : goal.overflow_cast-references
overflow_cast-references c = let kept = add-accepted c.args.tally _ _ _ c.first_broken-broken.ensures (omega arith) in omega arith

pub overflow_add-references : goal.overflow_add-references
overflow_add-references c = let kept = add-accepted c.args.tally _ _ _ c.first_broken-broken.ensures (omega arith) in omega arith

pub returns : goal.returns
returns c = add_done _ _ _ _ _ c.first_broken-broken.ensures (omega arith) c.count_depths.ensures
