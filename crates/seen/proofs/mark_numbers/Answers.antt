-- `seen::mark_numbers` meets its contract: the numbers before that at the index are marked. Assumes nothing.
use Rattle.std.proofs.Common.{refl, arith}
use Rattle.seen.specs.Fold.{flag-and}
use Rattle.seen.specs.SeenLaws.{marked-none, marked_more}
use Rattle.seen.proofs.mark_numbers.Goals as goal

pub loop-x-init : goal.loop-x-init
loop-x-init c = marked-none _ _ _ _ c.requires.1

pub loop-x-preserved : goal.loop-x-preserved
loop-x-preserved c = marked_more _ _ _ _ c.loop-x.x-index (omega arith) c.loop-x.seen _ refl (λ n. c.requires.0 c.loop-x.x-index (omega arith)) _ _ c.note_alone-fresh.ensures _ _ (flag-and c.loop-x.fresh _) c.loop-x.invariant
