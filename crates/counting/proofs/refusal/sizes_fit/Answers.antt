-- `counting::refusal::sizes_fit` meets its contract: the tests of rule 1. Assumes nothing.
use Rattle.std.proofs.Common.{arith}
use Rattle.counting.specs.RefusalLaws.{other-counters, too_short, too_long, room-decides}
use Rattle.counting.proofs.refusal.sizes_fit.Goals as goal

pub returns-then-counts-ne-DEPTHS : goal.returns-then-counts-ne-DEPTHS
returns-then-counts-ne-DEPTHS c = other-counters _ _ _ c.if-counts-ne-DEPTHS.true

pub returns-then-pages-lt1 : goal.returns-then-pages-lt1
returns-then-pages-lt1 c = too_short _ _ _ c.if-counts-ne-DEPTHS.false c.if-pages-lt1.true

pub returns-then-pages-gt-MOST_REFERENCES : goal.returns-then-pages-gt-MOST_REFERENCES
returns-then-pages-gt-MOST_REFERENCES c = too_long _ _ _ c.if-counts-ne-DEPTHS.false (omega arith) c.if-pages-gt-MOST_REFERENCES.true

pub returns : goal.returns
returns c = room-decides _ _ _ c.if-counts-ne-DEPTHS.false (omega arith) (omega arith)
