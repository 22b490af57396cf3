-- `take_out` meets its contract. Assumes nothing.
use Rattle.std.proofs.Common.{◌-◌, ◌∙◌, arith}
use Rattle.directory.specs.Walks.{taken-out-is, take_none, take-here, take_on, take-out-of}
use Rattle.directory.proofs.take_out.Goals as goal

-- the chain ends
pub returns-then-x-eq0 : goal.returns-then-x-eq0
returns-then-x-eq0 c = taken-out-is _ _ _ _ _ (c.from-at.ensures ∙ c.bucket.ensures.0) (c.loop-n.invariant.1 ∙ take_none _ _ _ (63 - c.loop-n._n) _ (omega arith) c.if-x-eq0.true)

-- the entry is there
pub returns-then-x-frame : goal.returns-then-x-frame
returns-then-x-frame c =
    c.pass_over.ensures ∙ taken-out-is _ _ _ _ _ (c.from-at.ensures ∙ c.bucket.ensures.0)
    (c.loop-n.invariant.1 ∙ take-here _ _ _ (63 - c.loop-n._n) _ (omega arith) c.if-x-eq0.false c.if-x-frame.true _ (omega arith))

-- another entry
pub loop-n-preserved : goal.loop-n-preserved
loop-n-preserved c = (
  omega (arith, c.loop-n.invariant.2.small c.loop-n.at),
  c.loop-n.invariant.1 ∙ take_on _ _ _ _ _ (omega arith) c.if-x-eq0.false c.if-x-frame.false _ (omega arith),
  c.loop-n.invariant.2,
)

pub returns : goal.returns
returns c = taken-out-is _ _ _ _ _ (c.from-at.ensures ∙ c.bucket.ensures.0) (c.loop-n.invariant.1 ∙ take-out-of _ _ _ _ (omega arith))
