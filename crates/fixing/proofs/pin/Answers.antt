-- `fixing::pin` meets its contract. Assumes nothing.
use Rattle.machine.specs.Machine.{state}
use Rattle.fixing.specs.StepLaws.{pin-denied, pin-given}
use Rattle.fixing.proofs.pin.Goals as goal

-- rule 13
pub returns-then-rec : goal.returns-then-rec
returns-then-rec c fs st d = pin-denied (state c.args.pool.now fs st d) c.args.frame.0 (rw c.from-f.ensures at c.if-rec.true)

-- one pin more
pub returns : goal.returns
returns c fs st d = let h = rw c.from-f.ensures at c.pinned.ensures in let n = rw c.from-f.ensures at c.if-rec.false in rw c.from-f.ensures (pin-given (state c.args.pool.now fs st d) c.args.frame.0 n h)
