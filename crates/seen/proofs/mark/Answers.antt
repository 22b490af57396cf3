-- `seen::mark` meets its contract. Assumes nothing.
use Rattle.std.specs.Prelude.{ℕ, not, get_or, set}
use Rattle.std.proofs.Common.{ap}
use Rattle.std.specs.Int.Bits.{bit_or}
use Rattle.seen.proofs.mark.Goals as goal

pub returns : goal.returns
returns c =
    let seen = c.args.seen.now in
    let x = c.args.x in
    record { answer = ap not c.is_noted-new.ensures; stored = ap (λ (b : ℕ). set seen x (bit_or (get_or seen x 0) b)) c.bit.ensures }
