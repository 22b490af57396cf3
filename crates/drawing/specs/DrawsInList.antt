-- What holds of a draw at every point of a list of calls.
use Rattle.std.specs.Prelude.{◌≡◌}
use Rattle.machine.specs.Machine.{State}
use Rattle.generator.specs.declared.Generator.{Generator}
use Rattle.drawing.specs.Drawing.{drawn_out, InRanges}

-- a draw is accepted, and its record lies in its ranges
pub record DrawnThere (s : State) (g : Generator) : Type 0 where
  pub accepted : (drawn_out s g).refusal ≡ 0
  pub ranges : InRanges s (drawn_out s g).entry
