-- `drawing::refused` meets its contract. Assumes nothing.
use Rattle.std.specs.Prelude.{refl}
use Rattle.drawing.specs.Drawing.{refused_draw}
use Rattle.drawing.proofs.refused.Goals as goal

pub returns : goal.returns
unfolding refused_draw
returns c = refl
