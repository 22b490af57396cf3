-- `drawing::fields::draw_fields` meets its contract: five draws, each from the number that the one before gave. Assumes nothing.
use Rattle.drawing.proofs.DrawingLaws.{fields_made}
use Rattle.drawing.proofs.fields.draw_fields.Goals as goal

pub returns : goal.returns
returns c = fields_made _ _ _ _ _ _ _ _ c.drawn-first.ensures c.drawn-second.ensures c.drawn-third.ensures c.drawn-fourth.ensures c.drawn-fifth.ensures
