-- `drawing::draw_record` meets its contract: refused by rules 1 and 2, or drawn. Assumes nothing.
use Rattle.std.proofs.Common.{refl, ◌∙◌}
use Rattle.rules.specs.RefusalNumbers.{not-accepted}
use Rattle.machine.specs.Buffers.{buffered}
use Rattle.drawing.proofs.DrawingLaws.{draw-refused, counts-fit, frame-fits, draw-made}
use Rattle.drawing.proofs.draw_record.Goals as goal

pub draw_fields-fields-requires : goal.draw_fields-fields-requires
draw_fields-fields-requires c = rw (c.from-count.ensures, c.from-pages.ensures) (counts-fit (buffered c.args.pool.now c.args.buffers) c.in-Ok.ensures refl)

pub parent_page-parent-requires : goal.parent_page-parent-requires
parent_page-parent-requires c = frame-fits (buffered c.args.pool.now c.args.buffers) c.in-Ok.ensures refl _ _ (rw (c.from-count.ensures, c.from-pages.ensures) at c.draw_fields-fields.ensures)

-- drawn
pub returns-in-Ok : goal.returns-in-Ok
returns-in-Ok c = draw-made (buffered c.args.pool.now c.args.buffers) c.in-Ok.ensures refl _ _ (rw (c.from-count.ensures, c.from-pages.ensures) at c.draw_fields-fields.ensures) _ c.parent_page-parent.ensures c.of_fields.ensures

-- refused
pub returns-in-Err : goal.returns-in-Err
returns-in-Err c = (rw c.number.ensures at c.refused.ensures) ∙ draw-refused (buffered c.args.pool.now c.args.buffers) _ c.in-Err.ensures.0 (not-accepted c.in-Err.refusal)
