-- `drawing::parent_page` meets its contract. Assumes nothing.
use Rattle.std.proofs.Common.{◌∙◌, ap}
use Rattle.machine.specs.Machine.{page_number}
use Rattle.drawing.proofs.DrawingLaws.{no-parent, parent-there}
use Rattle.drawing.proofs.parent_page.Goals as goal

-- another call
pub returns-then-call-ne-LINK : goal.returns-then-call-ne-LINK
returns-then-call-ne-LINK c = ap page_number (no-parent _ _ _ c.if-call-ne-LINK.true)

-- link
pub returns : goal.returns
returns c = ap page_number (c.page_in.ensures ∙ parent-there _ _ _ c.if-call-ne-LINK.false)
