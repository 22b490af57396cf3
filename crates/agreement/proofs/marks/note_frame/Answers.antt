-- `marks::note_frame` meets its contract. Assumes nothing.
use Rattle.std.proofs.Common.{sym, ◌∙◌}
use Rattle.agreement.specs.MarkedNumbers.{frame-marked, frame-unmarked, frame-empty}
use Rattle.agreement.proofs.marks.note_frame.Goals as goal

-- some of its words have marks
pub returns-then-has_marked : goal.returns-then-has_marked
returns-then-has_marked c = frame-marked _ _ _ _ _ (sym c.holds_page.ensures ∙ c.if-holds_page.true) _ c.store_in.ensures _ _ _ c.note_marked.ensures

-- none has
pub returns-else-has_marked : goal.returns-else-has_marked
returns-else-has_marked c = frame-unmarked _ _ _ _ _ (sym c.holds_page.ensures ∙ c.if-holds_page.true) c.requires.1 (c.has_marked.ensures c.if-has_marked.false)

-- the frame is empty
pub returns-else-holds_page : goal.returns-else-holds_page
returns-else-holds_page c = frame-empty _ _ _ _ _ (sym c.holds_page.ensures ∙ c.if-holds_page.false)
