-- `guard::is_locked` meets its contract: a root isn't locked, and another page is by the word that names it. Assumes nothing.
use Rattle.std.proofs.Common.{ap, ◌∙◌, not, lt-ltb, le-ltb}
use Rattle.page.specs.Word.{is_marked}
use Rattle.page.specs.Page.{slot}
use Rattle.rules.specs.TestLaws.{and_yes, and_no}
use Rattle.guard.specs.Held.{held_locked}
use Rattle.guard.proofs.is_locked.Goals as goal

-- a root
pub returns-then-frame-stores : goal.returns-then-frame-stores
unfolding held_locked
returns-then-frame-stores c = and_no _ (ap not (lt-ltb _ _ c.if-frame-stores.true))

-- by the mark
pub returns : goal.returns
unfolding held_locked
returns c = and_yes (ap not (le-ltb _ _ c.if-frame-stores.false)) (c.is_marked.ensures ∙ ap is_marked (c.slot_word.ensures ∙ ap (slot _ _) c.from-slot.ensures))
