-- `naming::is_loadable` meets its contract. Assumes nothing.
use Rattle.naming.specs.NamedByTables.{loadable_by, loadable-empty}
use Rattle.std.proofs.Common.{sym, ◌∙◌}
use Rattle.naming.proofs.is_loadable.Goals as goal

pub returns-then-not-has_word : goal.returns-then-not-has_word
returns-then-not-has_word c = loadable-empty _ _ _ _ _ ((sym (rw (c.start-at.ensures, c.of.ensures) at c.has_word.ensures) ∙ c.if-not-has_word.true))

pub returns : goal.returns
unfolding loadable_by
returns c = rw (c.start-at.ensures, c.of.ensures) at c.mark_page.ensures.answer
