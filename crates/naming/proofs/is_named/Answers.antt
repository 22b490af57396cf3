-- `naming::is_named` meets its contract. Assumes nothing.
use Rattle.std.proofs.Common.{sym, ◌∙◌, ap}
use Rattle.rules.specs.TestLaws.{or_left, or-skip}
use Rattle.naming.specs.Stored.{in_store}
use Rattle.naming.specs.NamedByTables.{named_by}
use Rattle.naming.proofs.is_named.Goals as goal

pub returns-then-is_noted : goal.returns-then-is_noted
unfolding named_by
returns-then-is_noted c = rw (← c.from-q.ensures) (sym (or_left _ (sym c.is_noted.ensures ∙ c.if-is_noted.true)))

pub returns : goal.returns
unfolding named_by
returns c =
    let noted = rw c.from-q.ensures at (sym c.is_noted.ensures ∙ c.if-is_noted.false) in
    c.in_store.ensures ∙ ap (in_store _ _ _ _ _) c.word.ensures ∙ sym (or-skip _ noted)
