-- `page::word::name_of` meets its contract. Assumes nothing.
use Rattle.std.proofs.Common.{arith, sym, ◌∙◌}
use Rattle.page.proofs.NameLaws.{marked-name, unmarked-name}
use Rattle.page.proofs.word.name_of.Goals as goal

pub overflow_sub-result : goal.overflow_sub-result
overflow_sub-result c = omega (arith, marked-name _ (sym c.is_marked.ensures ∙ c.if-is_marked.true))

-- with a mark
pub returns-then-is_marked : goal.returns-then-is_marked
returns-then-is_marked c = omega (arith, marked-name _ (sym c.is_marked.ensures ∙ c.if-is_marked.true))

-- without
pub returns : goal.returns
returns c = sym (unmarked-name _ (sym c.is_marked.ensures ∙ c.if-is_marked.false))
