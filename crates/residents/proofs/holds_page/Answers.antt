-- `residents::holds_page` meets its contract. Assumes nothing.
use Rattle.std.proofs.Common.{sym, ◌∙◌, eq-eqb, ne_eqb}
use Rattle.rules.specs.TestLaws.{or_left, or-skip}
use Rattle.residents.specs.Residents.{holds_page}
use Rattle.residents.proofs.holds_page.Goals as goal

pub returns-then-f-eq0 : goal.returns-then-f-eq0
unfolding holds_page
returns-then-f-eq0 c = sym (or_left _ (eq-eqb _ 0 (sym c.from-f.ensures ∙ c.if-f-eq0.true)))

pub returns : goal.returns
unfolding holds_page
returns c = rw (← c.from-f.ensures) (sym (or-skip _ (ne_eqb _ 0 c.if-f-eq0.false)))
