use Rattle.page.specs.Figures.{most_pages}
use Rattle.seen.specs.Seen.{row_of, Marked}
use Rattle.seen.proofs.mark_numbers.Given as goal

abbrev pub invariant-loop-x : goal.invariant-loop-x
invariant-loop-x l = Marked 0 l.x-index (row_of l.numbers) most_pages l.initial.seen l.seen l.fresh
