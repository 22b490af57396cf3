use Rattle.counting.specs.Passing.{Going}
use Rattle.counting.proofs.marks.count_depths.Given as goal

abbrev pub invariant-loop-t : goal.invariant-loop-t
invariant-loop-t l = Going l.pages l.initial.counts l.counts l.last l.marks.blocks l.marks.counts l.t
