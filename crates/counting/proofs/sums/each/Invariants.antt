use Rattle.std.proofs.Common.{◌≡◌, ◌*◌, ◌≤◌}
use Rattle.depths.specs.Tallying.{within}
use Rattle.counting.specs.SumLaws.{RunningSums}
use Rattle.counting.proofs.sums.each.Given as goal

abbrev pub invariant-loop-i : goal.invariant-loop-i
invariant-loop-i l = (l.sum ≡ within l.i l.counts) × (l.sum ≤ l.i * 4294967295) × RunningSums l.counts l.hits l.i
