use Rattle.std.proofs.Common.{ℕ, ◌≡◌, ◌-◌, ◌*◌, ◌≤◌, get_or}
use Rattle.counting.specs.Marks.{sum_of}
use Rattle.counting.proofs.marks.sum_marks.Given as goal

abbrev pub invariant-loop-i : goal.invariant-loop-i
invariant-loop-i l = (l.sum ≡ sum_of (λ (k : ℕ). get_or l.counts k 0) l.from (l.i - l.from)) × (l.sum ≤ 64 * (l.i - l.from))
