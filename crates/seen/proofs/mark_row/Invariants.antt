use Rattle.std.proofs.Common.{ℕ, true}
use Rattle.seen.specs.Seen.{Reads, MarksOn}
use Rattle.seen.proofs.mark_row.Given as goal

abbrev pub invariant-loop-k : goal.invariant-loop-k
invariant-loop-k g l = (w : ℕ → ℕ) → Reads (goal.F-post g l.read) l.end w → MarksOn l.of_store.0 l.first l.k w l.limit l.initial.seen l.seen true
