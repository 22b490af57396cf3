use Rattle.std.proofs.Common.{◌≡◌}
use Rattle.chains.specs.Chain.{tally}
use Rattle.residents.specs.Residents.{holds_of}
use Rattle.residents.proofs.held.Given as goal

abbrev pub invariant-loop-f : goal.invariant-loop-f
invariant-loop-f l = l.n ≡ tally l.f (holds_of l.residents l.store)
