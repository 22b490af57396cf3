use Rattle.agreement.specs.Fit.{UnderCeilings}
use Rattle.agreement.proofs.ceilings.hold.Given as goal

abbrev pub invariant-loop-t : goal.invariant-loop-t
invariant-loop-t l = UnderCeilings l.residents l.pool.count l.t l.pool.ceilings
