use Rattle.agreement.specs.Fit.{Before}
use Rattle.agreement.specs.PassLaws.{RestTo}
use Rattle.agreement.proofs.agrees.Given as goal

abbrev pub invariant-loop-f : goal.invariant-loop-f
invariant-loop-f l = Before l.pool.records l.frames l.pool.count l.pool.pages l.pool.stores l.f l.seen l.parents l.residents l.occupied l.over

abbrev pub invariant-loop-f-2 : goal.invariant-loop-f-2
invariant-loop-f-2 l = RestTo l.pool.records l.pool.count l.f l.rest
