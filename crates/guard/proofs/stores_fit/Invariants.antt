use Rattle.std.proofs.Common.{◌≡◌, true}
use Rattle.rules.specs.Tests.{every}
use Rattle.machine.specs.Rules.{ceiling_fits}
use Rattle.guard.proofs.stores_fit.Given as goal

abbrev pub invariant-loop-t : goal.invariant-loop-t
invariant-loop-t l = every l.t (ceiling_fits l.count l.stores l.ceilings) ≡ true
