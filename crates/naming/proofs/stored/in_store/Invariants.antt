use Rattle.std.proofs.Common.{◌≡◌, false}
use Rattle.naming.specs.Stored.{in_store}
use Rattle.naming.proofs.stored.in_store.Given as goal

abbrev pub invariant-loop-p : goal.invariant-loop-p
invariant-loop-p l = in_store l.residents l.store l.n l.of_store.0 l.p l.w ≡ false
