use Rattle.directory.specs.Pass.{LeftTo}
use Rattle.directory.proofs.none_awaited.Given as goal

abbrev pub invariant-loop-f : goal.invariant-loop-f
invariant-loop-f l = LeftTo l.awaited l.directory l.f l.hit
