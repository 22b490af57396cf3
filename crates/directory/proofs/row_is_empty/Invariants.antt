use Rattle.std.proofs.Common.{◌≡◌, true}
use Rattle.directory.specs.ChainPasses.{Headless}
use Rattle.directory.proofs.row_is_empty.Given as goal

abbrev pub invariant-loop-i : goal.invariant-loop-i
invariant-loop-i l = l.none ≡ true → Headless l.directory l.first l.i
