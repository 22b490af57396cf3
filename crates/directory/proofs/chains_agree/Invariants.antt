use Rattle.std.proofs.Common.{◌*◌}
use Rattle.directory.specs.Homes.{home_by}
use Rattle.directory.specs.Pass.{Follows}
use Rattle.directory.specs.ChainPasses.{row_size}
use Rattle.directory.proofs.chains_agree.Given as goal

abbrev pub invariant-loop-row : goal.invariant-loop-row
invariant-loop-row l = Follows (home_by l.residents) l.directory l.awaited (row_size * l.row) (row_size * l.row)

abbrev pub invariant-loop-b : goal.invariant-loop-b
invariant-loop-b l = Follows (home_by l.residents) l.directory l.awaited l.b l.b
