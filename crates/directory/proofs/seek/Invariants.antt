use Rattle.std.proofs.Common.{ℕ, suc, ◌≡◌, ◌<◌, ◌-◌}
use Rattle.page.specs.Figures.{most_frames}
use Rattle.chains.specs.Chain.{directory_size, chain_from, seek_in}
use Rattle.residents.specs.Residents.{key_by}
use Rattle.directory.proofs.seek.Given as goal

abbrev pub invariant-loop-compared : goal.invariant-loop-compared
invariant-loop-compared l = (l.at < directory_size) × ((F : ℕ) → seek_in (key_by l.residents) F l.sought 0 (chain_from l.directory (suc most_frames) l.initial.at) ≡ seek_in (key_by l.residents) F l.sought l.compared (chain_from l.directory (suc most_frames - l.compared) l.at))
