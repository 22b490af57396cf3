use Rattle.std.proofs.Common.{◌≡◌, ◌<◌, ◌-◌}
use Rattle.page.specs.Figures.{most_frames}
use Rattle.chains.specs.Chain.{directory_size, taken_from}
use Rattle.directory.specs.Homes.{Followed}
use Rattle.directory.proofs.take_out.Given as goal

abbrev pub invariant-loop-n : goal.invariant-loop-n
invariant-loop-n l = (l.at < directory_size) × (taken_from l.initial.directory l.frame.0 most_frames l.initial.at ≡ taken_from l.directory l.frame.0 (most_frames - l._n) l.at) × Followed l.directory
