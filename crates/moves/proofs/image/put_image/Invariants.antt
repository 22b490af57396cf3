use Rattle.std.proofs.Common.{◌≡◌, length}
use Rattle.page.specs.Figures.{page_size}
use Rattle.machine.specs.Moves.{image_to}
use Rattle.residents.specs.Residents.{page_by}
use Rattle.moves.proofs.image.put_image.Given as goal

abbrev pub invariant-loop-k : goal.invariant-loop-k
invariant-loop-k l = (length l.dst ≡ page_size) × (l.dst ≡ image_to (page_by l.residents) l.src l.k)
