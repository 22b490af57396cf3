use Rattle.std.proofs.Common.{◌≡◌, length}
use Rattle.moves.specs.MoveSteps.{Settling}
use Rattle.moves.proofs.settle_pages.Given as goal

abbrev pub invariant-loop-f : goal.invariant-loop-f
invariant-loop-f l = (length l.store ≡ length l.initial.store) × Settling l.initial.pool l.pool l.frames l.initial.store l.store l.f
