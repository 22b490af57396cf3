use Rattle.seen.specs.Seen.{WithinStore}
use Rattle.soundness.specs.Pages.{Passed}
use Rattle.soundness.proofs.is_store_sound.Given as goal

abbrev pub invariant-loop-p : goal.invariant-loop-p
invariant-loop-p l = Passed l.store l.n l.of_store.0 l.p l.seen × WithinStore l.of_store.0 l.initial.seen l.seen
