use Rattle.soundness.specs.Pages.{PassedStores}
use Rattle.soundness.proofs.is_sound.Given as goal

abbrev pub invariant-loop-t : goal.invariant-loop-t
invariant-loop-t l = PassedStores l.store l.n l.t l.seen
