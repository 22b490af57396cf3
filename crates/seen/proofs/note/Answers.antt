-- `seen::note` meets its contract. Assumes nothing.
use Rattle.seen.specs.SeenLaws.{unmarked-notes}
use Rattle.seen.proofs.note.Goals as goal

pub returns : goal.returns
returns c = unmarked-notes _ _ _ c.requires.1 c.mark-new.ensures
