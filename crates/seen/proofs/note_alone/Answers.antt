-- `seen::note_alone` meets its contract. Assumes nothing.
use Rattle.seen.specs.SeenLaws.{unmarked-notes, marks-alone}
use Rattle.seen.proofs.note_alone.Goals as goal

pub returns : goal.returns
returns c = unmarked-notes _ _ _ c.requires.0 (marks-alone _ _ c.requires.1)
