-- `load_page` meets its contract: the parent's old word is read before the page is copied. Assumes nothing.
use Rattle.std.proofs.Common.{refl}
use Rattle.moves.specs.MoveSteps.{renamed-put}
use Rattle.moves.specs.InAndOut.{brought_in}
use Rattle.moves.proofs.load_page.Goals as goal

pub returns : goal.returns
unfolding brought_in
returns c =
    let whole = rw c.of-place.ensures at c.to_frame.ensures.0 in
    (c.loaded.ensures, renamed-put _ _ _ _ _ _ _ _ _ _ _ whole refl c.slot_word-old.ensures c.word.ensures c.renamed-word.ensures c.put_in_slot.ensures, c.enter.ensures)
