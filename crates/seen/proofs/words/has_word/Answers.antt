-- `seen::words::has_word` meets its contract. Assumes nothing.
use Rattle.seen.specs.Among.{has_word}
use Rattle.seen.proofs.words.has_word.Goals as goal

pub returns : goal.returns
unfolding has_word
returns c = c.has_any.ensures
