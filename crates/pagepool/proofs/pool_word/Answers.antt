-- `pagepool::pool_word` meets its contract. Assumes nothing.
use mathlib.Core.Path.{◌∙◌, ap}
use Rattle.pagepool.specs.Structs.{named_of}
use Rattle.pagepool.proofs.pool_word.Goals as goal

pub returns : goal.returns
returns c = c.from_word.ensures ∙ ap named_of c.word.ensures
