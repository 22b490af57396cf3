-- `page::word::half_at` meets its contract: the word's other bytes are whole halves. Assumes nothing.
use Rattle.std.proofs.Common.{arith}
use Rattle.page.specs.Word.{word_at-bytes}
use Rattle.page.proofs.word.half_at.Goals as goal

pub returns : goal.returns
returns c = omega (arith, c.from_le_bytes.ensures, word_at-bytes c.args.b.now c.args.at)
