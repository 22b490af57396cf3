-- `page::word::word_at` meets its contract. Assumes nothing.
use Rattle.std.proofs.Common.{arith}
use Rattle.page.specs.Word.{word_at-bytes}
use Rattle.page.proofs.word.word_at.Goals as goal

pub returns : goal.returns
returns c = omega (arith, c.from_le_bytes.ensures, word_at-bytes c.args.b.now c.args.at)
