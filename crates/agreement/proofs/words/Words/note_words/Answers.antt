-- `note_words` meets its contract: nothing, all at once, or one after the other. Assumes nothing.
use Rattle.std.proofs.Common.{sym, ◌∙◌, arith}
use Rattle.agreement.specs.FitLaws.{numbers-lt}
use Rattle.agreement.specs.NumberNotes.{no-words-noted, words-marked}
use Rattle.agreement.proofs.words.Words.note_words.Goals as goal

-- no word is a number
pub returns-then-sum-eq0 : goal.returns-then-sum-eq0
returns-then-sum-eq0 c = let P = c.args.self.now.in_range in no-words-noted _ _ _ P.0 P.1 P.2 (sym c.requires.0 ∙ c.if-sum-eq0.true) _

pub mark_numbers-requires : goal.mark_numbers-requires
mark_numbers-requires c = let P = c.args.self.now.in_range in (λ k h. omega (arith, numbers-lt _ _ _ P.1 c.numbers.ensures k h), c.requires.1.only c.if-alone.true)

pub returns-then-alone : goal.returns-then-alone
returns-then-alone c = let P = c.args.self.now.in_range in rw (c.requires.1.first c.if-alone.true) (words-marked _ _ 0 (omega arith) P.1 P.2 _ c.numbers.ensures _ _ _ c.mark_numbers.ensures)
