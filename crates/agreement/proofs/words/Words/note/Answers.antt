-- `note` meets its contract: the page first, then the words. Assumes nothing.
use Rattle.std.proofs.Common.{arith}
use Rattle.agreement.specs.NumberNotes.{page-stale, words-stale, words-noted}
use Rattle.agreement.proofs.words.Words.note.Goals as goal

-- the page was noted before
pub returns-then-not-note_page : goal.returns-then-not-note_page
returns-then-not-note_page c = let P = c.args.self.now.in_range in page-stale _ _ _ P.0 P.1 P.2 _ (omega arith) _ _ _ c.note_page.ensures c.if-not-note_page.true

pub note_words-requires : goal.note_words-requires
note_words-requires c =
    let A = c.requires.1 in
    let W = c.note_page.ensures.within in
    (c.sum-sum.ensures.low, record { first = A.first; only = λ e. W.alone (A.first e) (A.only e) })

-- a word was
pub returns-then-not-note_words : goal.returns-then-not-note_words
returns-then-not-note_words c =
    let P = c.args.self.now.in_range in
    words-stale _ _ _ P.0 P.1 P.2 _ (omega arith) _ _ _ c.note_page.ensures c.if-not-note_page.false _ c.sum-sum.ensures _ _ c.note_words.ensures c.if-not-note_words.true

pub returns : goal.returns
returns c =
    let P = c.args.self.now.in_range in
    words-noted _ _ _ P.0 P.1 P.2 _ (omega arith) _ _ _ c.note_page.ensures c.if-not-note_page.false _ c.sum-sum.ensures _ _ c.note_words.ensures c.if-not-note_words.false
