-- `contents::word` meets its contract. Assumes nothing.
use Rattle.std.proofs.Common.{ap, ◌∙◌, arith}
use Rattle.page.specs.Word.{is_marked, name_of}
use Rattle.machine.specs.Buffers.{buffered}
use Rattle.machine.specs.Calls.{word_call}
use Rattle.contents.specs.Words.{slot-within, resolvable, word-names}
use Rattle.machine.proofs.Laws.RuleLaws.{handed-on-answer}
use Rattle.contents.proofs.word.Goals as goal

pub returns-in_err-word_rules : goal.returns-in_err-word_rules
unfolding word_call
returns-in_err-word_rules c = handed-on-answer _ _ _ _ _ _ c.from_residual.ensures.1 c.in_err-word_rules.ensures.0

pub slot_word-word-requires : goal.slot_word-word-requires
slot_word-word-requires c = let k = slot-within (buffered c.args.pool.now c.args.buffers) c.args.handle c.args.slot c.in_ok-word_rules.ensures in (k.0, omega arith)

pub page_named-requires : goal.page_named-requires
page_named-requires c = resolvable (buffered c.args.pool.now c.args.buffers) _ _ c.in_ok-word_rules.ensures (c.name_of.ensures ∙ ap name_of c.slot_word-word.ensures)

-- the page that the word names, and its mark
pub returns : goal.returns
returns c =
    let read = c.slot_word-word.ensures in
    word-names (buffered c.args.pool.now c.args.buffers) _ _ c.in_ok-word_rules.ensures (c.name_of.ensures ∙ ap name_of read) c.page_named.ensures (c.is_marked.ensures ∙ ap is_marked read)
