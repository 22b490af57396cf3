-- `changes::link` meets its contract. Assumes nothing.
use Rattle.std.proofs.Common.{ap, ◌∙◌, arith}
use Rattle.page.specs.Word.{marked}
use Rattle.machine.specs.Machine.{state}
use Rattle.machine.specs.Calls.{link_call}
use Rattle.machine.proofs.Laws.RuleLaws.{handed-on-out}
use Rattle.changes.specs.Changed.{linkable, link-done}
use Rattle.changes.proofs.link.Goals as goal

pub returns-in_err-link_rules : goal.returns-in_err-link_rules
unfolding link_call
returns-in_err-link_rules c = handed-on-out _ _ _ _ _ _ c.from_residual.ensures.1 c.in_err-link_rules.ensures

pub put_in_slot-requires : goal.put_in_slot-requires
put_in_slot-requires c = let k = linkable (state c.args.pool.now c.args.frames.now c.args.store.now c.args.directory.now) _ _ _ c.in_ok-link_rules.ensures in (omega arith, omega arith)

pub mark_dirty-requires : goal.mark_dirty-requires
mark_dirty-requires c = let k = linkable (state c.args.pool.now c.args.frames.now c.args.store.now c.args.directory.now) _ _ _ c.in_ok-link_rules.ensures in omega arith

-- the word is in the slot, and the page is dirty
pub returns : goal.returns
returns c =
    link-done (state c.args.pool.now c.args.frames.now c.args.store.now c.args.directory.now) _ _ c.mark_dirty.ensures c.args.page c.args.locked c.in_ok-link_rules.ensures c.put_in_slot.ensures
    (c.marked-word.ensures ∙ ap (marked c.args.locked) c.word.ensures)
