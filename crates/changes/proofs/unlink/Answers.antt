-- `changes::unlink` meets its contract. Assumes nothing.
use Rattle.std.proofs.Common.{arith}
use Rattle.machine.specs.Machine.{state}
use Rattle.machine.specs.Calls.{unlink_call}
use Rattle.machine.proofs.Laws.RuleLaws.{handed-on-out}
use Rattle.changes.specs.Changed.{unlinkable, unlink-done}
use Rattle.changes.proofs.unlink.Goals as goal

pub returns-in_err-unlink_rules : goal.returns-in_err-unlink_rules
unfolding unlink_call
returns-in_err-unlink_rules c = handed-on-out _ _ _ _ _ _ c.from_residual.ensures.1 c.in_err-unlink_rules.ensures

pub put_in_slot-requires : goal.put_in_slot-requires
put_in_slot-requires c = let k = unlinkable (state c.args.pool.now c.args.frames.now c.args.store.now c.args.directory.now) _ _ c.in_ok-unlink_rules.ensures in (omega arith, omega arith)

pub mark_dirty-requires : goal.mark_dirty-requires
mark_dirty-requires c = let k = unlinkable (state c.args.pool.now c.args.frames.now c.args.store.now c.args.directory.now) _ _ c.in_ok-unlink_rules.ensures in omega arith

-- the slot is empty, and the page is dirty
pub returns : goal.returns
returns c = unlink-done (state c.args.pool.now c.args.frames.now c.args.store.now c.args.directory.now) _ _ c.mark_dirty.ensures c.in_ok-unlink_rules.ensures c.put_in_slot.ensures
