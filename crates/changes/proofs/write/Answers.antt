-- `changes::write` meets its contract: refused, no bytes, bytes put back into the middle of the frames. Assumes nothing.
use Rattle.std.proofs.Common.{arith}
use Rattle.machine.specs.Machine.{state}
use Rattle.machine.specs.Calls.{write_call}
use Rattle.machine.proofs.Laws.RuleLaws.{handed-on-out}
use Rattle.changes.specs.Changed.{write_kept, put_back, write-nothing, write_bytes}
use Rattle.changes.proofs.write.Goals as goal

pub returns-in_err-write_rules : goal.returns-in_err-write_rules
unfolding write_call
returns-in_err-write_rules c = handed-on-out _ _ _ _ _ _ c.from_residual.ensures.1 c.in_err-write_rules.ensures

-- no bytes
pub returns-then-n-eq0 : goal.returns-then-n-eq0
returns-then-n-eq0 c = write-nothing (state c.args.pool.now c.args.frames.now c.args.store.now c.args.directory.now) _ _ _ c.in_ok-write_rules.ensures c.if-n-eq0.true

pub overflow_add-start-2 : goal.overflow_add-start-2
overflow_add-start-2 c = let h = write_kept (state c.args.pool.now c.args.frames.now c.args.store.now c.args.directory.now) _ _ _ c.in_ok-write_rules.ensures in omega arith

pub overflow_add-start-3 : goal.overflow_add-start-3
overflow_add-start-3 c = let h = write_kept (state c.args.pool.now c.args.frames.now c.args.store.now c.args.directory.now) _ _ _ c.in_ok-write_rules.ensures in omega arith

pub slice_bounds-copy_into-end : goal.slice_bounds-copy_into-end
slice_bounds-copy_into-end c = let h = write_kept (state c.args.pool.now c.args.frames.now c.args.store.now c.args.directory.now) _ _ _ c.in_ok-write_rules.ensures in omega arith

pub mark_dirty-requires : goal.mark_dirty-requires
mark_dirty-requires c = let h = write_kept (state c.args.pool.now c.args.frames.now c.args.store.now c.args.directory.now) _ _ _ c.in_ok-write_rules.ensures in omega arith

-- the bytes are in the frame, and the page is dirty
pub returns : goal.returns
returns c =
    write_bytes (state c.args.pool.now c.args.frames.now c.args.store.now c.args.directory.now) _ _ c.args.bytes.now c.in_ok-write_rules.ensures c.if-n-eq0.false c.mark_dirty.ensures
    (put_back c.args.frames.now c.args.handle.frame.0 _ c.args.offset _ c.args.bytes.now c.start.ensures c.copy_into.ensures.0)
