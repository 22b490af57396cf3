-- `contents::peek_place` meets its contract: refused, resident, in the store. Assumes nothing.
use Rattle.std.proofs.Common.{arith}
use Rattle.machine.specs.Buffers.{buffered}
use Rattle.machine.specs.Calls.{peek_call}
use Rattle.contents.specs.Lookup.{seekable, placeable, peek-in-frame, peek-in-store}
use Rattle.machine.proofs.Laws.RuleLaws.{handed-on-answer}
use Rattle.contents.proofs.peek_place.Goals as goal

pub returns-in_err-page_rules : goal.returns-in_err-page_rules
unfolding peek_call
returns-in_err-page_rules c = handed-on-answer _ _ _ _ _ _ c.from_residual.ensures.1 c.in_err-page_rules.ensures.0

pub seek-entry-requires : goal.seek-entry-requires
seek-entry-requires c = seekable (buffered c.args.pool.now c.args.buffers) _ _ c.in_ok-page_rules.ensures

-- in its frame
pub returns-in-Some : goal.returns-in-Some
returns-in-Some c = rw c.in_frame.ensures (peek-in-frame (buffered c.args.pool.now c.args.buffers) _ _ c.in_ok-page_rules.ensures _ c.seek-entry.ensures c.in-Some.is)

pub of-requires : goal.of-requires
of-requires c = let k = placeable (buffered c.args.pool.now c.args.buffers) c.args.of_store.0 c.args.page c.in_ok-page_rules.ensures in (omega arith, omega arith, omega arith)

-- in the store
pub returns-in-None : goal.returns-in-None
returns-in-None c = rw c.in_store.ensures (peek-in-store (buffered c.args.pool.now c.args.buffers) _ _ c.in_ok-page_rules.ensures _ c.seek-entry.ensures c.of.ensures c.in-None.is)
