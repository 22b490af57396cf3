-- `contents::find` meets its contract. Assumes nothing.
use Rattle.std.proofs.Common.{arith}
use Rattle.machine.specs.Buffers.{buffered}
use Rattle.machine.specs.Calls.{find_call}
use Rattle.contents.specs.Lookup.{seekable, find-answers}
use Rattle.machine.proofs.Laws.RuleLaws.{handed-on-answer}
use Rattle.contents.proofs.find.Goals as goal

pub returns-in_err-page_rules : goal.returns-in_err-page_rules
unfolding find_call
returns-in_err-page_rules c = handed-on-answer _ _ _ _ _ _ c.from_residual.ensures.1 c.in_err-page_rules.ensures.0

pub seek-sought-requires : goal.seek-sought-requires
seek-sought-requires c = let k = seekable (buffered c.args.pool.now c.args.buffers) c.args.of_store.0 c.args.page c.in_ok-page_rules.ensures in (k.0, omega arith, omega arith)

pub returns : goal.returns
returns c = find-answers (buffered c.args.pool.now c.args.buffers) _ _ c.in_ok-page_rules.ensures _ c.seek-sought.ensures
