-- `contents::show_place` meets its contract. Assumes nothing.
use Rattle.std.proofs.Common.{refl}
use Rattle.machine.specs.Calls.{show_call}
use Rattle.machine.proofs.Laws.RuleLaws.{accepted-answer}
use Rattle.machine.proofs.Laws.RuleLaws.{handed-on-answer}
use Rattle.contents.proofs.show_place.Goals as goal

pub returns-in_err-handle_rules : goal.returns-in_err-handle_rules
unfolding show_call
returns-in_err-handle_rules c = handed-on-answer _ _ _ _ _ _ c.from_residual.ensures.1 c.in_err-handle_rules.ensures.0

pub returns : goal.returns
unfolding show_call
returns c = rw c.in_frame.ensures (accepted-answer _ _ _ c.in_ok-handle_rules.ensures.0 refl)
