-- `fixing::root` meets its contract. Assumes nothing.
use Rattle.std.proofs.Common.{arith}
use Rattle.std.proofs.lemmas.Result.{err_from_is_err_and}
use Rattle.fixing.specs.StepLaws.{root-denied, root_below, root-given}
use Rattle.fixing.proofs.root.Goals as goal

-- rules 1, 2 and 28
pub returns-in_err-store_rules : goal.returns-in_err-store_rules
returns-in_err-store_rules c = let p = err_from_is_err_and c.from_residual.result c.from_residual.ensures.1 in rw (p.1, p.2) (root-denied _ _ _ c.in_err-store_rules.ensures.0)

pub pin-requires : goal.pin-requires
pin-requires c = let l = root_below _ _ c.in_ok-store_rules.ensures.0 in omega arith

pub returns : goal.returns
returns c = root-given _ _ c.in_ok-store_rules.ensures.0 (c.pin.ensures _ _ _)
