-- `residency::settling::settle` meets its contract. Assumes nothing.
use Rattle.std.proofs.Common.{refl, sym, ap, []}
use Rattle.std.proofs.lemmas.Result.{err_from_is_err_and}
use Rattle.rules.specs.RefusalNumbers.{not-accepted}
use Rattle.machine.specs.Answers.{out, done}
use Rattle.machine.specs.Calls.{settle_call}
use Rattle.machine.proofs.Laws.Ready.{rules-kept, ready}
use Rattle.machine.proofs.Laws.RuleLaws.{decide-no, accepted-out}
use Rattle.moves.specs.MoveSteps.{ready_with}
use Rattle.residency.proofs.settling.settle.Goals as goal

-- refused
pub returns-in_err-pool_rules : goal.returns-in_err-pool_rules
unfolding settle_call
returns-in_err-pool_rules c = let p = err_from_is_err_and c.from_residual.result c.from_residual.ensures.1 in rw (p.1, p.2) (decide-no _ _ _ c.in_err-pool_rules.ensures.0 (not-accepted _))

pub settle_pages-requires : goal.settle_pages-requires
settle_pages-requires c = (ready_with _ [] (ready _ (rules-kept _ (sym c.in_ok-pool_rules.ensures.0))), (c.in_ok-pool_rules.ensures.1 refl).held)

-- every dirty page is in the store
pub returns : goal.returns
unfolding settle_call
returns c = accepted-out _ _ c.in_ok-pool_rules.ensures.0 (ap (out done) (c.settle_pages.ensures _))
