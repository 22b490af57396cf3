-- `residency::releasing::unfix` meets its contract. Assumes nothing.
use Rattle.std.proofs.lemmas.Result.{err_from_is_err_and}
use Rattle.residency.specs.CallLaws.{unfix-denied, unfix-within, unfix-pinned, unfix-done}
use Rattle.residency.proofs.releasing.unfix.Goals as goal

-- refused
pub returns-in_err-handle_rules : goal.returns-in_err-handle_rules
returns-in_err-handle_rules c = let p = err_from_is_err_and c.from_residual.result c.from_residual.ensures.1 in rw (p.1, p.2) (unfix-denied _ _ _ c.in_err-handle_rules.ensures.0)

pub bounds-pool-f : goal.bounds-pool-f
bounds-pool-f c = unfix-within _ _ c.in_ok-handle_rules.ensures.0 c.from-f.ensures

pub unpinned-requires : goal.unpinned-requires
unpinned-requires c = unfix-pinned _ _ c.in_ok-handle_rules.ensures.0 c.from-f.ensures

pub bounds-pool-f-2 : goal.bounds-pool-f-2
bounds-pool-f-2 c = unfix-within _ _ c.in_ok-handle_rules.ensures.0 c.from-f.ensures

-- one pin less
pub returns : goal.returns
returns c = unfix-done _ _ c.in_ok-handle_rules.ensures.0 c.from-f.ensures c.unpinned.ensures
