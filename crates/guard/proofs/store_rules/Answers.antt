-- `guard::store_rules` meets its contract: rules 1 and 2, and then rule 28. Assumes nothing.
use Rattle.std.proofs.Common.{arith, refl, sym, ◌∙◌, [], ◌∷◌, lt-ltb, le-ltb}
use Rattle.std.proofs.lemmas.Result.{err_from_is_err_and}
use Rattle.rules.specs.RefusalNumbers.{not-accepted}
use Rattle.rules.specs.TestLaws.{kept_then, broken-here, none-broken}
use Rattle.machine.specs.Buffers.{buffered}
use Rattle.machine.specs.Rules.{rule28}
use Rattle.machine.proofs.Laws.RuleLaws.{pool-stops, pool-passes}
use Rattle.guard.proofs.store_rules.Goals as goal

-- rules 1 and 2
pub returns-in_err-pool_rules : goal.returns-in_err-pool_rules
returns-in_err-pool_rules c =
    let p = err_from_is_err_and c.from_residual.result c.from_residual.ensures.1 in
    let s = buffered c.args.pool.now c.args.buffers in
    rw (p.1, p.2) (pool-stops s (rule28 s c.args.of_store.0 ∷ []) c.in_err-pool_rules.ensures.0 (not-accepted _), λ z. absurd (not-accepted _ z))

-- rule 28
pub returns-then-pool-of_store : goal.returns-then-pool-of_store
returns-then-pool-of_store c =
    let s = buffered c.args.pool.now c.args.buffers in
    (pool-passes s (rule28 s c.args.of_store.0 ∷ []) c.in_ok-pool_rules.ensures.0 refl (sym (broken-here 28 [] (le-ltb _ _ c.if-pool-of_store.true))), λ z. absurd (omega arith))

-- no rule is broken
pub returns : goal.returns
returns c =
    let s = buffered c.args.pool.now c.args.buffers in
    (pool-passes s (rule28 s c.args.of_store.0 ∷ []) c.in_ok-pool_rules.ensures.0 refl (sym (kept_then 28 [] (lt-ltb _ _ c.if-pool-of_store.false) ∙ none-broken)), c.in_ok-pool_rules.ensures.1)
