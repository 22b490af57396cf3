-- `guard::page_rules` meets its contract: the rules of the store, and then rule 6. Assumes nothing.
use Rattle.std.proofs.Common.{arith, refl, sym, ◌∙◌, [], ◌∷◌, lt-ltb, le-ltb}
use Rattle.std.proofs.lemmas.Result.{err_from_is_err_and}
use Rattle.rules.specs.RefusalNumbers.{not-accepted}
use Rattle.rules.specs.TestLaws.{kept_then, broken-here, none-broken}
use Rattle.machine.specs.Buffers.{buffered}
use Rattle.machine.specs.Rules.{rule6}
use Rattle.machine.proofs.Laws.RuleLaws.{store-stops, store-passes}
use Rattle.guard.proofs.page_rules.Goals as goal

-- rules 1, 2 and 28
pub returns-in_err-store_rules : goal.returns-in_err-store_rules
returns-in_err-store_rules c =
    let p = err_from_is_err_and c.from_residual.result c.from_residual.ensures.1 in
    let s = buffered c.args.pool.now c.args.buffers in
    rw (p.1, p.2) (store-stops s c.args.of_store.0 (rule6 s c.args.page.0 ∷ []) c.in_err-store_rules.ensures.0 (not-accepted _), λ z. absurd (not-accepted _ z))

-- rule 6
pub returns-then-pool-page : goal.returns-then-pool-page
returns-then-pool-page c =
    let s = buffered c.args.pool.now c.args.buffers in
    (store-passes s c.args.of_store.0 (rule6 s c.args.page.0 ∷ []) c.in_ok-store_rules.ensures.0 refl (sym (broken-here 6 [] (le-ltb _ _ c.if-pool-page.true))), λ z. absurd (omega arith))

-- no rule is broken
pub returns : goal.returns
returns c =
    let s = buffered c.args.pool.now c.args.buffers in
    (store-passes s c.args.of_store.0 (rule6 s c.args.page.0 ∷ []) c.in_ok-store_rules.ensures.0 refl (sym (kept_then 6 [] (lt-ltb _ _ c.if-pool-page.false) ∙ none-broken)), c.in_ok-store_rules.ensures.1)
