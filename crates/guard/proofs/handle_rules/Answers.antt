-- `guard::handle_rules` meets its contract: the rules of the store, and then rule 3. Assumes nothing.
use Rattle.std.proofs.Common.{arith, refl, sym, ◌∙◌, [], ◌∷◌}
use Rattle.std.proofs.lemmas.Result.{err_from_is_err_and}
use Rattle.rules.specs.RefusalNumbers.{not-accepted}
use Rattle.rules.specs.TestLaws.{kept_then, broken-here, none-broken}
use Rattle.machine.specs.Buffers.{buffered}
use Rattle.machine.specs.Rules.{rule3}
use Rattle.machine.proofs.Laws.RuleLaws.{store_kept, store-stops, store-passes}
use Rattle.guard.proofs.handle_rules.Goals as goal

-- rules 1, 2 and 28
pub returns-in_err-store_rules : goal.returns-in_err-store_rules
returns-in_err-store_rules c =
    let p = err_from_is_err_and c.from_residual.result c.from_residual.ensures.1 in
    let s = buffered c.args.pool.now c.args.buffers in
    rw (p.1, p.2) (store-stops s c.args.handle.store.0 (rule3 s c.args.handle ∷ []) c.in_err-store_rules.ensures.0 (not-accepted _), λ z. absurd (not-accepted _ z))

pub handle_fits-requires : goal.handle_fits-requires
handle_fits-requires c = (store_kept (buffered c.args.pool.now c.args.buffers) c.args.handle.store.0 (sym c.in_ok-store_rules.ensures.0)).kept.sized.most

-- rule 3
pub returns-then-not-handle_fits : goal.returns-then-not-handle_fits
returns-then-not-handle_fits c =
    let s = buffered c.args.pool.now c.args.buffers in
    (store-passes s c.args.handle.store.0 (rule3 s c.args.handle ∷ []) c.in_ok-store_rules.ensures.0 refl (sym (broken-here 3 [] (sym c.handle_fits.ensures ∙ c.if-not-handle_fits.true))), λ z. absurd (omega arith))

-- no rule is broken
pub returns : goal.returns
returns c =
    let s = buffered c.args.pool.now c.args.buffers in
    (store-passes s c.args.handle.store.0 (rule3 s c.args.handle ∷ []) c.in_ok-store_rules.ensures.0 refl (sym (kept_then 3 [] (sym c.handle_fits.ensures ∙ c.if-not-handle_fits.false) ∙ none-broken)), c.in_ok-store_rules.ensures.1)
