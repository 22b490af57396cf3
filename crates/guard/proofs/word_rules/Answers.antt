-- `guard::word_rules` meets its contract: the rules of the handle, and then rule 4. Assumes nothing.
use Rattle.std.proofs.Common.{arith, refl, sym, ◌∙◌, [], ◌∷◌, lt-ltb, le-ltb}
use Rattle.std.proofs.lemmas.Result.{err_from_is_err_and}
use Rattle.rules.specs.RefusalNumbers.{not-accepted}
use Rattle.rules.specs.TestLaws.{kept_then, broken-here, none-broken}
use Rattle.machine.specs.Buffers.{buffered}
use Rattle.machine.specs.Rules.{rule4}
use Rattle.machine.proofs.Laws.RuleLaws.{handle-stops, handle-passes}
use Rattle.guard.proofs.word_rules.Goals as goal

-- rules 1, 2, 28 and 3
pub returns-in_err-handle_rules : goal.returns-in_err-handle_rules
returns-in_err-handle_rules c =
    let p = err_from_is_err_and c.from_residual.result c.from_residual.ensures.1 in
    let s = buffered c.args.pool.now c.args.buffers in
    rw (p.1, p.2) (handle-stops s c.args.handle (rule4 c.args.slot ∷ []) c.in_err-handle_rules.ensures.0 (not-accepted _), λ z. absurd (not-accepted _ z))

-- rule 4
pub returns-then-slot-ge-SLOTS : goal.returns-then-slot-ge-SLOTS
returns-then-slot-ge-SLOTS c =
    let s = buffered c.args.pool.now c.args.buffers in
    (handle-passes s c.args.handle (rule4 c.args.slot ∷ []) c.in_ok-handle_rules.ensures.0 refl (sym (broken-here 4 [] (le-ltb _ _ c.if-slot-ge-SLOTS.true))), λ z. absurd (omega arith))

-- no rule is broken
pub returns : goal.returns
returns c =
    let s = buffered c.args.pool.now c.args.buffers in
    (handle-passes s c.args.handle (rule4 c.args.slot ∷ []) c.in_ok-handle_rules.ensures.0 refl (sym (kept_then 4 [] (lt-ltb _ _ c.if-slot-ge-SLOTS.false) ∙ none-broken)), c.in_ok-handle_rules.ensures.1)
