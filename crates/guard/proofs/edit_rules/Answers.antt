-- `guard::edit_rules` meets its contract: the rules of the slot, and then rule 26. Assumes nothing.
use Rattle.std.proofs.Common.{arith, refl, sym, ◌∙◌, [], ◌∷◌, ap, not}
use Rattle.std.proofs.lemmas.Result.{err_from_is_err_and}
use Rattle.rules.specs.RefusalNumbers.{not-accepted}
use Rattle.rules.specs.TestLaws.{kept_then, broken-here, none-broken}
use Rattle.machine.specs.Buffers.{buffered}
use Rattle.machine.specs.Rules.{rule26}
use Rattle.machine.proofs.Laws.RuleLaws.{slot_kept, slot-stops, slot-passes}
use Rattle.guard.specs.Held.{parent-within, locked-by-frames}
use Rattle.guard.proofs.edit_rules.Goals as goal

-- rules 1, 2, 28, 3 and 4
pub returns-in_err-word_rules : goal.returns-in_err-word_rules
returns-in_err-word_rules c =
    let p = err_from_is_err_and c.from_residual.result c.from_residual.ensures.1 in
    let s = buffered c.args.pool.now c.args.buffers in
    rw (p.1, p.2) (slot-stops s c.args.handle c.args.slot (rule26 s c.args.handle ∷ []) c.in_err-word_rules.ensures.0 (not-accepted _), λ z. absurd (not-accepted _ z))

pub is_frame_locked-requires : goal.is_frame_locked-requires
is_frame_locked-requires c =
    let s = buffered c.args.pool.now c.args.buffers in
    let k = slot_kept s c.args.handle c.args.slot (sym c.in_ok-word_rules.ensures.0) in
    parent-within s c.args.handle k.kept k.held

-- rule 26
pub returns-then-is_frame_locked : goal.returns-then-is_frame_locked
returns-then-is_frame_locked c =
    let s = buffered c.args.pool.now c.args.buffers in
    (slot-passes s c.args.handle c.args.slot (rule26 s c.args.handle ∷ []) c.in_ok-word_rules.ensures.0 refl (sym (broken-here 26 [] (ap not (sym (c.is_frame_locked.ensures ∙ locked-by-frames s c.args.handle.frame.0) ∙ c.if-is_frame_locked.true)))), λ z. absurd (omega arith))

-- no rule is broken
pub returns : goal.returns
returns c =
    let s = buffered c.args.pool.now c.args.buffers in
    (slot-passes s c.args.handle c.args.slot (rule26 s c.args.handle ∷ []) c.in_ok-word_rules.ensures.0 refl (sym (kept_then 26 [] (ap not (sym (c.is_frame_locked.ensures ∙ locked-by-frames s c.args.handle.frame.0) ∙ c.if-is_frame_locked.false)) ∙ none-broken)), c.in_ok-word_rules.ensures.1)
