-- `fixing::fix` meets its contract. Assumes nothing.
use Rattle.std.proofs.Common.{refl, sym, ap, ◌∙◌, arith}
use Rattle.std.proofs.lemmas.Result.{err_from_is_err_and}
use Rattle.machine.proofs.Laws.RuleLaws.{slot_kept}
use Rattle.fixing.specs.FixSteps.{pin_decided}
use Rattle.fixing.specs.StepLaws.{fix-denied, fix-nothing, fix-missed, fix-pinned, number-below, frame_below}
use Rattle.fixing.proofs.fix.Goals as goal

-- rules 1, 2, 28, 3 and 4 refuse
pub returns-in_err-word_rules : goal.returns-in_err-word_rules
returns-in_err-word_rules c = let p = err_from_is_err_and c.from_residual.result c.from_residual.ensures.1 in rw (p.1, p.2) (fix-denied _ _ _ _ c.in_err-word_rules.ensures.0)

pub slot_name-name-requires : goal.slot_name-name-requires
slot_name-name-requires c = let h = slot_kept _ _ _ (sym c.in_ok-word_rules.ensures.0) in omega arith

-- 7: the slot names nothing
pub returns-then-name-eq-NOTHING : goal.returns-then-name-eq-NOTHING
returns-then-name-eq-NOTHING c = fix-nothing _ _ _ c.in_ok-word_rules.ensures.0 c.slot_name-name.ensures c.if-name-eq-NOTHING.true

pub overflow_cast-page : goal.overflow_cast-page
overflow_cast-page c =
    let h = slot_kept _ _ _ (sym c.in_ok-word_rules.ensures.0) in
    let l = number-below _ _ _ h c.slot_name-name.ensures (sym c.is_number.ensures ∙ c.if-is_number.true) c.if-name-eq-NOTHING.false in
    omega arith

pub bring_in-requires : goal.bring_in-requires
bring_in-requires c =
    let h = slot_kept _ _ _ (sym c.in_ok-word_rules.ensures.0) in
    (h.kept, c.in_ok-word_rules.ensures.1 refl, h.held.below, h.slot, omega (arith, h.store, h.kept.stores.some), number-below _ _ _ h c.slot_name-name.ensures (sym c.is_number.ensures ∙ c.if-is_number.true) c.if-name-eq-NOTHING.false)

-- the page that it names isn't resident, and comes in
pub returns-then-is_number : goal.returns-then-is_number
returns-then-is_number c = fix-missed _ _ _ c.in_ok-word_rules.ensures.0 c.slot_name-name.ensures c.if-name-eq-NOTHING.false (sym c.is_number.ensures ∙ c.if-is_number.true) c.bring_in.ensures

pub overflow_cast-g : goal.overflow_cast-g
overflow_cast-g c =
    let h = slot_kept _ _ _ (sym c.in_ok-word_rules.ensures.0) in
    let b = frame_below _ _ _ h c.slot_name-name.ensures (sym c.is_number.ensures ∙ c.if-is_number.false) in
    omega (arith, c.frame_in-g.ensures)

pub pin-requires : goal.pin-requires
pin-requires c =
    let h = slot_kept _ _ _ (sym c.in_ok-word_rules.ensures.0) in
    let b = frame_below _ _ _ h c.slot_name-name.ensures (sym c.is_number.ensures ∙ c.if-is_number.false) in
    omega (arith, c.frame_in-g.ensures)

-- it is resident, and pinned where it is, or 13
pub returns : goal.returns
returns c = fix-pinned _ _ _ c.in_ok-word_rules.ensures.0 c.slot_name-name.ensures c.if-name-eq-NOTHING.false (sym c.is_number.ensures ∙ c.if-is_number.false) (c.pin.ensures _ _ _ ∙ ap (pin_decided _) c.frame_in-g.ensures)
