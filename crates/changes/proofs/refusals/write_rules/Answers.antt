-- `changes::refusals::write_rules` meets its contract: the rules of the handle, and then rules 5 and 26. Assumes nothing.
use Rattle.std.proofs.Common.{◌≡◌, ℕ, Bool, true, false, not, refl, sym, ap, ◌∙◌, [], ◌∷◌}
use Rattle.std.proofs.lemmas.Result.{err_from_is_err_and}
use Rattle.machine.specs.declared.Handle.{Handle}
use Rattle.rules.specs.RefusalNumbers.{not-accepted}
use Rattle.rules.specs.Tests.{first_broken}
use Rattle.rules.specs.TestLaws.{kept_then, broken-here, none-broken}
use Rattle.machine.specs.Machine.{State}
use Rattle.machine.specs.Buffers.{buffered}
use Rattle.machine.specs.Rules.{range_fits, locked, rule5, rule26}
use Rattle.machine.specs.Calls.{handle_rules, write_rules}
use Rattle.machine.proofs.Laws.RuleLaws.{handle-kept, handle-stops, handle-passes}
use Rattle.guard.specs.Held.{parent-within, locked-by-frames}
use Rattle.changes.proofs.refusals.write_rules.Goals as goal

-- the rules of the handle are kept
module _ (s : State) (h : Handle) (offset n : ℕ) (e : 0 ≡ first_broken (handle_rules s h)) where
  rule-5 : range_fits offset n ≡ false → 5 ≡ first_broken (write_rules s h offset n)
  rule-5 f = handle-passes s h (rule5 offset n ∷ rule26 s h ∷ []) e refl (sym (broken-here 5 _ f))

  -- and rule 5; b is whether the page is locked
  module _ (f : range_fits offset n ≡ true) {b : Bool} (i : b ≡ locked s h.frame.0) where
    rule-26 : b ≡ true → 26 ≡ first_broken (write_rules s h offset n)
    rule-26 y = handle-passes s h (rule5 offset n ∷ rule26 s h ∷ []) e refl (sym (kept_then 5 _ f ∙ broken-here 26 [] (ap not (sym i ∙ y))))

    none : b ≡ false → 0 ≡ first_broken (write_rules s h offset n)
    none y = handle-passes s h (rule5 offset n ∷ rule26 s h ∷ []) e refl (sym (kept_then 5 _ f ∙ kept_then 26 [] (ap not (sym i ∙ y)) ∙ none-broken))

-- rules 1, 2, 28 and 3
pub returns-in_err-handle_rules : goal.returns-in_err-handle_rules
returns-in_err-handle_rules c =
    let p = err_from_is_err_and c.from_residual.result c.from_residual.ensures.1 in
    let s = buffered c.args.pool.now c.args.buffers in
    rw (p.1, p.2) (handle-stops s c.args.handle (rule5 c.args.offset c.args.n ∷ rule26 s c.args.handle ∷ []) c.in_err-handle_rules.ensures.0 (not-accepted _))

pub returns-then-not-range_fits : goal.returns-then-not-range_fits
returns-then-not-range_fits c = rule-5 (buffered c.args.pool.now c.args.buffers) _ _ _ c.in_ok-handle_rules.ensures.0 (sym c.range_fits.ensures ∙ c.if-not-range_fits.true)

pub is_frame_locked-requires : goal.is_frame_locked-requires
is_frame_locked-requires c =
    let s = buffered c.args.pool.now c.args.buffers in
    let k = handle-kept s c.args.handle (sym c.in_ok-handle_rules.ensures.0) in
    parent-within s c.args.handle k.kept k.held

pub returns-then-is_frame_locked : goal.returns-then-is_frame_locked
returns-then-is_frame_locked c =
    let s = buffered c.args.pool.now c.args.buffers in
    rule-26 s _ _ _ c.in_ok-handle_rules.ensures.0 (sym c.range_fits.ensures ∙ c.if-not-range_fits.false) (c.is_frame_locked.ensures ∙ locked-by-frames s c.args.handle.frame.0) c.if-is_frame_locked.true

pub returns : goal.returns
returns c =
    let s = buffered c.args.pool.now c.args.buffers in
    none s _ _ _ c.in_ok-handle_rules.ensures.0 (sym c.range_fits.ensures ∙ c.if-not-range_fits.false) (c.is_frame_locked.ensures ∙ locked-by-frames s c.args.handle.frame.0) c.if-is_frame_locked.false
