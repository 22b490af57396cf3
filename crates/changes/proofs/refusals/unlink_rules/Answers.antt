-- `changes::refusals::unlink_rules` meets its contract: the rules of a change, and then rules 7 and 10. Assumes nothing.
use Rattle.std.proofs.Common.{◌≡◌, ◌≢◌, ℕ, false, true, not, eqb, refl, sym, ap, ◌∙◌, [], ◌∷◌, arith, eq-eqb, ne_eqb}
use Rattle.std.proofs.lemmas.Result.{err_from_is_err_and}
use Rattle.page.specs.Word.{is_number}
use Rattle.machine.specs.declared.Handle.{Handle}
use Rattle.rules.specs.RefusalNumbers.{not-accepted}
use Rattle.rules.specs.Tests.{first_broken}
use Rattle.rules.specs.TestLaws.{kept_then, broken-here, none-broken}
use Rattle.machine.specs.Machine.{State}
use Rattle.machine.specs.Buffers.{buffered}
use Rattle.machine.specs.Rules.{word_of, rule7, rule10}
use Rattle.machine.specs.Calls.{edit_rules, unlink_rules}
use Rattle.machine.proofs.Laws.RuleLaws.{edit-kept, edit-stops, edit-passes}
use Rattle.changes.proofs.refusals.unlink_rules.Goals as goal

-- the rules of a change are kept, and w is the name that the code read
module _ (s : State) (h : Handle) (k : ℕ) (e : 0 ≡ first_broken (edit_rules s h k)) {w : ℕ} (i : w ≡ word_of s h k) where
  rule-7 : w ≡ 0 → 7 ≡ first_broken (unlink_rules s h k)
  rule-7 z = edit-passes s h k (rule7 (word_of s h k) ∷ rule10 (word_of s h k) ∷ []) e refl (sym (broken-here 7 _ (ap not (eq-eqb _ 0 (sym i ∙ z)))))

  module _ (n : w ≢ 0) where
    seven : not (eqb (word_of s h k) 0) ≡ true
    seven = ap not (ne_eqb _ 0 (λ z. n (i ∙ z)))

    rule-10 : is_number w ≡ false → 10 ≡ first_broken (unlink_rules s h k)
    rule-10 f = edit-passes s h k (rule7 (word_of s h k) ∷ rule10 (word_of s h k) ∷ []) e refl (sym (kept_then 7 _ seven ∙ broken-here 10 [] (ap is_number (sym i) ∙ f)))

    none : is_number w ≡ true → 0 ≡ first_broken (unlink_rules s h k)
    none f = edit-passes s h k (rule7 (word_of s h k) ∷ rule10 (word_of s h k) ∷ []) e refl (sym (kept_then 7 _ seven ∙ kept_then 10 [] (ap is_number (sym i) ∙ f) ∙ none-broken))

-- rules 1, 2, 28, 3, 4 and 26
pub returns-in_err-edit_rules : goal.returns-in_err-edit_rules
returns-in_err-edit_rules c =
    let p = err_from_is_err_and c.from_residual.result c.from_residual.ensures.1 in
    let s = buffered c.args.pool.now c.args.buffers in
    let w = word_of s c.args.handle c.args.slot in
    rw (p.1, p.2) (edit-stops s c.args.handle c.args.slot (rule7 w ∷ rule10 w ∷ []) c.in_err-edit_rules.ensures.0 (not-accepted _))

pub slot_name-name-requires : goal.slot_name-name-requires
slot_name-name-requires c = let k = edit-kept (buffered c.args.pool.now c.args.buffers) c.args.handle c.args.slot (sym c.in_ok-edit_rules.ensures.0) in (omega arith, k.slot)

pub returns-then-name-eq-NOTHING : goal.returns-then-name-eq-NOTHING
returns-then-name-eq-NOTHING c = rule-7 (buffered c.args.pool.now c.args.buffers) _ _ c.in_ok-edit_rules.ensures.0 c.slot_name-name.ensures c.if-name-eq-NOTHING.true

pub returns-then-not-is_number : goal.returns-then-not-is_number
returns-then-not-is_number c = rule-10 (buffered c.args.pool.now c.args.buffers) _ _ c.in_ok-edit_rules.ensures.0 c.slot_name-name.ensures c.if-name-eq-NOTHING.false (sym c.is_number.ensures ∙ c.if-not-is_number.true)

pub returns : goal.returns
returns c = none (buffered c.args.pool.now c.args.buffers) _ _ c.in_ok-edit_rules.ensures.0 c.slot_name-name.ensures c.if-name-eq-NOTHING.false (sym c.is_number.ensures ∙ c.if-not-is_number.false)
