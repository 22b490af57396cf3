-- `changes::refusals::link_rules` meets its contract: the rules of a change, and then rules 6, 9, by the tables, and 8. Assumes nothing.
use Rattle.std.proofs.Common.{◌≡◌, ◌≢◌, ◌<◌, ◌≤◌, ltb, ℕ, Bool, List, true, false, not, refl, sym, ap, ◌∙◌, [], ◌∷◌, arith, lt-ltb, ltb-true, eq-eqb, ne_eqb}
use Rattle.std.proofs.lemmas.Result.{err_from_is_err_and}
use Rattle.page.specs.declared.PageNumber.{PageNumber}
use Rattle.page.proofs.StorePlaceLaws.{store-room}
use Rattle.machine.specs.declared.Handle.{Handle}
use Rattle.rules.specs.RefusalNumbers.{not-accepted}
use Rattle.rules.specs.Tests.{◌and◌, first_broken}
use Rattle.rules.specs.TestLaws.{is-off, and-true, both, kept_then, broken-here, none-broken}
use Rattle.machine.specs.Machine.{State}
use Rattle.machine.specs.Buffers.{buffered}
use Rattle.machine.specs.Naming.{named}
use Rattle.machine.specs.Rules.{word_of, rule6-link, rule8, rule9}
use Rattle.machine.specs.Calls.{edit_rules, link_rules}
use Rattle.machine.proofs.Laws.RuleLaws.{edit-kept, edit-stops, edit-passes}
use Rattle.seen.specs.Seen.{Seen}
use Rattle.residents.specs.Handed.{Handed}
use Rattle.naming.specs.NamedByTables.{named_by, named-by-tables}
use Rattle.changes.proofs.refusals.link_rules.Goals as goal
use Rattle.changes.proofs.refusals.link_rules.Goals.{then-page-eq0-via-then-page-eq0, then-page-eq0-via-else-page-eq0+then-pool-page}

-- the rules of a change are kept
module _ (s : State) (h : Handle) (k : ℕ) (q : PageNumber) (e : 0 ≡ first_broken (edit_rules s h k)) where
  rule-6 : (0 < q.0 → s.pool.pages ≤ q.0) → 6 ≡ first_broken (link_rules s h k q)
  rule-6 l = edit-passes s h k (rule6-link s q.0 ∷ rule9 s h.store.0 q.0 ∷ rule8 (word_of s h k) ∷ []) e refl (sym (broken-here 6 _ (is-off _ (λ t.
      let a = and-true (ltb 0 q.0) (ltb q.0 s.pool.pages) t in
      let m : 0 < q.0 = ltb-true 0 q.0 a.0 in
      let n : q.0 < s.pool.pages = ltb-true q.0 _ a.1 in
      let o : s.pool.pages ≤ q.0 = l m in
      omega arith))))

  -- and rule 6; b is whether the tables name the page
  module _ (some : 0 < q.0) (l : q.0 < s.pool.pages) {residents : List ℕ} {seen : Seen} (H : Handed s.pool s.frames residents seen) {b : Bool} {n : ℕ} (c : n ≡ s.pool.pages) (i : b ≡ named_by residents seen s.store n h.store.0 q.0) where
    six : (ltb 0 q.0 and ltb q.0 s.pool.pages) ≡ true
    six = both _ _ (lt-ltb 0 q.0 some) (lt-ltb q.0 _ l)

    names : b ≡ named s h.store.0 q.0
    names =
        let a = edit-kept s h k (sym e) in
        i ∙ rw c (named-by-tables s a.kept H h.store.0 a.store q.0 some l)

    rule-9 : b ≡ true → 9 ≡ first_broken (link_rules s h k q)
    rule-9 y = edit-passes s h k (rule6-link s q.0 ∷ rule9 s h.store.0 q.0 ∷ rule8 (word_of s h k) ∷ []) e refl (sym (kept_then 6 _ six ∙ broken-here 9 _ (ap not (sym names ∙ y))))

    module _ (f : b ≡ false) {w : ℕ} (j : w ≡ word_of s h k) where
      rule-8 : w ≢ 0 → 8 ≡ first_broken (link_rules s h k q)
      rule-8 z = edit-passes s h k (rule6-link s q.0 ∷ rule9 s h.store.0 q.0 ∷ rule8 (word_of s h k) ∷ []) e refl
          (sym (kept_then 6 _ six ∙ kept_then 9 _ (ap not (sym names ∙ f)) ∙ broken-here 8 [] (ne_eqb _ 0 (λ y. z (j ∙ y)))))

      none : w ≡ 0 → 0 ≡ first_broken (link_rules s h k q)
      none z = edit-passes s h k (rule6-link s q.0 ∷ rule9 s h.store.0 q.0 ∷ rule8 (word_of s h k) ∷ []) e refl
          (sym (kept_then 6 _ six ∙ kept_then 9 _ (ap not (sym names ∙ f)) ∙ kept_then 8 [] (eq-eqb _ 0 (sym j ∙ z)) ∙ none-broken))

-- rules 1, 2, 28, 3, 4 and 26
pub returns-in_err-edit_rules : goal.returns-in_err-edit_rules
returns-in_err-edit_rules c =
    let p = err_from_is_err_and c.from_residual.result c.from_residual.ensures.1 in
    let s = buffered c.args.pool.now c.args.buffers in
    rw (p.1, p.2) (edit-stops s c.args.handle c.args.slot (rule6-link s c.args.page.0 ∷ rule9 s c.args.handle.store.0 c.args.page.0 ∷ rule8 (word_of s c.args.handle c.args.slot) ∷ []) c.in_err-edit_rules.ensures.0 (not-accepted _))

pub returns-then-page-eq0 : goal.returns-then-page-eq0
returns-then-page-eq0 c = rule-6 (buffered c.args.pool.now c.args.buffers) _ _ _ c.in_ok-edit_rules.ensures.0 (elim c.then-page-eq0.branch [
  | then-page-eq0-via-then-page-eq0 w ↦ λ l. omega arith
  | then-page-eq0-via-else-page-eq0+then-pool-page w ↦ λ l. w.if-pool-page.true
])

pub is_named-requires : goal.is_named-requires
is_named-requires c =
    let k = edit-kept (buffered c.args.pool.now c.args.buffers) c.args.handle c.args.slot (sym c.in_ok-edit_rules.ensures.0) in
    let r = store-room c.args.pool.now.pages c.args.handle.store.0 c.args.pool.now.stores k.store in
    let z = k.kept.sized in
    rw c.from-n.ensures (z.pages, omega (arith, k.kept.stores.most), omega arith, omega arith)

pub returns-then-is_named : goal.returns-then-is_named
returns-then-is_named c = rule-9 (buffered c.args.pool.now c.args.buffers) _ _ _ c.in_ok-edit_rules.ensures.0 (omega arith) c.if-pool-page.false (c.in_ok-edit_rules.ensures.1 refl) c.from-n.ensures c.is_named.ensures c.if-is_named.true

pub slot_name-requires : goal.slot_name-requires
slot_name-requires c = let k = edit-kept (buffered c.args.pool.now c.args.buffers) c.args.handle c.args.slot (sym c.in_ok-edit_rules.ensures.0) in (omega arith, k.slot)

pub returns-then-slot_name-ne-NOTHING : goal.returns-then-slot_name-ne-NOTHING
returns-then-slot_name-ne-NOTHING c = rule-8 (buffered c.args.pool.now c.args.buffers) _ _ _ c.in_ok-edit_rules.ensures.0 (omega arith) c.if-pool-page.false (c.in_ok-edit_rules.ensures.1 refl) c.from-n.ensures c.is_named.ensures c.if-is_named.false c.slot_name.ensures c.if-slot_name-ne-NOTHING.true

pub returns : goal.returns
returns c = none (buffered c.args.pool.now c.args.buffers) _ _ _ c.in_ok-edit_rules.ensures.0 (omega arith) c.if-pool-page.false (c.in_ok-edit_rules.ensures.1 refl) c.from-n.ensures c.is_named.ensures c.if-is_named.false c.slot_name.ensures c.if-slot_name-ne-NOTHING.false
