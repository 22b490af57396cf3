-- What calls share. No broken rule, as a record of facts; rules that code tests in parts; and what a call answers and leaves, by the refusal's number. Assumes nothing.
use Rattle.std.specs.Prelude.{ℕ, ◌<◌, ◌≡◌, refl, true, false, not, List, [], ◌∷◌, ◌++◌, Result, Err, IsErrAnd, eqb, ltb}
use Rattle.std.proofs.Common.{sym, ◌∙◌, ap, eqb-true, ltb-true}
use Rattle.std.proofs.lemmas.Bool.{not-true}
use Rattle.std.proofs.lemmas.Result.{err_from_is_err_and}
use Rattle.page.specs.declared.PageNumber.{PageNumber}
use Rattle.page.specs.Figures.{slot_count}
use Rattle.machine.specs.declared.Pool.{Pool}
use Rattle.machine.specs.declared.Handle.{Handle}
use Rattle.rules.specs.declared.refusal.Refusal.{Refusal}
use Rattle.rules.specs.RefusalNumbers.{number_of, not-accepted}
use Rattle.rules.specs.Tests.{◌and◌, Rule, first_broken, verdict}
use Rattle.rules.specs.TestLaws.{and-true, first-kept, pick-either, verdict-no, verdict-yes, numbered, broken-then, parts-kept}
use Rattle.machine.specs.Machine.{State, is_used, record_at, page_in, store_in, occupied}
use Rattle.machine.proofs.Laws.AgreementFacts.{make-occupied}
use Rattle.machine.specs.Answers.{Answer, refused, done, answered, Out, out}
use Rattle.machine.specs.Rules.{handle_fits, locked, rule3, rule4, rule6, rule26, rule28}
use Rattle.machine.specs.Calls.{decide, pool_rules, store_rules, handle_rules, word_rules, edit_rules, page_rules, show_call, peek_call, word_call, find_call}
use Rattle.machine.proofs.Laws.Ready.{Kept, rules-kept}

-- ---- no rule is broken

-- rule 3: the handle's frame is one of the F frames and holds its page, of its store, which is pinned
pub record HandleHeld (p : Pool) (h : Handle) : Type 0 where
  pub below : h.frame.0 < p.count
  pub used : is_used (record_at p.records h.frame.0) ≡ true
  pub store : store_in p.records h.frame.0 ≡ h.store.0
  pub page : page_in p.records h.frame.0 ≡ h.page.0
  pub pins : 0 < (record_at p.records h.frame.0).pins

pub handle-held : (p : Pool) (h : Handle) → handle_fits p h ≡ true → HandleHeld p h
unfolding handle_fits
handle-held p h t =
    let r = record_at p.records h.frame.0 in
    let a = and-true (ltb h.frame.0 p.count) _ t in
    let b = and-true (is_used r) _ a.1 in
    let c = and-true (eqb r.store.0 h.store.0) _ b.1 in
    let d = and-true (eqb r.page.0 h.page.0) (ltb 0 r.pins) c.1 in
    record { below = ltb-true _ _ a.0; used = b.0; store = eqb-true _ _ c.0; page = eqb-true _ _ d.0; pins = ltb-true 0 _ d.1 }

pub held-occupied : (p : Pool) (h : Handle) → HandleHeld p h → occupied p h.frame.0 ≡ true
held-occupied p h e = make-occupied p h.frame.0 e.below e.used

-- rule 28: the store is one of T
pub record StoreKept (s : State) (t : ℕ) : Type 0 where
  pub kept : Kept s
  pub store : t < s.pool.stores

pub record HandleKept (s : State) (h : Handle) : Type 0 where
  pub kept : Kept s
  pub store : h.store.0 < s.pool.stores
  pub held : HandleHeld s.pool h

pub record SlotKept (s : State) (h : Handle) (k : ℕ) : Type 0 where
  pub kept : Kept s
  pub store : h.store.0 < s.pool.stores
  pub held : HandleHeld s.pool h
  pub slot : k < slot_count

-- rule 26 too: the page isn't locked
pub record EditKept (s : State) (h : Handle) (k : ℕ) : Type 0 where
  pub kept : Kept s
  pub store : h.store.0 < s.pool.stores
  pub held : HandleHeld s.pool h
  pub slot : k < slot_count
  pub free : locked s h.frame.0 ≡ false

pub record PageKept (s : State) (t : ℕ) (q : PageNumber) : Type 0 where
  pub kept : Kept s
  pub store : t < s.pool.stores
  pub below : q.0 < s.pool.pages

pool-numbered : (s : State) → numbered (pool_rules s) ≡ true
unfolding numbered ◌and◌
pool-numbered s = refl

store-numbered : (s : State) (t : ℕ) → numbered (store_rules s t) ≡ true
unfolding numbered ◌and◌
store-numbered s t = refl

handle-numbered : (s : State) (h : Handle) → numbered (handle_rules s h) ≡ true
unfolding numbered ◌and◌
handle-numbered s h = refl

slot-numbered : (s : State) (h : Handle) (k : ℕ) → numbered (word_rules s h k) ≡ true
unfolding numbered ◌and◌
slot-numbered s h k = refl

edit-numbered : (s : State) (h : Handle) (k : ℕ) → numbered (edit_rules s h k) ≡ true
unfolding numbered ◌and◌
edit-numbered s h k = refl

page-numbered : (s : State) (t : ℕ) (q : PageNumber) → numbered (page_rules s t q) ≡ true
unfolding numbered ◌and◌
page-numbered s t q = refl

pub store_kept : (s : State) (t : ℕ) → first_broken (store_rules s t) ≡ 0 → StoreKept s t
store_kept s t e =
    let a = parts-kept (pool_rules s) (rule28 s t ∷ []) (pool-numbered s) e in
    record { kept = rules-kept s a.0; store = ltb-true t _ (first-kept 27 (ltb t s.pool.stores) [] a.1).0 }

pub handle-kept : (s : State) (h : Handle) → first_broken (handle_rules s h) ≡ 0 → HandleKept s h
handle-kept s h e =
    let a = parts-kept (store_rules s h.store.0) (rule3 s h ∷ []) (store-numbered s h.store.0) e in
    let b = store_kept s h.store.0 a.0 in
    record { kept = b.kept; store = b.store; held = handle-held s.pool h (first-kept 2 (handle_fits s.pool h) [] a.1).0 }

pub slot_kept : (s : State) (h : Handle) (k : ℕ) → first_broken (word_rules s h k) ≡ 0 → SlotKept s h k
slot_kept s h k e =
    let a = parts-kept (handle_rules s h) (rule4 k ∷ []) (handle-numbered s h) e in
    let b = handle-kept s h a.0 in
    record { kept = b.kept; store = b.store; held = b.held; slot = ltb-true k slot_count (first-kept 3 (ltb k slot_count) [] a.1).0 }

pub not-locked : (s : State) (h : Handle) (rest : List Rule) → first_broken (rule26 s h ∷ rest) ≡ 0 → (locked s h.frame.0 ≡ false) × (first_broken rest ≡ 0)
not-locked s h rest e = let a = first-kept 25 (not (locked s h.frame.0)) rest e in (not-true _ a.0, a.1)

pub edit-kept : (s : State) (h : Handle) (k : ℕ) → first_broken (edit_rules s h k) ≡ 0 → EditKept s h k
edit-kept s h k e =
    let a = parts-kept (word_rules s h k) (rule26 s h ∷ []) (slot-numbered s h k) e in
    let b = slot_kept s h k a.0 in
    record { kept = b.kept; store = b.store; held = b.held; slot = b.slot; free = (not-locked s h [] a.1).0 }

pub page-kept : (s : State) (t : ℕ) (q : PageNumber) → first_broken (page_rules s t q) ≡ 0 → PageKept s t q
page-kept s t q e =
    let a = parts-kept (store_rules s t) (rule6 s q.0 ∷ []) (store-numbered s t) e in
    let b = store_kept s t a.0 in
    record { kept = b.kept; store = b.store; below = ltb-true _ _ (first-kept 5 (ltb q.0 s.pool.pages) [] a.1).0 }

-- ---- rules in two parts, xs and then ys

-- n is the first part's number
stops : (xs ys : List Rule) {n : ℕ} → numbered xs ≡ true → n ≡ first_broken xs → (n ≡ 0 → ⊥) → n ≡ first_broken (xs ++ ys)
stops xs ys t e h = verdict-no (λ k. k) (first_broken ys) e h ∙ broken-then xs ys t

passes : (xs ys : List Rule) {n m : ℕ} → numbered xs ≡ true → n ≡ first_broken xs → n ≡ 0 → m ≡ first_broken ys → m ≡ first_broken (xs ++ ys)
passes xs ys t e h i = verdict-yes (λ k. k) e h i ∙ broken-then xs ys t

-- the rules ys after those of the pool; of a store; of a handle; of a handle and a slot; of a change there; of a page number: where the first part refuses, where it passes, and where neither is broken
module _ (s : State) (ys : List Rule) {n : ℕ} where
  pub pool-stops : n ≡ first_broken (pool_rules s) → (n ≡ 0 → ⊥) → n ≡ first_broken (pool_rules s ++ ys)
  pool-stops = stops (pool_rules s) ys (pool-numbered s)

  pub pool-passes : {m : ℕ} → n ≡ first_broken (pool_rules s) → n ≡ 0 → m ≡ first_broken ys → m ≡ first_broken (pool_rules s ++ ys)
  pool-passes = passes (pool_rules s) ys (pool-numbered s)

module _ (s : State) (t : ℕ) (ys : List Rule) {n : ℕ} where
  pub store-stops : n ≡ first_broken (store_rules s t) → (n ≡ 0 → ⊥) → n ≡ first_broken (store_rules s t ++ ys)
  store-stops = stops (store_rules s t) ys (store-numbered s t)

  pub store-passes : {m : ℕ} → n ≡ first_broken (store_rules s t) → n ≡ 0 → m ≡ first_broken ys → m ≡ first_broken (store_rules s t ++ ys)
  store-passes = passes (store_rules s t) ys (store-numbered s t)

pub store-parts : (s : State) (t : ℕ) (ys : List Rule) → first_broken (store_rules s t ++ ys) ≡ 0 → StoreKept s t × (first_broken ys ≡ 0)
store-parts s t ys e = let a = parts-kept (store_rules s t) ys (store-numbered s t) e in (store_kept s t a.0, a.1)

module _ (s : State) (h : Handle) (ys : List Rule) {n : ℕ} where
  pub handle-stops : n ≡ first_broken (handle_rules s h) → (n ≡ 0 → ⊥) → n ≡ first_broken (handle_rules s h ++ ys)
  handle-stops = stops (handle_rules s h) ys (handle-numbered s h)

  pub handle-passes : {m : ℕ} → n ≡ first_broken (handle_rules s h) → n ≡ 0 → m ≡ first_broken ys → m ≡ first_broken (handle_rules s h ++ ys)
  handle-passes = passes (handle_rules s h) ys (handle-numbered s h)

pub handle-parts : (s : State) (h : Handle) (ys : List Rule) → first_broken (handle_rules s h ++ ys) ≡ 0 → HandleKept s h × (first_broken ys ≡ 0)
handle-parts s h ys e = let a = parts-kept (handle_rules s h) ys (handle-numbered s h) e in (handle-kept s h a.0, a.1)

module _ (s : State) (h : Handle) (k : ℕ) (ys : List Rule) {n : ℕ} where
  pub slot-stops : n ≡ first_broken (word_rules s h k) → (n ≡ 0 → ⊥) → n ≡ first_broken (word_rules s h k ++ ys)
  slot-stops = stops (word_rules s h k) ys (slot-numbered s h k)

  pub slot-passes : {m : ℕ} → n ≡ first_broken (word_rules s h k) → n ≡ 0 → m ≡ first_broken ys → m ≡ first_broken (word_rules s h k ++ ys)
  slot-passes = passes (word_rules s h k) ys (slot-numbered s h k)

pub slot-parts : (s : State) (h : Handle) (k : ℕ) (ys : List Rule) → first_broken (word_rules s h k ++ ys) ≡ 0 → SlotKept s h k × (first_broken ys ≡ 0)
slot-parts s h k ys e = let a = parts-kept (word_rules s h k) ys (slot-numbered s h k) e in (slot_kept s h k a.0, a.1)

module _ (s : State) (h : Handle) (k : ℕ) (ys : List Rule) {n : ℕ} where
  pub edit-stops : n ≡ first_broken (edit_rules s h k) → (n ≡ 0 → ⊥) → n ≡ first_broken (edit_rules s h k ++ ys)
  edit-stops = stops (edit_rules s h k) ys (edit-numbered s h k)

  pub edit-passes : {m : ℕ} → n ≡ first_broken (edit_rules s h k) → n ≡ 0 → m ≡ first_broken ys → m ≡ first_broken (edit_rules s h k ++ ys)
  edit-passes = passes (edit_rules s h k) ys (edit-numbered s h k)

pub edit-parts : (s : State) (h : Handle) (k : ℕ) (ys : List Rule) → first_broken (edit_rules s h k ++ ys) ≡ 0 → EditKept s h k × (first_broken ys ≡ 0)
edit-parts s h k ys e = let a = parts-kept (edit_rules s h k) ys (edit-numbered s h k) e in (edit-kept s h k a.0, a.1)

module _ (s : State) (t : ℕ) (q : PageNumber) (ys : List Rule) {n : ℕ} where
  pub page-stops : n ≡ first_broken (page_rules s t q) → (n ≡ 0 → ⊥) → n ≡ first_broken (page_rules s t q ++ ys)
  page-stops = stops (page_rules s t q) ys (page-numbered s t q)

  pub page-passes : {m : ℕ} → n ≡ first_broken (page_rules s t q) → n ≡ 0 → m ≡ first_broken ys → m ≡ first_broken (page_rules s t q ++ ys)
  page-passes = passes (page_rules s t q) ys (page-numbered s t q)

-- ---- what a call answers and leaves, where n is the refusal that the code computed

pub decide-no : (s : State) (rules : List Rule) (accepted : Out) {n : ℕ} → n ≡ first_broken rules → (n ≡ 0 → ⊥) → out (refused n) s ≡ decide s rules accepted
unfolding decide
decide-no s rules accepted e h = verdict-no (λ k. out (refused k) s) accepted e h

pub decide-yes : (s : State) (rules : List Rule) {n : ℕ} {x accepted : Out} → n ≡ first_broken rules → n ≡ 0 → x ≡ accepted → x ≡ decide s rules accepted
unfolding decide
decide-yes s rules e h i = verdict-yes (λ k. out (refused k) s) e h i

-- the answer alone
pub answer-no : (s : State) (rules : List Rule) (accepted : Out) {n : ℕ} → n ≡ first_broken rules → (n ≡ 0 → ⊥) → refused n ≡ (decide s rules accepted).answer
answer-no s rules accepted e h = ap (λ (o : Out). o.answer) (decide-no s rules accepted e h)

pub answer-yes : (s : State) (rules : List Rule) (left : State) {n : ℕ} {x a : Answer} → n ≡ first_broken rules → n ≡ 0 → x ≡ a → x ≡ (decide s rules (out a left)).answer
answer-yes s rules left e h i = i ∙ ap (λ (o : Out). o.answer) (decide-yes s rules e h refl)

-- an answer without a value of its own, by the refusal's number, 0 where the call was accepted
pub done_refused : {n : ℕ} → (n ≡ 0 → ⊥) → verdict n refused done ≡ refused n
done_refused h = sym (verdict-no refused done refl h)

pub done-accepted : verdict 0 refused done ≡ done
done-accepted = sym (verdict-yes refused refl refl refl)

pub done-no : (s : State) (rules : List Rule) (accepted : Out) {n : ℕ} → n ≡ first_broken rules → (n ≡ 0 → ⊥) → out (verdict n refused done) s ≡ decide s rules accepted
done-no s rules accepted e h = ap (λ (a : Answer). out a s) (done_refused h) ∙ decide-no s rules accepted e h

pub done-yes : (s : State) (rules : List Rule) {n : ℕ} {t u : State} → n ≡ first_broken rules → n ≡ 0 → t ≡ u → out (verdict 0 refused done) t ≡ decide s rules (out done u)
done-yes s rules {t = t} e h i = decide-yes s rules e h (ap (λ (a : Answer). out a t) done-accepted ∙ ap (out done) i)

-- a call's answer in code: refused by the first broken rule, or accepted where none is
pub refused-out : {A : Type 0} (f : A → Answer) (s : State) (rules : List Rule) (accepted : Out) (r : Refusal) → number_of r ≡ first_broken rules → out (answered f (Err r)) s ≡ decide s rules accepted
refused-out f s rules accepted r e = decide-no s rules accepted e (not-accepted r)

pub refused-answer : {A : Type 0} (f : A → Answer) (s : State) (rules : List Rule) (accepted : Out) (r : Refusal) → number_of r ≡ first_broken rules → answered f (Err r) ≡ (decide s rules accepted).answer
refused-answer f s rules accepted r e = answer-no s rules accepted e (not-accepted r)

-- a refusal that `?` hands on: the answer r has the refusal e of the first broken rule
pub handed-on-out : {A : Type 0} (f : A → Answer) (s : State) (rules : List Rule) (accepted : Out) (r : Result A Refusal) (e : Refusal) → IsErrAnd r (λ x. x ≡ e) → number_of e ≡ first_broken rules → out (answered f r) s ≡ decide s rules accepted
handed-on-out f s rules accepted r e h n =
    let p = err_from_is_err_and r h in
    rw (p.1, p.2) (refused-out f s rules accepted e n)

pub handed-on-answer : {A : Type 0} (f : A → Answer) (s : State) (rules : List Rule) (accepted : Out) (r : Result A Refusal) (e : Refusal) → IsErrAnd r (λ x. x ≡ e) → number_of e ≡ first_broken rules → answered f r ≡ (decide s rules accepted).answer
handed-on-answer f s rules accepted r e h n =
    let p = err_from_is_err_and r h in
    rw (p.1, p.2) (refused-answer f s rules accepted e n)

pub accepted-out : (s : State) (rules : List Rule) {x accepted : Out} → 0 ≡ first_broken rules → x ≡ accepted → x ≡ decide s rules accepted
accepted-out s rules e i = decide-yes s rules e refl i

pub accepted-answer : (s : State) (rules : List Rule) (left : State) {x a : Answer} → 0 ≡ first_broken rules → x ≡ a → x ≡ (decide s rules (out a left)).answer
accepted-answer s rules left e i = answer-yes s rules left e refl i

-- ---- calls that change nothing

left_alone : (s : State) (rules : List Rule) (a : Answer) → (decide s rules (out a s)).left ≡ s
unfolding decide verdict
left_alone s rules a = pick-either (λ (o : Out). o.left ≡ s) (eqb (first_broken rules) 0) (out a s) (out (refused (first_broken rules)) s) refl refl

pub show-left-alone : (s : State) (h : Handle) → (show_call s h).left ≡ s
unfolding show_call
show-left-alone s h = left_alone s _ _

pub peek-left-alone : (s : State) (t : ℕ) (q : PageNumber) → (peek_call s t q).left ≡ s
unfolding peek_call
peek-left-alone s t q = left_alone s _ _

pub word-left-alone : (s : State) (h : Handle) (k : ℕ) → (word_call s h k).left ≡ s
unfolding word_call
word-left-alone s h k = left_alone s _ _

pub find-left-alone : (s : State) (t : ℕ) (q : PageNumber) → (find_call s t q).left ≡ s
unfolding find_call
find-left-alone s t q = left_alone s _ _
