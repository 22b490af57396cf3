-- Request A.4, "Evict should tell the reasons apart": evict against document 01's rule 12, which no call answers any more. Assumes nothing.
use Rattle.std.specs.Prelude.{ℕ, ◌<◌, ◌≤◌, ◌≡◌, ◌≢◌, ◌⊎◌, ◌↔◌, true, false, ltb}
use Rattle.std.proofs.Math.Path.{refl}
use Rattle.std.proofs.Common.{sym, ◌∙◌, ap, inl, inr, arith}
use mathlib.Core.List.{List, [], ◌∷◌, ◌++◌}
use borrow.Author.Tests.{ltb-true}
use Rattle.page.specs.declared.PageNumber.{PageNumber}
use Rattle.page.specs.StorePlaces.{store_place}
use Rattle.page.proofs.StorePlaceLaws.{place-inj}
use Rattle.machine.specs.declared.Standing.{Standing}
use Rattle.rules.specs.Tests.{◌and◌, Rule, first_broken}
use Rattle.machine.specs.Machine.{State, record_at, place_in, found, found_in}
use Rattle.machine.specs.Sweep.{standing, evictable, is_open}
use Rattle.machine.specs.Moves.{evicted}
use Rattle.machine.specs.Answers.{refused, done, Out, out}
use Rattle.machine.specs.Rules.{rule11}
use Rattle.machine.specs.Calls.{decide, page_rules, open_call, root_call, unfix_call, show_call, peek_call, word_call, write_call, link_call, unlink_call, stay_rules, evict_rules, evict_call, settle_call, find_call}
use Rattle.machine.specs.History.{Call, reopen, root, fix, unfix, show, peek, word, write, link, unlink, evict, settle, find, row}
use Rattle.rules.specs.TestLaws.{first-kept, kept_then, broken-here, none-broken, numbered, parts-kept}
use Rattle.machine.proofs.Laws.FoundLaws.{found-holds, found-is}
use Rattle.machine.proofs.Laws.RuleLaws.{PageKept, page-kept}
use Rattle.machine.proofs.Laws.Standings.{HasSwizzled, numbers-alone, root_stands, pinned_stands, parent_stands, open_stands, stands, stay_number, stays-first}
use Rattle.machine.proofs.Laws.Outcomes.{lacks, kept-part, first, second, parts, one-refusal, refused-by, never-by, same_by, answers-as, leaves-as, place-accepted, found-accepted, fix-lacks}

-- ---- document 01's rule and evict by it: definitions for these laws alone, which no call cites

-- 12. "Evict's page is the root, pinned, or has a swizzled word."
abbrev pub rule12 : State → ℕ → ℕ → Rule
rule12 s t q = let f = found_in s.pool t q in (12, is_open s.pool.stores (record_at s.pool.records f) s.frames f)

-- the rules that both test first: the page is resident
abbrev pub resident_rules : State → ℕ → PageNumber → List Rule
resident_rules s t q = page_rules s t q ++ (rule11 s t q.0 ∷ [])

abbrev pub evict_rules_before : State → ℕ → PageNumber → List Rule
evict_rules_before s t q = page_rules s t q ++ (rule11 s t q.0 ∷ rule12 s t q.0 ∷ [])

unfoldable pub evict_call_before : State → ℕ → PageNumber → Out
evict_call_before s t q = decide s (evict_rules_before s t q) (out done (evicted s (found_in s.pool t q.0)))

-- ---- what is claimed of evict, on every input

-- document 01 gives 12
abbrev pub Twelve : State → ℕ → PageNumber → Type 0
Twelve s t q = (evict_call_before s t q).answer ≡ refused 12

-- evict is refused by n
abbrev pub Refuses : State → ℕ → PageNumber → ℕ → Type 0
Refuses s t q n = (evict_call s t q).answer ≡ refused n

-- the record of the page's frame has pins; that frame has a swizzled word
abbrev pub PinnedIn : State → ℕ → PageNumber → Type 0
PinnedIn s t q = (record_at s.pool.records (found_in s.pool t q.0)).pins ≢ 0

abbrev pub SwizzledIn : State → ℕ → PageNumber → Type 0
SwizzledIn s t q = HasSwizzled s.frames (found_in s.pool t q.0)

pub record ReasonsApart (s : State) (t : ℕ) (q : PageNumber) : Type 0 where
  -- document 01: "Evict's page is the root, pinned, or has a swizzled word.", where no rule before is broken
  pub was : Twelve s t q ↔ ((first_broken (resident_rules s t q) ≡ 0) × ((q.0 ≡ 0) ⊎ (PinnedIn s t q ⊎ SwizzledIn s t q)))
  -- "Replace it with three answers."
  pub replaced : Twelve s t q ↔ (Refuses s t q 20 ⊎ (Refuses s t q 21 ⊎ Refuses s t q 22))
  -- "20: the root; 21: pinned; 22: a swizzled word; in this order where 12 stood"
  pub root : Refuses s t q 20 ↔ (Twelve s t q × (q.0 ≡ 0))
  pub pinned : Refuses s t q 21 ↔ (Twelve s t q × (q.0 ≢ 0) × PinnedIn s t q)
  pub parent : Refuses s t q 22 ↔ (Twelve s t q × (q.0 ≢ 0) × (PinnedIn s t q → ⊥) × SwizzledIn s t q)
  -- every other answer, and what it leaves, is document 01's
  pub others : (Twelve s t q → ⊥) → evict_call s t q ≡ evict_call_before s t q
  -- what evict leaves is the same in every case
  pub left : (evict_call s t q).left ≡ (evict_call_before s t q).left

-- "12 is given no more": by no call, in no state
abbrev pub NeverTwelve : Type 0
NeverTwelve = (c : Call) (s : State) → ((row c).out s).answer ≢ refused 12

-- ---- what both answer and leave, by the number of the first broken rule

-- why a page stays, and the number for it
data Reason (s : State) (t : ℕ) (q : PageNumber) (n : ℕ) : Type 0 where
  as_root : n ≡ 20 → q.0 ≡ 0 → Reason s t q n
  as_pinned : n ≡ 21 → q.0 ≢ 0 → PinnedIn s t q → Reason s t q n
  as_parent : n ≡ 22 → q.0 ≢ 0 → (PinnedIn s t q → ⊥) → SwizzledIn s t q → Reason s t q n

-- a rule before is broken; the page goes; or it stays
data Told (s : State) (t : ℕ) (q : PageNumber) : Type 0 where
  earlier : first_broken (resident_rules s t q) ≢ 0 → evict_call s t q ≡ evict_call_before s t q → Told s t q
  goes : q.0 ≢ 0 → (PinnedIn s t q → ⊥) → (SwizzledIn s t q → ⊥) → evict_call s t q ≡ evict_call_before s t q → Told s t q
  stays : (n : ℕ) → first_broken (resident_rules s t q) ≡ 0 → evict_call_before s t q ≡ out (refused 12) s → evict_call s t q ≡ out (refused n) s → Reason s t q n → Told s t q

module _ (s : State) (t : ℕ) (q : PageNumber) where
  abbrev when_kept : Out
  when_kept = out done (evicted s (found_in s.pool t q.0))

  abbrev frame : ℕ
  frame = found_in s.pool t q.0

  abbrev stood : Standing
  stood = standing s.pool.stores (record_at s.pool.records frame) s.frames frame

  same-call : first_broken (evict_rules s t q) ≡ first_broken (evict_rules_before s t q) → evict_call s t q ≡ evict_call_before s t q
  unfolding evict_call evict_call_before
  same-call = same_by s (evict_rules s t q) when_kept (evict_rules_before s t q)

  before-is : (n : ℕ) → n ≢ 0 → first_broken (evict_rules_before s t q) ≡ n → evict_call_before s t q ≡ out (refused n) s
  unfolding evict_call_before
  before-is = refused-by s (evict_rules_before s t q) when_kept

  now-is : (n : ℕ) → n ≢ 0 → first_broken (evict_rules s t q) ≡ n → evict_call s t q ≡ out (refused n) s
  unfolding evict_call
  now-is = refused-by s (evict_rules s t q) when_kept

  -- document 01 gives none of the new numbers
  before-lacks : (n : ℕ) → n ≢ 0 → lacks n (evict_rules_before s t q) ≡ true → (evict_call_before s t q).answer ≢ refused n
  unfolding evict_call_before
  before-lacks = never-by s (evict_rules_before s t q) when_kept refl

  numbered-first : numbered (resident_rules s t q) ≡ true
  unfolding numbered ◌and◌
  numbered-first = refl

  -- ---- where a rule before is broken

  both_earlier : first_broken (resident_rules s t q) ≢ 0 → first_broken (evict_rules s t q) ≡ first_broken (resident_rules s t q) → Told s t q
  both_earlier m e = elim (parts (resident_rules s t q) (rule12 s t q.0 ∷ []) numbered-first) [
    | first m e2 ↦ earlier m (same-call (e ∙ sym e2))
    | second k e2 ↦ absurd (m k)
  ]

  -- ---- where the page is resident

  module _ (k : first_broken (resident_rules s t q) ≡ 0) where
    now-stays : first_broken (evict_rules s t q) ≡ stay_number stood
    now-stays = kept-part (resident_rules s t q) (stay_rules s t q.0) numbered-first k ∙ stays-first s t q.0

    before-stays : evictable stood ≡ false → evict_call_before s t q ≡ out (refused 12) s
    before-stays e = before-is 12 (omega arith) (kept-part (resident_rules s t q) (rule12 s t q.0 ∷ []) numbered-first k ∙ broken-here 12 [] e)

    before-goes : evictable stood ≡ true → first_broken (evict_rules_before s t q) ≡ 0
    before-goes e = kept-part (resident_rules s t q) (rule12 s t q.0 ∷ []) numbered-first k ∙ kept_then 12 [] e ∙ none-broken

    resident : PageKept s t q × (frame < s.pool.count)
    unfolding numbered ◌and◌
    resident =
        let a = parts-kept (page_rules s t q) (rule11 s t q.0 ∷ []) refl k in
        (page-kept s t q a.0, ltb-true _ _ (first-kept 10 (ltb frame s.pool.count) [] a.1).0)

    -- the root is page 0 of its store, in the frame of its number
    page-zero : frame < s.pool.stores → q.0 ≡ 0
    page-zero l =
        let r = resident in
        let A = r.0.kept.agreed in
        let e = (found-holds s.pool (store_place s.pool.pages t q.0) r.1).1 in
        let b = (A.in_range frame (omega (arith, r.1, r.0.kept.sized.most))).page in
        sym (place-inj s.pool.pages _ _ t q.0 b r.0.below e).1 ∙ A.root_page frame l

    root-frame : q.0 ≡ 0 → frame < s.pool.stores
    root-frame e =
        let r = resident.0 in
        let A = r.kept.agreed in
        let own : store_place s.pool.pages t q.0 ≡ place_in s.pool.pages s.pool.records t = rw (e, A.root_store t r.store, A.root_page t r.store) in
        let at : frame ≡ t = ap (found s.pool) own ∙ found-is s.pool s.frames A t (A.root t r.store) in
        omega (arith, r.store)

    staying : (n : ℕ) → n ≢ 0 → stay_number stood ≡ n → evictable stood ≡ false → Reason s t q n → Told s t q
    staying n z e o r = stays n k (before-stays o) (now-is n z (now-stays ∙ e)) r

    not_root : s.pool.stores ≤ frame → q.0 ≢ 0
    not_root f z = let l = root-frame z in omega arith

    by-standing : Told s t q
    by-standing = elim (stands s.pool.stores (record_at s.pool.records frame) s.frames frame) [
      | root_stands e f ↦ staying 20 (omega arith) (ap stay_number e) (ap evictable e) (as_root refl (page-zero f))
      | pinned_stands e f p ↦ staying 21 (omega arith) (ap stay_number e) (ap evictable e) (as_pinned refl (not_root f) p)
      | parent_stands e f p w ↦ staying 22 (omega arith) (ap stay_number e) (ap evictable e) (as_parent refl (not_root f) (λ y. y p) w)
      | open_stands e f p w ↦ goes (not_root f) (λ y. y p) (λ y. let l = numbers-alone s.frames frame w y.0 y.1 in omega (arith, y.2)) (same-call (now-stays ∙ ap stay_number e ∙ sym (before-goes (ap evictable e))))
    ]

  told : Told s t q
  told = elim (parts (resident_rules s t q) (stay_rules s t q.0) numbered-first) [ first m e ↦ both_earlier m e | second k e ↦ by-standing k ]

  -- ---- read back: from the old answer, and from a new one

  evict-never : (evict_call s t q).answer ≢ refused 12
  unfolding evict_call lacks ◌and◌
  evict-never = never-by s (evict_rules s t q) when_kept refl 12 (omega arith) refl

  stayed : Twelve s t q → (n : ℕ) × (first_broken (resident_rules s t q) ≡ 0) × (evict_call s t q ≡ out (refused n) s) × Reason s t q n
  stayed t = elim told [
    | earlier m e ↦ absurd (evict-never (answers-as e ∙ t))
    | goes z p w e ↦ absurd (evict-never (answers-as e ∙ t))
    | stays n k b e r ↦ (n, k, e, r)
  ]

  reason-of : (n : ℕ) → lacks n (evict_rules_before s t q) ≡ true → n ≢ 0 → Refuses s t q n → Twelve s t q × Reason s t q n
  reason-of n l z t = elim told [
    | earlier m e ↦ absurd (before-lacks n z l (sym (answers-as e) ∙ t))
    | goes _ p w e ↦ absurd (before-lacks n z l (sym (answers-as e) ∙ t))
    | stays m k b e r ↦ (answers-as b, rw (one-refusal s _ m n e t) at r)
  ]

  -- ---- the claims

  was-then : Twelve s t q → (first_broken (resident_rules s t q) ≡ 0) × ((q.0 ≡ 0) ⊎ (PinnedIn s t q ⊎ SwizzledIn s t q))
  was-then t = let r = stayed t in elim r.3 [
    | as_root e z ↦ (r.1, inl z)
    | as_pinned e z p ↦ (r.1, inr (inl p))
    | as_parent e z p w ↦ (r.1, inr (inr w))
  ]

  was-when : (first_broken (resident_rules s t q) ≡ 0) × ((q.0 ≡ 0) ⊎ (PinnedIn s t q ⊎ SwizzledIn s t q)) → Twelve s t q
  was-when w = elim told [
    | earlier m e ↦ absurd (m w.0)
    | goes z p n e ↦ absurd (elim w.1 [ inl y ↦ z y | inr y ↦ elim y [ inl a ↦ p a | inr a ↦ n a ] ])
    | stays n k b e r ↦ answers-as b
  ]

  one_of_three : Twelve s t q → Refuses s t q 20 ⊎ (Refuses s t q 21 ⊎ Refuses s t q 22)
  one_of_three t = let r = stayed t in let a = answers-as r.2 in elim r.3 [
    | as_root e z ↦ inl (a ∙ ap refused e)
    | as_pinned e z p ↦ inr (inl (a ∙ ap refused e))
    | as_parent e z p w ↦ inr (inr (a ∙ ap refused e))
  ]

  from-20 : Refuses s t q 20 → Twelve s t q × Reason s t q 20
  unfolding lacks ◌and◌
  from-20 t = reason-of 20 refl (omega arith) t

  from-21 : Refuses s t q 21 → Twelve s t q × Reason s t q 21
  unfolding lacks ◌and◌
  from-21 t = reason-of 21 refl (omega arith) t

  from-22 : Refuses s t q 22 → Twelve s t q × Reason s t q 22
  unfolding lacks ◌and◌
  from-22 t = reason-of 22 refl (omega arith) t

  left-same : (evict_call s t q).left ≡ (evict_call_before s t q).left
  left-same = elim told [
    | earlier m e ↦ leaves-as e
    | goes z p w e ↦ leaves-as e
    | stays n k b e r ↦ leaves-as e ∙ sym (leaves-as b)
  ]

  same-others : (Twelve s t q → ⊥) → evict_call s t q ≡ evict_call_before s t q
  same-others t = elim told [ earlier m e ↦ e | goes z p w e ↦ e | stays n k b e r ↦ absurd (t (answers-as b)) ]

  when-root : Twelve s t q × (q.0 ≡ 0) → Refuses s t q 20
  when-root w = let r = stayed w.0 in elim r.3 [
    | as_root e z ↦ answers-as r.2 ∙ ap refused e
    | as_pinned e z p ↦ absurd (z w.1)
    | as_parent e z p y ↦ absurd (z w.1)
  ]

  when-pinned : Twelve s t q × (q.0 ≢ 0) × PinnedIn s t q → Refuses s t q 21
  when-pinned w = let r = stayed w.0 in elim r.3 [
    | as_root e z ↦ absurd (w.1 z)
    | as_pinned e z p ↦ answers-as r.2 ∙ ap refused e
    | as_parent e z p y ↦ absurd (p w.2)
  ]

  when-parent : Twelve s t q × (q.0 ≢ 0) × (PinnedIn s t q → ⊥) × SwizzledIn s t q → Refuses s t q 22
  when-parent w = let r = stayed w.0 in elim r.3 [
    | as_root e z ↦ absurd (w.1 z)
    | as_pinned e z p ↦ absurd (w.2 p)
    | as_parent e z p y ↦ answers-as r.2 ∙ ap refused e
  ]

  then-root : Refuses s t q 20 → Twelve s t q × (q.0 ≡ 0)
  then-root t = let r = from-20 t in elim r.1 [
    | as_root e z ↦ (r.0, z)
    | as_pinned e z p ↦ absurd (omega arith)
    | as_parent e z p y ↦ absurd (omega arith)
  ]

  then-pinned : Refuses s t q 21 → Twelve s t q × (q.0 ≢ 0) × PinnedIn s t q
  then-pinned t = let r = from-21 t in elim r.1 [
    | as_root e z ↦ absurd (omega arith)
    | as_pinned e z p ↦ (r.0, z, p)
    | as_parent e z p y ↦ absurd (omega arith)
  ]

  then-parent : Refuses s t q 22 → Twelve s t q × (q.0 ≢ 0) × (PinnedIn s t q → ⊥) × SwizzledIn s t q
  then-parent t = let r = from-22 t in elim r.1 [
    | as_root e z ↦ absurd (omega arith)
    | as_pinned e z p ↦ absurd (omega arith)
    | as_parent e z p y ↦ (r.0, z, p, y)
  ]

  pub reasons-apart : ReasonsApart s t q
  reasons-apart = record {
    was = (was-then, was-when);
    replaced = (one_of_three, λ t. elim t [ inl a ↦ (from-20 a).0 | inr b ↦ elim b [ inl a ↦ (from-21 a).0 | inr a ↦ (from-22 a).0 ] ]);
    root = (then-root, when-root);
    pinned = (then-pinned, when-pinned);
    parent = (then-parent, when-parent);
    others = same-others;
    left = left-same;
  }

-- ---- no call

pub never-twelve : NeverTwelve
unfolding open_call root_call unfix_call show_call peek_call word_call write_call link_call unlink_call settle_call find_call lacks ◌and◌
never-twelve (reopen T ceilings) s = never-by _ _ _ refl 12 (omega arith) refl
never-twelve (root t) s = never-by _ _ _ refl 12 (omega arith) refl
never-twelve (fix h k) s = fix-lacks s h k 12 (omega arith) refl refl
never-twelve (unfix h) s = never-by _ _ _ refl 12 (omega arith) refl
never-twelve (show h) s = never-by _ _ _ refl 12 (omega arith) refl
never-twelve (peek t q) s = never-by _ _ _ (place-accepted s t q.0) 12 (omega arith) refl
never-twelve (word h k) s = never-by _ _ _ refl 12 (omega arith) refl
never-twelve (write h offset d) s = never-by _ _ _ refl 12 (omega arith) refl
never-twelve (link h k q l) s = never-by _ _ _ refl 12 (omega arith) refl
never-twelve (unlink h k) s = never-by _ _ _ refl 12 (omega arith) refl
never-twelve (evict t q) s = evict-never s t q
never-twelve settle s = never-by _ _ _ refl 12 (omega arith) refl
never-twelve (find t q) s = never-by _ _ _ (found-accepted s t q.0) 12 (omega arith) refl
