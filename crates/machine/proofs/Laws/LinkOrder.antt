-- Request A.9, "Taken slot or named page": link against document 01's order of 8 and 9. Assumes nothing.
use Rattle.std.specs.Prelude.{ℕ, ◌<◌, ◌≡◌, ◌≢◌, ◌↔◌, Bool, true, false, not, List, [], ◌∷◌, ◌++◌, eqb, ltb}
use Rattle.std.proofs.Math.Path.{refl, ap}
use Rattle.std.proofs.Common.{sym, ◌∙◌, arith, eq-eqb, ne_eqb, lt-ltb}
use Rattle.std.proofs.lemmas.Bool.{eqb-false, not-true}
use Rattle.page.specs.declared.PageNumber.{PageNumber}
use Rattle.page.specs.Figures.{slot_count}
use Rattle.page.specs.Word.{Swizzled, marked, number_word, names_nothing, high, low, reading}
use Rattle.page.specs.Page.{name}
use Rattle.machine.specs.declared.Handle.{Handle}
use Rattle.rules.specs.Tests.{pick, ◌and◌, Rule, first_broken}
use Rattle.machine.specs.Machine.{State, page_in, store_in, place_in, occupied, found}
use Rattle.machine.specs.Moves.{plain}
use Rattle.machine.specs.Naming.{current_word, named}
use Rattle.machine.specs.Answers.{refused, done, number, Out, out}
use Rattle.machine.specs.Rules.{word_of, mark_of, locked, rule6-link, rule8, rule9}
use Rattle.machine.specs.Calls.{decide, word_rules, edit_rules, relinked, word_call, link_rules, link_call}
use Rattle.rules.specs.TestLaws.{clash, and-true, both, true-some, pick_yes, kept_then, none-broken}
use Rattle.machine.proofs.Laws.PlainLaws.{plain-low, plain-swizzled}
use Rattle.machine.proofs.Laws.AgreementFacts.{occupied-lt}
use Rattle.machine.proofs.Laws.FoundLaws.{holds-found, found-is}
use Rattle.machine.proofs.Laws.Ready.{Kept}
use Rattle.machine.proofs.Laws.RuleLaws.{held-occupied, slot_kept, slot-passes}
use Rattle.machine.proofs.Laws.Outcomes.{kept, broken, outcome, lacks, one-refusal, refused-by, broken-by, same_by, answers-as, leaves-as}

-- ---- document 01's order, 8 before 9, with 26 where it is tested since request A.8: a definition for these laws alone, which no call cites

abbrev pub link_rules_before : State → Handle → ℕ → PageNumber → List Rule
link_rules_before s h k q = edit_rules s h k ++ (rule6-link s q.0 ∷ rule8 (word_of s h k) ∷ rule9 s h.store.0 q.0 ∷ [])

-- the rules that both orders test first
abbrev pub shared_rules : State → Handle → ℕ → PageNumber → List Rule
shared_rules s h k q = edit_rules s h k ++ (rule6-link s q.0 ∷ [])

unfoldable pub link_call_before : State → Handle → ℕ → PageNumber → Bool → Out
link_call_before s h k q l = decide s (link_rules_before s h k q) (out done (relinked s h.frame.0 k (marked l (number_word q.0))))

-- ---- "The answers that change are exactly those that were 8 for a page already named, the page in that very slot included: 8 becomes 9."

-- the answer was 8, for a page already named
abbrev pub EightForNamed : State → Handle → ℕ → PageNumber → Bool → Type 0
EightForNamed s h k q l = ((link_call_before s h k q l).answer ≡ refused 8) × (named s h.store.0 q.0 ≡ true)

-- what is claimed, of every input
pub record NineFirst (s : State) (h : Handle) (k : ℕ) (q : PageNumber) (l : Bool) : Type 0 where
  -- "A link of a named page into a filled slot breaks rules 8 and 9, and 01 gives 8.": where no rule before them is broken
  pub gave : first_broken (shared_rules s h k q) ≡ 0 → word_of s h k ≢ 0 → named s h.store.0 q.0 ≡ true → EightForNamed s h k q l
  -- "The answers that change are exactly those that were 8 for a page already named"
  pub exactly : ((link_call s h k q l).answer ≢ (link_call_before s h k q l).answer) ↔ EightForNamed s h k q l
  -- "the page in that very slot included": the page that word gives there, swizzled or not, marked or not, and not 0, for none; in a page that isn't locked
  pub included : (m : Bool) → (word_call s h k).answer ≡ number q.0 m → q.0 ≢ 0 → locked s h.frame.0 ≡ false → EightForNamed s h k q l
  -- "8 becomes 9"
  pub becomes : EightForNamed s h k q l → (link_call s h k q l).answer ≡ refused 9
  -- what link leaves, records, frames and store, never differs
  pub left : (link_call s h k q l).left ≡ (link_call_before s h k q l).left

-- ---- the number of the first broken rule in the two orders, after the rules xs, by whether the slot is empty and whether the page is named

abbrev number_before : List Rule → Bool → Bool → ℕ
number_before xs vacant known = first_broken (xs ++ ((8, vacant) ∷ (9, not known) ∷ []))

abbrev number_now : List Rule → Bool → Bool → ℕ
number_now xs vacant known = first_broken (xs ++ ((9, not known) ∷ (8, vacant) ∷ []))

data Orders (xs : List Rule) (vacant known : Bool) : Type 0 where
  same : number_now xs vacant known ≡ number_before xs vacant known → Orders xs vacant known
  turned : number_before xs vacant known ≡ 8 → known ≡ true → number_now xs vacant known ≡ 9 → Orders xs vacant known

orders : (xs : List Rule) (vacant known : Bool) → Orders xs vacant known
unfolding first_broken pick
orders [] true true = same refl
orders [] true false = same refl
orders [] false true = turned refl refl refl
orders [] false false = same refl
orders ((n, true) ∷ xs) vacant known = elim (orders xs vacant known) [ same e ↦ same e | turned a b c ↦ turned a b c ]
orders ((n, false) ∷ xs) vacant known = same refl

-- an 8 is rule 8's, where none of the rules xs has that number
turns : (xs : List Rule) (vacant known : Bool) → lacks 8 xs ≡ true → number_before xs vacant known ≡ 8 → known ≡ true → number_now xs vacant known ≡ 9
unfolding first_broken pick lacks
turns xs vacant false l e t = absurd (clash (sym t))
turns [] vacant true l e t = refl
turns ((n, true) ∷ xs) vacant true l e t = turns xs vacant true (and-true (not (eqb n 8)) (lacks 8 xs) l).1 e t
turns ((n, false) ∷ xs) vacant true l e t = absurd (eqb-false n 8 (not-true _ (and-true (not (eqb n 8)) (lacks 8 xs) l).0) e)

-- 8 where none of the rules xs is broken and the slot is filled
eights : (xs : List Rule) (vacant known : Bool) → lacks 0 xs ≡ true → first_broken xs ≡ 0 → vacant ≡ false → number_before xs vacant known ≡ 8
unfolding first_broken pick lacks
eights xs true known l e t = absurd (clash t)
eights [] false known l e t = refl
eights ((n, true) ∷ xs) false known l e t = eights xs false known (and-true (not (eqb n 0)) (lacks 0 xs) l).1 e t
eights ((n, false) ∷ xs) false known l e t = absurd (eqb-false n 0 (not-true _ (and-true (not (eqb n 0)) (lacks 0 xs) l).0) e)

-- ---- the word in a slot of a resident page: the page that it stands for is named, and is one of N

module _ (s : State) (K : Kept s) (f k : ℕ) (o : occupied s.pool f ≡ true) (l : k < slot_count) where
  abbrev stands_for : ℕ
  stands_for = plain (page_in s.pool.records) (name s.frames f k)

  below-pages : (g : ℕ) → occupied s.pool g ≡ true → page_in s.pool.records g < s.pool.pages
  below-pages g u = (K.agreed.in_range g (omega (arith, occupied-lt s.pool g u, K.sized.most))).page

  named-there : named s (store_in s.pool.records f) stands_for ≡ true
  unfolding named current_word
  named-there =
      let at : found s.pool (place_in s.pool.pages s.pool.records f) ≡ f = found-is s.pool s.frames K.agreed f o in
      true-some s.pool.pages _ (page_in s.pool.records f) (below-pages f o) (true-some slot_count _ k l (eq-eqb _ _
      (sym (pick_yes _ (lt-ltb _ _ (holds-found s.pool _ f o refl)) refl) ∙ ap (λ (g : ℕ). plain (page_in s.pool.records) (name s.frames g k)) at)))

  stands-below : name s.frames f k ≢ 0 → stands_for < s.pool.pages
  stands-below n = elim (reading (name s.frames f k)) [
    | low h ↦ rw (plain-low (page_in s.pool.records) _ h) (K.agreed.below f k o l h n)
    | high g e ↦
        let h : Swizzled (name s.frames f k) = omega arith in
        rw (plain-swizzled (page_in s.pool.records) _ h) (below-pages _ (K.agreed.back f k o l h).at)
  ]

-- ---- the claim

one_number : {a b : ℕ} {l m : Bool} → number a l ≡ number b m → a ≡ b
one_number e = cc

refused-no-number : {a b : ℕ} {m : Bool} → refused a ≡ number b m → ⊥
refused-no-number e = let y : ◌≡◌ {A = ℕ} 0 1 = cc in omega arith

module _ (s : State) (h : Handle) (k : ℕ) (q : PageNumber) (l : Bool) where
  abbrev when_kept : Out
  when_kept = out done (relinked s h.frame.0 k (marked l (number_word q.0)))

  abbrev shared : List Rule
  shared = shared_rules s h k q

  shared-lacks : lacks 8 shared ≡ true
  unfolding lacks ◌and◌
  shared-lacks = refl

  shared-numbered : lacks 0 shared ≡ true
  unfolding lacks ◌and◌
  shared-numbered = refl

  abbrev vacant : Bool
  vacant = names_nothing (word_of s h k)

  abbrev known : Bool
  known = named s h.store.0 q.0

  -- what is answered and left, by the number of the first broken rule; and the number, by the answer
  before-is : (n : ℕ) → n ≢ 0 → number_before shared vacant known ≡ n → link_call_before s h k q l ≡ out (refused n) s
  unfolding link_call_before
  before-is = refused-by s (link_rules_before s h k q) when_kept

  now-is : (n : ℕ) → n ≢ 0 → number_now shared vacant known ≡ n → link_call s h k q l ≡ out (refused n) s
  unfolding link_call
  now-is = refused-by s (link_rules s h k q) when_kept

  same-call : number_now shared vacant known ≡ number_before shared vacant known → link_call s h k q l ≡ link_call_before s h k q l
  unfolding link_call link_call_before
  same-call = same_by s (link_rules s h k q) when_kept (link_rules_before s h k q)

  before-broken : (n : ℕ) → (link_call_before s h k q l).answer ≡ refused n → number_before shared vacant known ≡ n
  unfolding link_call_before
  before-broken = broken-by s (link_rules_before s h k q) when_kept refl

  -- ---- exactly

  now-nine : EightForNamed s h k q l → link_call s h k q l ≡ out (refused 9) s
  now-nine e = now-is 9 (omega arith) (turns shared vacant known shared-lacks (before-broken 8 e.0) e.1)

  was-eight : (link_call s h k q l).answer ≢ (link_call_before s h k q l).answer → EightForNamed s h k q l
  was-eight d = elim (orders shared vacant known) [
    | same e ↦ absurd (d (answers-as (same-call e)))
    | turned a b c ↦ (answers-as (before-is 8 (omega arith) a), b)
  ]

  left-same : (link_call s h k q l).left ≡ (link_call_before s h k q l).left
  left-same = elim (orders shared vacant known) [
    | same e ↦ leaves-as (same-call e)
    | turned a b c ↦ leaves-as (now-is 9 (omega arith) c) ∙ sym (leaves-as (before-is 8 (omega arith) a))
  ]

  gave-eight : first_broken shared ≡ 0 → word_of s h k ≢ 0 → known ≡ true → EightForNamed s h k q l
  gave-eight e filled t = (answers-as (before-is 8 (omega arith) (eights shared vacant known shared-numbered e (ne_eqb _ 0 filled))), t)

  -- ---- the page in that very slot: word gives what the slot's word stands for, where rules 1 to 4 are kept

  given : (m : Bool) → (word_call s h k).answer ≡ number q.0 m → (first_broken (word_rules s h k) ≡ 0) × (plain (page_in s.pool.records) (word_of s h k) ≡ q.0)
  unfolding word_call
  given m e = elim (outcome s (word_rules s h k) (word_rules s h k) (out (number (plain (page_in s.pool.records) (word_of s h k)) (mark_of s h k)) s) refl) [
    | kept b o ↦ (b, one_number (sym (answers-as o) ∙ e))
    | broken n z b o ↦ absurd (refused-no-number (sym (answers-as o) ∙ e))
  ]

  in-that-slot : (m : Bool) → (word_call s h k).answer ≡ number q.0 m → q.0 ≢ 0 → locked s h.frame.0 ≡ false → EightForNamed s h k q l
  in-that-slot m e z u =
      let w = given m e in
      let page = page_in s.pool.records in
      let K = slot_kept s h k w.0 in
      let o = held-occupied s.pool h K.held in
      let filled : word_of s h k ≢ 0 = λ n. z (sym w.1 ∙ ap (plain page) n ∙ plain-low page 0 (omega arith)) in
      let below : q.0 < s.pool.pages = omega (arith, w.1, stands-below s K.kept h.frame.0 k o K.slot filled) in
      let numbered : (ltb 0 q.0 and ltb q.0 s.pool.pages) ≡ true = both _ _ (lt-ltb 0 q.0 (omega arith)) (lt-ltb _ _ below) in
      let free = kept_then 26 (rule6-link s q.0 ∷ []) (ap not u) in
      let passes = slot-passes s h k _ (sym w.0) refl (sym (free ∙ kept_then 6 _ numbered ∙ none-broken)) in
      gave-eight (sym passes) filled (sym (ap (named s h.store.0) w.1) ∙ ap (λ (t : ℕ). named s t (plain page (word_of s h k))) (sym K.held.store) ∙ named-there s K.kept h.frame.0 k o K.slot)

  pub nine-first : NineFirst s h k q l
  nine-first = record {
    gave = gave-eight;
    exactly = (was-eight, λ e d. omega (arith, one-refusal s (link_call s h k q l) 9 8 (now-nine e) (d ∙ e.0)));
    included = in-that-slot;
    becomes = λ e. answers-as (now-nine e);
    left = left-same;
  }
