-- The two cases of a call: no rule is broken and it does as it says, or it is refused and leaves all as it was. And what it answers by its list of rules. Assumes nothing.
use Rattle.std.specs.Prelude.{ℕ, ◌≡◌, ◌≢◌, ◌↔◌, Bool, true, false, not, eqb}
use Rattle.std.proofs.Math.Path.{refl, ap}
use Rattle.std.proofs.Common.{sym, ◌∙◌, arith}
use mathlib.Core.List.{List, [], ◌∷◌, ◌++◌}
use Rattle.std.proofs.Math.Decide.{ℕ_discrete}
use Rattle.std.proofs.lemmas.Bool.{eqb-false, not-true}
use Rattle.page.specs.Word.{is_number, frame_in}
use Rattle.machine.specs.declared.Handle.{Handle}
use Rattle.rules.specs.Tests.{◌and◌, pick, Rule, first_broken, verdict}
use Rattle.rules.specs.TestLaws.{clash, is-off, and-true, pick-either, verdict-yes, verdict-no, numbered, broken-then, kept_then, broken-here}
use Rattle.machine.specs.Machine.{State}
use Rattle.machine.specs.Answers.{Answer, refused, frame, nowhere, Out, out}
use Rattle.machine.specs.Rules.{word_of, rule13, rule14, rule15, rule27}
use Rattle.machine.specs.Calls.{decide, miss_out, pinned_out, fix_entry_rules, fix_rules, fix_call, payload_place, found_answer}
use Rattle.machine.specs.History.{accepted}
use Rattle.machine.proofs.Laws.RuleLaws.{decide-no}

-- ---- by the rules

pub data Outcome (s : State) (rules : List Rule) (a o : Out) : Type 0 where
  kept : first_broken rules ≡ 0 → o ≡ a → Outcome s rules a o
  broken : (n : ℕ) → n ≢ 0 → first_broken rules ≡ n → o ≡ out (refused n) s → Outcome s rules a o

-- others: rules of which the same is broken first
pub outcome : (s : State) (rules others : List Rule) (a : Out) → first_broken rules ≡ first_broken others → Outcome s others a (decide s rules a)
unfolding decide
outcome s rules others a q = elim (ℕ_discrete (first_broken others) 0) [
  | yes e ↦ kept e (sym (verdict-yes (λ n. out (refused n) s) (sym q) e refl))
  | no e ↦ broken (first_broken others) e refl (sym (verdict-no (λ n. out (refused n) s) a (sym q) e))
]

-- ---- the numbers that rules have

-- none of the rules has the number n
unfoldable pub lacks : ℕ → List Rule → Bool
lacks n [] = true
lacks n (r ∷ rs) = not (eqb r.0 n) and lacks n rs

pub lacking : (n : ℕ) (rs : List Rule) → lacks n rs ≡ true → n ≢ 0 → first_broken rs ≢ n
unfolding lacks first_broken pick
lacking n [] t z e = z (sym e)
lacking n ((m, true) ∷ rs) t z e = lacking n rs (and-true (not (eqb m n)) (lacks n rs) t).1 z e
lacking n ((m, false) ∷ rs) t z e = eqb-false m n (not-true _ (and-true (not (eqb m n)) (lacks n rs) t).0) e

-- rules tested in two parts: those of the first are kept and the second decides, or the first does
pub kept-part : (xs ys : List Rule) → numbered xs ≡ true → first_broken xs ≡ 0 → first_broken (xs ++ ys) ≡ first_broken ys
kept-part xs ys t e = sym (broken-then xs ys t) ∙ sym (verdict-yes (λ n. n) refl e refl)

pub data Parts (xs ys : List Rule) : Type 0 where
  second : first_broken xs ≡ 0 → first_broken (xs ++ ys) ≡ first_broken ys → Parts xs ys
  first : first_broken xs ≢ 0 → first_broken (xs ++ ys) ≡ first_broken xs → Parts xs ys

pub parts : (xs ys : List Rule) → numbered xs ≡ true → Parts xs ys
parts xs ys t = elim (ℕ_discrete (first_broken xs) 0) [
  | yes e ↦ second e (kept-part xs ys t e)
  | no e ↦ first e (sym (broken-then xs ys t) ∙ sym (verdict-no (λ n. n) (first_broken ys) refl e))
]

-- a refusal's number but 1, 2 and 14
pub record Usual (n : ℕ) : Type 0 where
  pub not0 : n ≢ 0
  pub not1 : n ≢ 1
  pub not2 : n ≢ 2
  pub not14 : n ≢ 14

-- the rules have such numbers
unfoldable pub usual : List Rule → Bool
usual rs = lacks 1 rs and lacks 2 rs and lacks 14 rs

pub usual-breach : (rs : List Rule) (n : ℕ) → usual rs ≡ true → n ≢ 0 → first_broken rs ≡ n → Usual n
unfolding usual
usual-breach rs n t z e =
    let a = and-true (lacks 1 rs) _ t in
    let b = and-true (lacks 2 rs) (lacks 14 rs) a.1 in
    record { not0 = z; not1 = λ q. lacking 1 rs a.0 (omega arith) (e ∙ q); not2 = λ q. lacking 2 rs b.0 (omega arith) (e ∙ q); not14 = λ q. lacking 14 rs b.1 (omega arith) (e ∙ q) }

-- ---- by what the rules say

pub data Cases (s : State) (Facts : Type 0) (a o : Out) : Type 0 where
  granted : Facts → o ≡ a → Cases s Facts a o
  denied : (n : ℕ) → Usual n → o ≡ out (refused n) s → Cases s Facts a o

pub cases : (s : State) (rules : List Rule) (Facts : Type 0) (a o : Out) → usual rules ≡ true → (first_broken rules ≡ 0 → Facts) → Outcome s rules a o → Cases s Facts a o
cases s rules Facts a o t facts (kept e q) = granted (facts e) q
cases s rules Facts a o t facts (broken n z e q) = denied n (usual-breach rules n t z e) q

-- an accepted call is the one; a refused call, whose own answer is no refusal, the other
pub granted-of : (s : State) (Facts : Type 0) (a o : Out) → Cases s Facts a o → accepted o.answer ≡ true → Facts × (o ≡ a)
granted-of s Facts a o (granted k q) e = (k, q)
granted-of s Facts a o (denied n u q) e = absurd (clash (sym e ∙ ap (λ (x : Out). accepted x.answer) q))

pub refused-of : (s : State) (Facts : Type 0) (a o : Out) → Cases s Facts a o → (Facts → ⊥) → accepted o.answer ≡ false
refused-of s Facts a o (granted k q) n = absurd (n k)
refused-of s Facts a o (denied m u q) n = ap (λ (x : Out). accepted x.answer) q

-- an accepted answer is no refusal, and a refusal has one number
pub no-refusal : (a o : Out) (n : ℕ) → o ≡ a → accepted a.answer ≡ true → o.answer ≡ refused n → ⊥
no-refusal a o n q t e = clash (sym t ∙ ap (λ (x : Out). accepted x.answer) (sym q) ∙ ap accepted e)

pub one-refusal : (s : State) (o : Out) (m n : ℕ) → o ≡ out (refused m) s → o.answer ≡ refused n → m ≡ n
one-refusal s o m n q e = same (sym (ap (λ (x : Out). x.answer) q) ∙ e)
  where
    same : refused m ≡ refused n → m ≡ n
    same e = cc

pub denied-of : (s : State) (Facts : Type 0) (a o : Out) → Cases s Facts a o → accepted a.answer ≡ true → (n : ℕ) → o.answer ≡ refused n → Usual n
denied-of s Facts a o (granted k q) t n e = absurd (no-refusal a o n q t e)
denied-of s Facts a o (denied m u q) t n e = rw (one-refusal s o m n q e) at u

pub broken-of : (s : State) (rules : List Rule) (a o : Out) → Outcome s rules a o → accepted a.answer ≡ true → (n : ℕ) → o.answer ≡ refused n → first_broken rules ≡ n
broken-of s rules a o (kept k q) t n e = absurd (no-refusal a o n q t e)
broken-of s rules a o (broken m z k q) t n e = k ∙ one-refusal s o m n q e

-- ---- a call by its list of rules

pub answers-as : {a b : Out} → a ≡ b → a.answer ≡ b.answer
answers-as e = ap (λ (o : Out). o.answer) e

pub leaves-as : {a b : Out} → a ≡ b → a.left ≡ b.left
leaves-as e = ap (λ (o : Out). o.left) e

module _ (s : State) (rules : List Rule) (a : Out) where
  -- the first broken rule's number is what it answers, with all as it was
  pub refused-by : (n : ℕ) → n ≢ 0 → first_broken rules ≡ n → decide s rules a ≡ out (refused n) s
  refused-by n z e = sym (decide-no s rules a (sym e) z)

  -- and a refusal's number is that of the first broken rule
  pub broken-by : accepted a.answer ≡ true → (n : ℕ) → (decide s rules a).answer ≡ refused n → first_broken rules ≡ n
  broken-by = broken-of s rules a _ (outcome s rules rules a refl)

  -- where it is refused it leaves all as it was
  pub refused-leaves : accepted a.answer ≡ true → (n : ℕ) → (decide s rules a).answer ≡ refused n → (decide s rules a).left ≡ s
  refused-leaves t n e = elim (outcome s rules rules a refl) [ kept k q ↦ absurd (no-refusal a _ n q t e) | broken m z k q ↦ leaves-as q ]

  -- rules that lack a number don't answer it
  pub never-by : accepted a.answer ≡ true → (n : ℕ) → n ≢ 0 → lacks n rules ≡ true → (decide s rules a).answer ≢ refused n
  never-by t n z l e = lacking n rules l z (broken-by t n e)

  pub same_by : (others : List Rule) → first_broken rules ≡ first_broken others → decide s rules a ≡ decide s others a
  unfolding decide
  same_by others e = ap (λ (n : ℕ). verdict n (λ m. out (refused m) s) a) e

-- of the rules xs, one with the number n, and ys, n is answered exactly where xs are kept and that one is broken: no other has the number
pub refuses-exactly : (s : State) (xs ys : List Rule) (n : ℕ) (t : Bool) (a : Out) → accepted a.answer ≡ true → n ≢ 0 → numbered xs ≡ true → lacks n xs ≡ true → lacks n ys ≡ true
    → ((decide s (xs ++ ((n, t) ∷ ys)) a).answer ≡ refused n) ↔ ((first_broken xs ≡ 0) × (t ≡ false))
refuses-exactly s xs ys n t a k z u lx ly = (
  λ e. let b = broken-by s (xs ++ ((n, t) ∷ ys)) a k n e in elim (parts xs ((n, t) ∷ ys) u) [
    | first m q ↦ absurd (lacking n xs lx z (sym q ∙ b))
    | second m q ↦ (m, is-off t (λ on. lacking n ys ly z (sym (kept_then n ys on) ∙ sym q ∙ b)))
  ],
  λ p. answers-as (refused-by s (xs ++ ((n, t) ∷ ys)) a n z (kept-part xs ((n, t) ∷ ys) u p.0 ∙ broken-here n ys p.1)),
)

-- ---- find's answers: a refusal, a frame and 'absent' are apart; a frame has one index and one count, 'absent' one count

pub refused-no-frame : {n f looks : ℕ} → refused n ≡ frame f looks → ⊥
refused-no-frame e = let z : ◌≡◌ {A = ℕ} 0 1 = cc in omega arith

pub refused-no-absence : {n m : ℕ} → refused n ≡ nowhere m → ⊥
refused-no-absence e = let z : ◌≡◌ {A = ℕ} 0 1 = cc in omega arith

pub absent-no-frame : {m f looks : ℕ} → nowhere m ≡ frame f looks → ⊥
absent-no-frame e = let z : ◌≡◌ {A = ℕ} 0 1 = cc in omega arith

pub one_found : {g m f looks : ℕ} → frame g m ≡ frame f looks → (g ≡ f) × (m ≡ looks)
one_found e = (cc, cc)

pub one-absence : {m looks : ℕ} → nowhere m ≡ nowhere looks → m ≡ looks
one-absence e = cc

-- ---- what peek, find and fix answer where no rule is broken is no refusal

-- fix's rules of page q of store t that isn't resident
abbrev pub load_rules : State → ℕ → ℕ → List Rule
load_rules s t q = rule14 s t q ∷ rule15 s t ∷ rule27 s t ∷ []

module _ (s : State) where
  pub place-accepted : (t q : ℕ) → accepted (payload_place s t q) ≡ true
  unfolding payload_place
  place-accepted t q = pick-either (λ (a : Answer). accepted a ≡ true) _ _ _ refl refl

  pub found-accepted : (t q : ℕ) → accepted (found_answer s t q) ≡ true
  unfolding found_answer
  found-accepted t q = pick-either (λ (a : Answer). accepted a ≡ true) _ _ _ refl refl

  pub miss-accepted : (f k t q : ℕ) → accepted (miss_out s f k t q).answer ≡ true
  unfolding miss_out
  miss-accepted f k t q = pick-either (λ (o : Out). accepted o.answer ≡ true) _ _ _ refl refl

  pub fix-accepted : (h : Handle) (k : ℕ) → let w = word_of s h k in accepted (pick (is_number w) (miss_out s h.frame.0 k h.store.0 w) (pinned_out s (frame_in w))).answer ≡ true
  fix-accepted h k = let w = word_of s h k in pick-either (λ (o : Out). accepted o.answer ≡ true) (is_number w) _ _ (miss-accepted h.frame.0 k h.store.0 w) refl

  -- fix doesn't answer a number that its rules lack, whether the page is resident or not
  pub fix-lacks : (h : Handle) (k n : ℕ) → n ≢ 0 → lacks n (fix_entry_rules s h k ++ load_rules s h.store.0 (word_of s h k)) ≡ true → lacks n (fix_entry_rules s h k ++ (rule13 s (frame_in (word_of s h k)) ∷ [])) ≡ true
      → (fix_call s h k).answer ≢ refused n
  unfolding fix_call
  fix-lacks h k n z a b =
      let w = word_of s h k in
      never-by s (fix_rules s h k) _ (fix-accepted h k) n z
      (pick-either (λ (rs : List Rule). lacks n (fix_entry_rules s h k ++ rs) ≡ true) (is_number w) (load_rules s h.store.0 w) (rule13 s (frame_in w) ∷ []) a b)
