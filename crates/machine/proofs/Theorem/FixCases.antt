-- The cases of fix where the invariant holds: the page is resident and gains a pin, it comes into an empty frame or into the one that a sweep takes, or fix is refused. Assumes nothing.
use Rattle.std.specs.Prelude.{ℕ, ◌<◌, ◌≡◌, ◌≢◌, Bool, true}
use Rattle.std.proofs.Math.Path.{refl, sym}
use Rattle.std.proofs.Common.{◌∙◌, ap, arith}
use Rattle.std.proofs.Math.Bool.{false, not}
use mathlib.Core.List.{List, [], ◌∷◌, ◌++◌}
use borrow.Author.Tests.{eqb-false, lt-ltb, le-ltb, not-true}
use Rattle.std.proofs.Math.Dec.{ltb}
use Rattle.page.specs.Figures.{max_pins}
use Rattle.page.specs.Word.{is_number, frame_in, frame_word, Number, Swizzled, number-yes, number-no}
use Rattle.machine.specs.declared.Handle.{Handle}
use Rattle.rules.specs.Tests.{pick, ◌and◌, Rule}
use Rattle.rules.specs.TestLaws.{clash, case, on, off, both, and_no, and-off, or-second, first-kept, kept_then, numbered, pick_yes, pick_no}
use Rattle.machine.specs.Machine.{State, at_ceiling}
use Rattle.machine.specs.Naming.{loadable}
use Rattle.machine.specs.Sweep.{first_empty, sweep}
use Rattle.machine.specs.Rules.{word_of, rule3, rule4, rule7, rule13, rule15, rule27, rule28}
use Rattle.machine.specs.Answers.{Out, out, refused}
use Rattle.machine.specs.Calls.{decide, pinned_out, loaded_out, swept_out, miss_out, fix_entry_rules, fix_call}
use Rattle.machine.proofs.Theorem.View.{view, Absent}
use Rattle.machine.specs.History.{Point}
use Rattle.machine.specs.Demand3.{at}
use Rattle.machine.proofs.Theorem.Invariant.{fit_of, Invariant}
use Rattle.machine.proofs.Laws.SweepLaws.{empty, full, first-empty}
use Rattle.machine.proofs.Laws.Outcomes.{Outcome, kept, broken, parts, first, second, Usual, usual, usual-breach, lacks, load_rules}
use Rattle.machine.proofs.Theorem.InvariantReads.{number-away, may_load}
use Rattle.machine.proofs.Theorem.FrameReads.{word_below}
use Rattle.machine.proofs.Theorem.CallCases.{AtName, name-rules, after-pool}

-- ---- fix by the word that it meets

-- its rules after 1 and 2 that are tested whether or not the page is resident
abbrev pub name_rules : State → Handle → ℕ → List Rule
name_rules s h k = rule28 s h.store.0 ∷ rule3 s h ∷ rule4 k ∷ rule7 (word_of s h k) ∷ []

pub fix-number : (s : State) (h : Handle) (k : ℕ) → is_number (word_of s h k) ≡ true
    → fix_call s h k ≡ decide s (fix_entry_rules s h k ++ load_rules s h.store.0 (word_of s h k)) (miss_out s h.frame.0 k h.store.0 (word_of s h k))
unfolding fix_call pick
fix-number s h k t = rw t

pub fix-swizzled : (s : State) (h : Handle) (k : ℕ) → is_number (word_of s h k) ≡ false
    → fix_call s h k ≡ decide s (fix_entry_rules s h k ++ (rule13 s (frame_in (word_of s h k)) ∷ [])) (pinned_out s (frame_in (word_of s h k)))
unfolding fix_call pick
fix-swizzled s h k t = rw t

-- ---- the cases

pub data FixCase (s : State) (h : Handle) (k : ℕ) (o : Out) : Type 0 where
  pins : AtName s h k → (g : ℕ) → word_of s h k ≡ frame_word g → (view s).pins g ≢ max_pins → o ≡ pinned_out s g → FixCase s h k o
  fills : AtName s h k → Number (word_of s h k) → at_ceiling s.pool h.store.0 ≡ false → first_empty s.pool < s.pool.count → (view s).used (first_empty s.pool) ≡ false
      → o ≡ loaded_out s h.frame.0 k (first_empty s.pool) h.store.0 (word_of s h k) 0 → FixCase s h k o
  -- below its ceiling a store sweeps where no frame is empty
  sweeps : AtName s h k → Number (word_of s h k) → (at_ceiling s.pool h.store.0 ≡ false → (f : ℕ) → f < s.pool.count → (view s).used f ≡ true) → (sweep s.pool s.frames h.store.0).taken ≡ true
      → o ≡ swept_out s h.frame.0 k h.store.0 (word_of s h k) (sweep s.pool s.frames h.store.0) → FixCase s h k o
  refuses : (n : ℕ) → Usual n → o ≡ out (refused n) s → FixCase s h k o

module _ (x : Point) (I : Invariant x) (h : Handle) (k : ℕ) where
  abbrev t : ℕ
  t = h.store.0

  abbrev w : ℕ
  w = word_of x.now h k

  -- ---- a page that isn't resident
  module _ (y : is_number w ≡ true) where
    pub number-outcome : Outcome x.now (name_rules x.now h k ++ load_rules x.now t w) (miss_out x.now h.frame.0 k t w) (fix_call x.now h k)
    number-outcome = rw (fix-number x.now h k y) (after-pool x I _ _)

    pub stays-away : AtName x.now h k → Absent (view x.now) (at x t w)
    stays-away A = rw A.handle.store at (number-away x I h.frame.0 k A.handle.at A.in_page (number-yes _ y) A.filled)

    -- rule 14 is kept where the rules before it are
    pub loads : AtName x.now h k → loadable x.now t w ≡ true
    loads A = may_load x I t w A.store (word_below x.now (fit_of x I) h.frame.0 k A.handle.at A.in_page (number-yes _ y)) (stays-away A)

    miss-case : (o : Out) → AtName x.now h k → (rule15 x.now t).1 ≡ true → (rule27 x.now t).1 ≡ true → o ≡ miss_out x.now h.frame.0 k t w → FixCase x.now h k o
    unfolding miss_out
    miss-case o A r u e = elim (case (at_ceiling x.now.pool t)) [
      | on c ↦ sweeps A (number-yes _ y) (λ d. absurd (clash (sym c ∙ d))) (or-second (not (at_ceiling x.now.pool t)) _ u (ap not c)) (e ∙ sym (pick_no _ (sym (and_no _ (ap not c))) refl))
      | off c ↦ elim (first-empty x.now.pool I.neat.hand) [
        | empty l f ↦ fills A (number-yes _ y) c l f (e ∙ sym (pick_yes _ (both _ _ (ap not c) (lt-ltb _ _ l)) refl))
        | full f q ↦
            let l : ltb (first_empty x.now.pool) x.now.pool.count ≡ false = le-ltb (first_empty x.now.pool) x.now.pool.count (omega arith) in
            sweeps A (number-yes _ y) (λ d. f) (or-second (ltb (first_empty x.now.pool) x.now.pool.count) _ (or-second (at_ceiling x.now.pool t) _ r c) l)
            (e ∙ sym (pick_no _ (ap (λ (b : Bool). not (at_ceiling x.now.pool t) and b) l ∙ and-off _) refl))
      ]
    ]

    number-case : (o : Out) → Outcome x.now (name_rules x.now h k ++ load_rules x.now t w) (miss_out x.now h.frame.0 k t w) o → FixCase x.now h k o
    unfolding usual lacks numbered ◌and◌
    number-case o (kept b e) =
        let a = name-rules x.now h k (load_rules x.now t w) b in
        let c = first-kept 13 _ (rule15 x.now t ∷ rule27 x.now t ∷ []) a.1 in
        let d = first-kept 14 (rule15 x.now t).1 (rule27 x.now t ∷ []) c.1 in
        miss-case o a.0 d.0 (first-kept 26 (rule27 x.now t).1 [] d.1).0 e
    number-case o (broken n z b e) = elim (parts (name_rules x.now h k) (load_rules x.now t w) refl) [
      | first m q ↦ refuses n (usual-breach (name_rules x.now h k) n refl z (sym q ∙ b)) e
      | second m q ↦
          let A = (name-rules x.now h k [] m).0 in
          let last : List Rule = rule15 x.now t ∷ rule27 x.now t ∷ [] in
          refuses n (usual-breach last n refl z (sym (kept_then 14 last (loads A)) ∙ sym q ∙ b)) e
    ]

  -- ---- a resident page
  module _ (y : is_number w ≡ false) where
    pub swizzled-outcome : Outcome x.now (name_rules x.now h k ++ (rule13 x.now (frame_in w) ∷ [])) (pinned_out x.now (frame_in w)) (fix_call x.now h k)
    swizzled-outcome = rw (fix-swizzled x.now h k y) (after-pool x I _ _)

    swizzled-case : (o : Out) → Outcome x.now (name_rules x.now h k ++ (rule13 x.now (frame_in w) ∷ [])) (pinned_out x.now (frame_in w)) o → FixCase x.now h k o
    unfolding usual lacks ◌and◌
    swizzled-case o (kept b e) =
        let a = name-rules x.now h k (rule13 x.now (frame_in w) ∷ []) b in
        let l : Swizzled w = number-no w y in
        pins a.0 (frame_in w) (omega arith) (eqb-false _ max_pins (not-true _ (first-kept 12 _ [] a.1).0)) e
    swizzled-case o (broken n z b e) = refuses n (usual-breach _ n refl z b) e

  pub fix-case : FixCase x.now h k (fix_call x.now h k)
  fix-case = elim (case (is_number w)) [ on y ↦ number-case y _ (number-outcome y) | off y ↦ swizzled-case y _ (swizzled-outcome y) ]
