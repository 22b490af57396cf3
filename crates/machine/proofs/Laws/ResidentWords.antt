-- After rule 2 a swizzled word is exactly a resident page's: rule 10, which tests the word, says what document 01 says. Assumes nothing.
use Rattle.std.specs.Prelude.{ℕ, ◌<◌, ◌≡◌, refl, ◌≢◌, Bool, true, not, List, [], eqb, ltb}
use Rattle.std.proofs.Common.{sym, ◌∙◌, ap, arith, lt-ltb, le-ltb}
use Rattle.std.proofs.lemmas.Bool.{eqb-false, not-true}
use Rattle.page.specs.Figures.{slot_count}
use Rattle.page.specs.Word.{is_number, frame_in, yes-number, no_number, high, low, reading}
use Rattle.page.specs.Page.{name}
use Rattle.page.specs.StorePlaces.{store_place}
use Rattle.machine.specs.declared.Pool.{Pool}
use Rattle.machine.specs.declared.Handle.{Handle}
use Rattle.rules.specs.Tests.{first_broken}
use Rattle.machine.specs.Machine.{State, page_in, store_in, occupied, found_in}
use Rattle.machine.specs.Moves.{plain}
use Rattle.machine.specs.Rules.{word_of, rule10}
use Rattle.machine.specs.Calls.{fix_entry_rules}
use Rattle.rules.specs.TestLaws.{first-kept}
use Rattle.machine.proofs.Laws.AgreementFacts.{Points, Agreed}
use Rattle.machine.proofs.Laws.FoundLaws.{holds-found, none_found}
use Rattle.machine.proofs.Laws.PlainLaws.{plain-low, plain-swizzled}
use Rattle.machine.proofs.Laws.RuleLaws.{held-occupied, slot-parts}

-- the page of store t that a word stands for is in no frame
abbrev not_resident : Pool → ℕ → ℕ → Bool
not_resident p t w = not (ltb (found_in p t (plain (page_in p.records) w)) p.count)

pub number-exactly : (p : Pool) (fs : List ℕ) → Agreed p fs → (f k t : ℕ) → occupied p f ≡ true → store_in p.records f ≡ t → k < slot_count → name fs f k ≢ 0
    → is_number (name fs f k) ≡ not_resident p t (name fs f k)
number-exactly p fs A f k t o st l n = elim (reading (name fs f k)) [
  | low h ↦
      let w : ℕ = name fs f k in
      let e : found_in p t w ≡ p.count = rw (← st) (none_found p (store_place p.pages (store_in p.records f) w) (A.away f k o l h n)) in
      yes-number w h
      ∙ sym (ap (λ (q : ℕ). not (ltb (found_in p t q) p.count)) (plain-low (page_in p.records) w h) ∙ ap not (le-ltb (found_in p t w) p.count (omega arith)))
  | high g e ↦
      let w : ℕ = name fs f k in
      let c = frame_in w in
      let b : Points p c f k = A.back f k o l (omega arith) in
      let u : store_in p.records c ≡ t = A.parent_store c b.at b.other ∙ ap (store_in p.records) b.parent ∙ st in
      let q : plain (page_in p.records) w ≡ page_in p.records c = plain-swizzled (page_in p.records) w (omega arith) in
      no_number w (omega arith) ∙ sym (ap not (lt-ltb (found_in p t (plain (page_in p.records) w)) p.count (holds-found p _ c b.at (rw (u, q) refl))))
]

-- 10. "Unlink's page is resident.", where no rule tested before it is broken
pub rule10-exactly : (s : State) (h : Handle) (k : ℕ) → first_broken (fix_entry_rules s h k) ≡ 0 → rule10 (word_of s h k) ≡ (10, not_resident s.pool h.store.0 (word_of s h k))
rule10-exactly s h k b =
    let a = slot-parts s h k _ b in
    let n : word_of s h k ≢ 0 = eqb-false _ 0 (not-true _ (first-kept 6 (not (eqb (word_of s h k) 0)) [] a.1).0) in
    ap (λ (t : Bool). (10, t)) (number-exactly s.pool s.frames a.0.kept.agreed h.frame.0 k h.store.0 (held-occupied s.pool h a.0.held) a.0.held.store a.0.slot n)
