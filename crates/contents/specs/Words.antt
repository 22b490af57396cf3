-- The words of resident pages: each is a page number or names a frame, and what word answers by the table of pages. Assumes nothing.
use Rattle.std.specs.Prelude.{ℕ, ◌+◌, ◌*◌, ◌<◌, ◌≤◌, ◌≡◌, refl, Bool, List, length}
use Rattle.std.proofs.Common.{sym, ◌∙◌, ap, arith}
use Rattle.std.proofs.Math.Decide.{ℕ_discrete}
use Rattle.page.specs.declared.PageNumber.{PageNumber}
use Rattle.page.specs.Figures.{page_size, slot_count, most_pages, most_frames}
use Rattle.page.specs.Word.{frame_in, reading, low, high, Number, Swizzled}
use Rattle.machine.specs.declared.Handle.{Handle}
use Rattle.rules.specs.Tests.{first_broken}
use Rattle.machine.specs.Machine.{State, page_number, page_in}
use Rattle.machine.proofs.Laws.AgreementFacts.{occupied-lt}
use Rattle.machine.specs.Moves.{plain}
use Rattle.machine.proofs.Laws.PlainLaws.{plain-low, plain-high}
use Rattle.machine.specs.Answers.{number}
use Rattle.machine.specs.Rules.{word_of, mark_of}
use Rattle.machine.specs.Calls.{word_rules, word_call}
use Rattle.machine.proofs.Laws.RuleLaws.{SlotKept, slot_kept, held-occupied, accepted-answer}
use Rattle.seen.specs.Seen.{Seen}
use Rattle.residents.specs.Residents.{page_by}
use Rattle.residents.specs.ResidentLaws.{page-by}
use Rattle.residents.specs.Handed.{Handed}

-- a page number below the largest N, or swizzled to one of the largest F frames
pub record Resolvable (w : ℕ) : Type 0 where
  pub number : Number w → w < most_pages
  pub frame : Swizzled w → frame_in w < most_frames

-- the rules of the slot are kept, and w is the name that the code read
module _ (s : State) (h : Handle) (k : ℕ) {residents : List ℕ} {seen : Seen} (e : (0 ≡ first_broken (word_rules s h k)) × (◌≡◌ {A = ℕ} 0 0 → Handed s.pool s.frames residents seen)) where
  kept : SlotKept s h k
  kept = slot_kept s h k (sym e.0)

  pub slot-within : (page_size * h.frame.0 + page_size ≤ length s.frames) × (k < slot_count)
  slot-within = let m = kept in (omega arith, m.slot)

  module _ {w : ℕ} (i : w ≡ word_of s h k) where
    pub resolvable : Resolvable w
    resolvable =
        let o = held-occupied s.pool h kept.held in
        let A = kept.kept.agreed in
        let m = kept.kept.sized in
        rw i record {
          number = λ l. elim (ℕ_discrete (word_of s h k) 0) [
            | yes y ↦ omega arith
            | no y ↦ let b = A.below h.frame.0 k o kept.slot l y in omega arith
          ];
          frame = λ l. let b = occupied-lt s.pool _ (A.back h.frame.0 k o kept.slot l).at in omega arith;
        }

    -- the table tells the page in the frame that a swizzled word names
    by-table : plain (page_by residents) w ≡ plain (page_in s.pool.records) w
    by-table = elim (reading w) [
      | low l ↦ plain-low _ w l ∙ sym (plain-low _ w l)
      | high g y ↦
          let l = resolvable.frame (omega arith) in
          rw y (plain-high _ g ∙ page-by (e.1 refl).held g (omega arith) ∙ sym (plain-high _ g))
    ]

    pub word-names : {p : PageNumber} {l : Bool} → p ≡ page_number (plain (page_by residents) w) → l ≡ mark_of s h k → number p.0 l ≡ (word_call s h k).answer
    unfolding word_call
    word-names {p} {l} y m =
        let same : p.0 ≡ plain (page_in s.pool.records) (word_of s h k) = ap (λ (q : PageNumber). q.0) y ∙ by-table ∙ ap (plain (page_in s.pool.records)) i in
        accepted-answer s _ s e.0 (rw (same, m))
