-- One word of a buffer changes: those in other slots stay, and marks where it keeps its own. Assumes nothing.
use Rattle.std.specs.Prelude.{◌≡◌, ◌≢◌, List, ℕ, ◌*◌, ◌<◌, length}
use Rattle.std.proofs.Common.{sym, ap, ◌∙◌}
use Rattle.std.proofs.Math.Decide.{ℕ_discrete}
use Rattle.page.specs.Figures.{page_size, slot_count, word_radix}
use Rattle.page.specs.Word.{is_marked}
use Rattle.page.specs.Page.{slot, lock, put_slot, slot-put_slot-same, slot-put_slot-slot, slot-put_slot-page}

-- a word of another slot, whichever page it is in
pub slot-put_slot-other : (b : List ℕ) (p k w q j : ℕ) → k < slot_count → j < slot_count → j ≢ k → slot (put_slot b p k w) q j ≡ slot b q j
slot-put_slot-other b p k w q j hk hj n = elim (ℕ_discrete q p) [
  | yes e ↦ rw e (slot-put_slot-slot b p k w j (λ z. n (sym z)))
  | no e ↦ slot-put_slot-page b p k w q j hk hj (λ z. e (sym z))
]

-- a word afterwards: the one that was put, or one that stays
pub data SlotCase (b : List ℕ) (p k w q j : ℕ) : Type 0 where
  put_here : q ≡ p → j ≡ k → slot (put_slot b p k w) q j ≡ w → SlotCase b p k w q j
  elsewhere : (q ≡ p → j ≡ k → ⊥) → slot (put_slot b p k w) q j ≡ slot b q j → SlotCase b p k w q j

pub slot-case : (b : List ℕ) (p k w n : ℕ) → length b ≡ page_size * n → p < n → k < slot_count → w < word_radix → (q j : ℕ) → j < slot_count → SlotCase b p k w q j
slot-case b p k w n l hp hk hw q j hj = elim (ℕ_discrete j k) [
  | no e ↦ elsewhere (λ a c. e c) (slot-put_slot-other b p k w q j hk hj e)
  | yes e ↦ elim (ℕ_discrete q p) [
    | no d ↦ elsewhere (λ a c. d a) (slot-put_slot-page b p k w q j hk hj (λ z. d (sym z)))
    | yes d ↦ put_here d e (rw (d, e) (slot-put_slot-same b p k w n l hp hk hw))
  ]
]

-- a word put in the place of one with its mark leaves every mark
pub mark-put_slot : (b : List ℕ) (p k w n : ℕ) → length b ≡ page_size * n → p < n → k < slot_count → w < word_radix → is_marked w ≡ lock b p k → (q j : ℕ) → j < slot_count → lock (put_slot b p k w) q j ≡ lock b q j
mark-put_slot b p k w n l hp hk hw m q j hj = elim (slot-case b p k w n l hp hk hw q j hj) [
  | put_here d e s ↦ ap is_marked s ∙ m ∙ sym (ap (λ (a : ℕ). lock b a j) d ∙ ap (lock b p) e)
  | elsewhere d s ↦ ap is_marked s
]
