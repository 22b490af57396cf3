-- `page::word::put_word` meets its contract. Assumes nothing.
use Rattle.std.proofs.Common.{◌≡◌, refl, ap, List, [], ◌∷◌, ℕ, zero, suc, ◌+◌, ◌≤◌, length, set, arith, suc-add, ◌∙◌}
use Rattle.std.proofs.Math.Seq.{paste}
use Rattle.std.proofs.lemmas.Slice.{put_mid-paste}
use Rattle.page.specs.Word.{put_word}
use Rattle.page.proofs.word.put_word.Goals as goal

-- four bytes put over those from `at` on, one after another
four-set : (b : List ℕ) (at x y z u : ℕ) → at + 4 ≤ length b → paste b at (x ∷ y ∷ z ∷ u ∷ []) 4 ≡ set (set (set (set b at x) (at + 1) y) (at + 2) z) (at + 3) u
four-set [] at x y z u h = absurd (omega arith)
four-set (d ∷ []) zero x y z u h = absurd (omega arith)
four-set (d ∷ e ∷ []) zero x y z u h = absurd (omega arith)
four-set (d ∷ e ∷ f ∷ []) zero x y z u h = absurd (omega arith)
four-set (d ∷ e ∷ f ∷ g ∷ b) zero x y z u h = refl
four-set (d ∷ b) (suc at) x y z u h = simp suc-add (ap (λ (l : List ℕ). d ∷ l) (four-set b at x y z u (omega arith)))

pub returns : goal.returns
unfolding put_word
returns c = put_mid-paste c.args.at _ c.args.b.now _ _ 4 (c.copy_from_slice.ensures.after ∙ c.to_le_bytes.ensures) (omega arith) refl ∙ four-set c.args.b.now c.args.at _ _ _ _ c.requires
