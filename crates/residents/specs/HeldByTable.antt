-- How many frames hold a page of a store, counted frame after frame. Assumes nothing.
use Prim.Native.Nat.{ℕ, suc, ◌+◌, ◌/◌, ◌<◌}
use Rattle.std.specs.Prelude.{◌≡◌, refl, Bool, true, false, not, ◌&&◌, List}
use Rattle.std.proofs.Math.Path.{sym, ap}
use Rattle.std.proofs.Common.{◌∙◌, add-one, arith, eq-eqb, ne_eqb}
use mir.Val.{bool_byte}
use Rattle.std.proofs.Math.Dec.{eqb}
use Rattle.page.specs.Figures.{most_pages}
use Rattle.rules.specs.Tests.{◌and◌}
use Rattle.rules.specs.TestLaws.{case, on, off, or_left, or-skip, and_yes}
use Rattle.chains.specs.Chain.{tally}
use Rattle.chains.proofs.FrameTally.{tally-zero, tally-on, tally-off}
use Rattle.seen.specs.Fold.{flag-and}
use Rattle.residents.specs.Residents.{key_by, holds_page, holds_of}

module _ (residents : List ℕ) (t : ℕ) where
  -- frame 0 holds a page
  pub held_first : bool_byte (eqb (key_by residents 0 / most_pages) t) ≡ tally 1 (holds_of residents t)
  unfolding holds_of holds_page
  held_first =
      let h : holds_of residents t 0 ≡ eqb (key_by residents 0 / most_pages) t = sym (and_yes (or_left _ (eq-eqb 0 0 refl)) refl) in
      let z : tally 0 (holds_of residents t) ≡ 0 = tally-zero (holds_of residents t) in
      rw (← h) (elim (case (holds_of residents t 0)) [
        | on e ↦ rw e (sym (tally-on 0 (holds_of residents t) e ∙ ap suc z))
        | off e ↦ rw e (sym (tally-off 0 (holds_of residents t) e ∙ z))
      ])

  -- any other does where its key isn't 0
  module _ (n m f : ℕ) (later : 0 < f) (e : n ≡ tally f (holds_of residents t)) where
    holds_later : holds_of residents t f ≡ (not (eqb (key_by residents f) 0) && eqb (key_by residents f / most_pages) t)
    unfolding holds_of holds_page
    holds_later = ap (λ (b : Bool). b and eqb (key_by residents f / most_pages) t) (or-skip _ (ne_eqb f 0 (λ z. omega arith))) ∙ sym (flag-and _ _)

    pub entry-counts : (not (eqb (key_by residents f) 0) && eqb (key_by residents f / most_pages) t) ≡ true → m ≡ n + 1 → m ≡ tally (f + 1) (holds_of residents t)
    entry-counts h i = rw (add-one f) (i ∙ add-one n ∙ ap suc e ∙ sym (tally-on f (holds_of residents t) (holds_later ∙ h)))

    pub entry-passes : (not (eqb (key_by residents f) 0) && eqb (key_by residents f / most_pages) t) ≡ false → m ≡ n → m ≡ tally (f + 1) (holds_of residents t)
    entry-passes h i = rw (add-one f) (i ∙ e ∙ sym (tally-off f (holds_of residents t) (holds_later ∙ h)))
