-- The lock of a resident page, read in its parent's word, is the map's: from the invariant. Assumes nothing.
use Rattle.std.specs.Prelude.{ℕ, ◌/◌, ◌<◌, ◌≤◌, ◌≡◌, ◌≢◌, false, List}
use Rattle.std.proofs.Common.{sym, ◌∙◌, ap, arith, lt-ltb, le-ltb}
use Rattle.std.proofs.Math.Decide.{ℕ_discrete, dec_lt}
use Rattle.page.specs.Figures.{slot_count}
use Rattle.page.proofs.NameLaws.{mark-names}
use Rattle.page.specs.Page.{slot, name, lock}
use Rattle.page.proofs.StorePlaceLaws.{store-room, place-split}
use Rattle.rules.specs.Tests.{◌and◌}
use Rattle.rules.specs.TestLaws.{case, on, off}
use Rattle.machine.specs.Rules.{locked}
use Rattle.machine.specs.Moves.{plain}
use Rattle.machine.proofs.Laws.PlainLaws.{plain-high}
use Rattle.machine.specs.History.{Point}
use Rattle.machine.proofs.Theorem.Lift.{lift-none}
use Rattle.machine.proofs.Theorem.View.{View, view, Occupied, Parent, Map, Free}
use Rattle.machine.proofs.Theorem.Invariant.{map_view, fit_of, Invariant}
use Rattle.machine.proofs.Theorem.FrameReads.{number-some}

-- a word that names nothing has no mark
pub nothing-unmarked : (b : List ℕ) (q k : ℕ) → name b q k ≡ 0 → lock b q k ≡ false
nothing-unmarked b q k e = elim (case (lock b q k)) [ on t ↦ absurd (mark-names (slot b q k) t e) | off t ↦ t ]

module _ (x : Point) (I : Invariant x) (f : ℕ) (o : Occupied (view x.now) f) where
  abbrev v : View
  v = view x.now

  abbrev m : Map
  m = map_view x.now.pool.pages x.map

  -- a root isn't locked
  pub root-unlocked : f < x.now.pool.stores → locked x.now f ≡ false
  unfolding locked ◌and◌
  root-unlocked l = rw (lt-ltb f x.now.pool.stores l)

  -- of any other, its parent's word in the map has the mark that is read in the frames
  pub parent-mark : x.now.pool.stores ≤ f → locked x.now f ≡ lock x.map (v.page (v.up f)) (v.up_slot f)
  unfolding locked ◌and◌
  parent-mark n = let P : Parent v f = I.shape.parent f o n in rw (le-ltb f x.now.pool.stores n) (I.content.frame_mark _ _ P.occupied P.in_page)

  -- a word of the map that is read as nothing has no mark
  none-unmarked : (q k : ℕ) → q < v.N → m.map_word q k ≡ 0 → lock x.map q k ≡ false
  none-unmarked q k hq z =
      let N : ℕ = x.now.pool.pages in
      nothing-unmarked x.map q k (lift-none N (q / N) v.N (store-room N (q / N) _ (place-split N _ q hq).0) I.shape.pages (name x.map q k) z)

  -- no other word than its parent's names the page of a frame that is no root's
  parent-only : x.now.pool.stores ≤ f → (q k : ℕ) → q < v.N → k < slot_count → m.map_word q k ≡ v.page f → lock x.map q k ≡ locked x.now f
  parent-only n q k hq hk e =
      let P : Parent v f = I.shape.parent f o n in
      let some : v.page f ≢ 0 = λ z. number-some x.now (fit_of x I) f o n (omega arith) in
      let above : m.map_word (v.page (v.up f)) (v.up_slot f) ≡ v.page f = sym (I.content.frame_word _ _ P.occupied P.in_page) ∙ ap (plain v.page) P.names ∙ plain-high v.page f in
      let same = I.sound.once q k (v.page (v.up f)) (v.up_slot f) hq hk (I.shape.page_lt _ P.occupied) P.in_page (λ z. some (sym e ∙ z)) (e ∙ sym above) in
      ap (λ (p : ℕ). lock x.map p k) same.0 ∙ ap (lock x.map (v.page (v.up f))) same.1 ∙ sym (parent-mark n)

  -- a page that isn't locked by its parent's word is locked by none
  pub unlocked-free : locked x.now f ≡ false → Free m v.N (v.page f)
  unlocked-free u q k hq hk e = elim (dec_lt f x.now.pool.stores) [
    | no l ↦ parent-only (omega arith) q k hq hk e ∙ u
    | yes l ↦ elim (ℕ_discrete (m.map_word q k) 0) [
      | yes z ↦ none-unmarked q k hq z
      | no z ↦ absurd (I.sound.not_root q k hq hk z f l (e ∙ I.shape.root_page f l))
    ]
  ]
