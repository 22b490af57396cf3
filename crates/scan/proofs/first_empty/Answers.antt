-- `scan::first_empty` meets its contract. The loop's invariant: the first empty frame is the first from `frame` on, of those not passed yet. Assumes nothing.
use Rattle.std.proofs.Common.{ℕ, suc, ◌+◌, ◌-◌, ◌<◌, ◌≤◌, ◌≡◌, refl, sym, ◌∙◌, true, false, List, arith}
use Rattle.page.specs.declared.FrameIndex.{FrameIndex}
use Rattle.rules.specs.TestLaws.{pick_yes, pick_no}
use Rattle.machine.specs.Machine.{frame_index}
use Rattle.machine.specs.Sweep.{after}
use Rattle.residents.specs.Residents.{holds_page}
use Rattle.scan.specs.FoundByTable.{empty_by}
use Rattle.scan.proofs.first_empty.Goals as goal

module _ (residents : List ℕ) (n i h : ℕ) where
  here : i < n → holds_page residents h ≡ false → empty_by residents n (n - i) h ≡ h
  unfolding empty_by
  here l u = let s : n - i ≡ suc (n - (i + 1)) = omega arith in rw s (sym (pick_no _ u refl))

  on : (g : FrameIndex) → i < n → holds_page residents h ≡ true → g ≡ frame_index (after n h) → empty_by residents n (n - i) h ≡ empty_by residents n (n - (i + 1)) g.0
  unfolding empty_by
  on g l u e = let s : n - i ≡ suc (n - (i + 1)) = omega arith in rw (s, e) (sym (pick_yes _ u refl))

  past : n ≤ i → empty_by residents n (n - i) h ≡ n
  unfolding empty_by
  past l = let s : n - i ≡ 0 = omega arith in rw s

-- this frame is empty
pub returns-then-not-holds_page : goal.returns-then-not-holds_page
returns-then-not-holds_page c = (c.loop-passed.invariant.0, c.loop-passed.invariant.1 ∙ here _ _ _ _ c.loop-passed-test.true (sym c.holds_page.ensures ∙ c.if-not-holds_page.true))

pub loop-passed-preserved : goal.loop-passed-preserved
loop-passed-preserved c = (c.next_frame-frame.ensures.1, c.loop-passed.invariant.1 ∙ on _ _ _ _ _ c.loop-passed-test.true (sym c.holds_page.ensures ∙ c.if-not-holds_page.false) c.next_frame-frame.ensures.0)

-- none is
pub returns : goal.returns
returns c = c.loop-passed.invariant.1 ∙ past _ _ _ _ c.loop-passed-test.false
