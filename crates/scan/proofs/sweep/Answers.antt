-- `scan::sweep` meets its contract. The loop's invariant: the whole sweep is the sweep over what is left of what it saw, from the hand on, with the looks that are left. Assumes nothing.
use Rattle.std.proofs.Common.{ℕ, suc, ◌+◌, ◌-◌, ◌<◌, ◌≤◌, ◌≡◌, ◌≢◌, refl, ◌∙◌, List, get_or, set, Some, None, arith}
use Rattle.page.specs.declared.FrameIndex.{FrameIndex}
use Rattle.machine.specs.Machine.{frame_index}
use Rattle.machine.specs.Sweep.{after, most_looks}
use Rattle.scan.specs.Walk.{warmest, looked_at, WalkEnd, walk_from, Walked, walk-takes, walk-goes, walk-passes}
use Rattle.scan.proofs.sweep.Goals as goal
use Rattle.scan.proofs.sweep.Goals.{then-sight-lt-WARMEST, else-sight-lt-WARMEST}

module _ (F k n : ℕ) (us : List ℕ) (h : ℕ) {a : ℕ} {g : FrameIndex} (x : n < k) (ha : a ≡ h) (hg : g ≡ frame_index (after F h)) where
  left : k - n ≡ suc (k - (n + 1))
  left = omega arith

  takes : get_or us a 0 ≡ 0 → walk_from F (k - n) n us h ≡ record { walk = record { frame = Some (frame_index h); looks = n + 1; hand = g }; left = us }
  takes e = rw (left, hg) (walk-takes F _ n us h (rw ha at e))

  goes : {v : ℕ} → get_or us a 0 ≢ 0 → v ≡ looked_at (get_or us a 0) → walk_from F (k - n) n us h ≡ walk_from F (k - (n + 1)) (n + 1) (set us a v) g.0
  goes z e = rw (left, hg, e, ha) (walk-goes F _ n us h (rw ha at z))

  passes : warmest ≤ get_or us a 0 → walk_from F (k - n) n us h ≡ walk_from F (k - (n + 1)) (n + 1) us g.0
  passes e = rw (left, hg) (walk-passes F _ n us h (rw ha at e))

over : (F k n : ℕ) (us : List ℕ) (h : ℕ) → n ≡ k → walk_from F (k - n) n us h ≡ record { walk = record { frame = None; looks = k; hand = frame_index h }; left = us }
unfolding walk_from
over F k n us h x = let s : k - n ≡ 0 = omega arith in rw (s, x) refl

walked : {F h : ℕ} {us : List ℕ} {e : WalkEnd} → walk_from F (most_looks F) 0 us h ≡ e → Walked F h us e.left e.walk
walked {F} {h} {us} {e} q = rw (← q) (record { ended = refl; left = refl })

-- a frame at usage 0 that is open to eviction
pub returns-then-sight-eq0 : goal.returns-then-sight-eq0
returns-then-sight-eq0 c = walked (c.loop-looks.invariant.1 ∙ takes _ _ _ _ _ c.loop-looks-test.true c.from-at.ensures c.next_frame-hand.ensures.0 c.if-sight-eq0.true)

-- a frame that the look cools or warms, and one that it leaves as it is
pub loop-looks-preserved : goal.loop-looks-preserved
loop-looks-preserved c = (
  c.next_frame-hand.ensures.1,
  c.loop-looks.invariant.1 ∙ elim c.if-sight-lt-WARMEST.branch [
    | then-sight-lt-WARMEST w ↦ rw w.sights-is (goes _ _ _ _ _ c.loop-looks-test.true c.from-at.ensures c.next_frame-hand.ensures.0 c.if-sight-eq0.false w.looked_at.ensures)
    | else-sight-lt-WARMEST w ↦ rw w.sights-is (passes _ _ _ _ _ c.loop-looks-test.true c.from-at.ensures c.next_frame-hand.ensures.0 w.if-sight-lt-WARMEST.false)
  ],
)

-- the looks are over
pub returns : goal.returns
returns c = walked (c.loop-looks.invariant.1 ∙ over _ _ _ _ _ (omega arith))
