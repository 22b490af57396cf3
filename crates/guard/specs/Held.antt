-- Rule 3 by the record at the handle's place alone, and rule 26 by it and the frames. Assumes nothing.
use Rattle.std.specs.Prelude.{ℕ, ◌+◌, ◌*◌, ◌/◌, ◌%◌, ◌≤◌, ◌<◌, ◌≡◌, refl, Bool, false, not, List, [], eqb, ltb, length}
use Rattle.std.proofs.Common.{sym, ◌∙◌, ap, arith, le_trans, mul-le-mul_left, mul-le-mul_right, le-ltb}
use Rattle.std.proofs.Math.Decide.{dec_lt}
use Rattle.page.specs.Figures.{page_size, slot_count, most_frames, most_pages}
use Rattle.machine.specs.declared.Handle.{Handle}
use Rattle.machine.specs.declared.Pool.{Pool}
use Rattle.rules.specs.Tests.{◌and◌}
use Rattle.rules.specs.TestLaws.{and_no}
use Rattle.page.specs.Word.{is_marked}
use Rattle.page.specs.Page.{slot}
use Rattle.machine.specs.declared.FrameRecord.{FrameRecord}
use Rattle.machine.specs.Machine.{State, state, is_used, record_at, is_root}
use Rattle.machine.specs.Rules.{handle_fits, locked}
use Rattle.machine.proofs.Laws.Ready.{Kept}
use Rattle.machine.proofs.Laws.RuleLaws.{HandleHeld}

-- ---- rule 1: of so many pages each, 255 stores are few enough for their bytes to be counted
pub few-in-all : (N T : ℕ) → N ≤ most_pages → T ≤ 255 → N * T ≤ 1044480
few-in-all N T n t = le_trans (mul-le-mul_right T n) (mul-le-mul_left most_pages t)

-- ---- rule 3 by a record handed on, from where it stands

-- where the record of the handle's frame stands, if that frame is one of F
abbrev pub record_place : Handle → ℕ
record_place h = h.frame.0 % most_frames

-- rule 3, of F frames and the record at that place
unfoldable pub held_fits : ℕ → FrameRecord → Handle → Bool
held_fits F r h = ltb h.frame.0 F and is_used r and eqb r.store.0 h.store.0 and eqb r.page.0 h.page.0 and ltb 0 r.pins

-- the frame is its own place where it is one of F; where it isn't, the record says nothing
pub held_fits_lem : (p : Pool) (h : Handle) → p.count ≤ most_frames → held_fits p.count (record_at p.records (record_place h)) h ≡ handle_fits p h
unfolding held_fits handle_fits
held_fits_lem p h l = elim (dec_lt h.frame.0 p.count) [
  | yes b ↦ let e : record_place h ≡ h.frame.0 = omega arith in rw e
  | no b ↦
      let e : ltb h.frame.0 p.count ≡ false = le-ltb h.frame.0 p.count (omega arith) in
      let r = record_at p.records (record_place h) in
      let q = record_at p.records h.frame.0 in
      sym (and_no (is_used r and eqb r.store.0 h.store.0 and eqb r.page.0 h.page.0 and ltb 0 r.pins) e)
      ∙ and_no (is_used q and eqb q.store.0 h.store.0 and eqb q.page.0 h.page.0 and ltb 0 q.pins) e
]

-- how many pages there are in so many bytes
pages-in : (n F : ℕ) → n ≡ page_size * F → n / page_size ≡ F
pages-in n F e = omega arith

-- where rules 1 and 2 are kept, F is told by the frames' length
pub is_held : (s : State) (h : Handle) → Kept s → {r : FrameRecord} {t : Bool} → r ≡ record_at s.pool.records (record_place h) → t ≡ held_fits (length s.frames / page_size) r h → t ≡ handle_fits s.pool h
is_held s h K a b = b ∙ rw (a, pages-in (length s.frames) s.pool.count K.sized.frames) (held_fits_lem s.pool h K.sized.most)

-- ---- rule 26

-- frame f has a record, and the slot that this gives is one of the frames'
pub record ParentWithin (p : Pool) (fs : List ℕ) (f : ℕ) : Type 0 where
  pub frame : f < most_frames
  pub parent : page_size * (record_at p.records f).parent.0 + page_size ≤ length fs
  pub slot : (record_at p.records f).slot < slot_count

-- where the rules of the handle are kept
pub parent-within : (s : State) (h : Handle) → Kept s → HandleHeld s.pool h → ParentWithin s.pool s.frames h.frame.0
parent-within s h K H =
    let z = K.sized in
    let b = K.agreed.in_range h.frame.0 (omega (arith, H.below)) in
    record { frame = omega (arith, H.below, z.most); parent = omega (arith, b.parent, z.frames); slot = b.slot }

-- rule 26: the page in frame f, whose record is r, is locked, among T stores
unfoldable pub held_locked : ℕ → FrameRecord → List ℕ → ℕ → Bool
held_locked T r fs f = not (is_root T f) and is_marked (slot fs r.parent.0 r.slot)

pub held-locked : (s : State) (f : ℕ) → held_locked s.pool.stores (record_at s.pool.records f) s.frames f ≡ locked s f
unfolding held_locked locked
held-locked s f = refl

-- where the rules of the handle are kept, by a record handed on
module _ (s : State) (h : Handle) (K : Kept s) (H : HandleHeld s.pool h) {r : FrameRecord} (e : r ≡ record_at s.pool.records (record_place h)) where
  at-frame : r ≡ record_at s.pool.records h.frame.0
  at-frame = let i : record_place h ≡ h.frame.0 = omega (arith, H.below, K.sized.most) in e ∙ ap (record_at s.pool.records) i

  -- T was handed on
  pub is-locked : {t : Bool} {T : ℕ} → T ≡ s.pool.stores → t ≡ held_locked T r s.frames h.frame.0 → t ≡ locked s h.frame.0
  is-locked z i = i ∙ ap (λ (T : ℕ). held_locked T r s.frames h.frame.0) z ∙ ap (λ (q : FrameRecord). held_locked s.pool.stores q s.frames h.frame.0) at-frame ∙ held-locked s h.frame.0

-- store and directory don't tell
pub locked-by-frames : (s : State) (f : ℕ) → locked (state s.pool s.frames [] []) f ≡ locked s f
unfolding locked
locked-by-frames s f = refl
