-- What the tests of a handle and of openness to eviction say of the state. Assumes nothing.
use Rattle.std.specs.Prelude.{ℕ, ◌<◌, ◌≤◌, ◌≡◌, true, false, eqb, ltb}
use Rattle.std.proofs.Common.{sym, ◌∙◌, ap, arith, eqb-true, ltb-true, eq-eqb, lt-ltb}
use Rattle.page.specs.Figures.{slot_count}
use Rattle.page.specs.Word.{Number}
use Rattle.page.specs.Page.{name}
use Rattle.machine.specs.declared.Handle.{Handle}
use Rattle.rules.specs.Tests.{first_broken}
use Rattle.rules.specs.TestLaws.{clash, and-true, both}
use Rattle.machine.specs.Machine.{State, is_used, record_at, page_in, store_in, found_in}
use Rattle.machine.specs.Sweep.{evictable, is_open}
use Rattle.machine.proofs.Laws.Standings.{HasSwizzled, numbers-alone, root_stands, pinned_stands, parent_stands, open_stands, stands, open-stands, none_stays, stays-first}
use Rattle.machine.specs.Rules.{handle_fits}
use Rattle.machine.specs.Calls.{stay_rules}
use Rattle.machine.specs.History.{handled_place}
use Rattle.machine.proofs.Theorem.View.{view, Occupied}

-- the handle's frame is occupied, holds its page, of its store, and is pinned
pub record Handled (s : State) (h : Handle) : Type 0 where
  pub at : Occupied (view s) h.frame.0
  pub store : store_in s.pool.records h.frame.0 ≡ h.store.0
  pub page : page_in s.pool.records h.frame.0 ≡ h.page.0
  pub pinned : 0 < (record_at s.pool.records h.frame.0).pins

pub handled : (s : State) (h : Handle) → handle_fits s.pool h ≡ true → Handled s h
unfolding handle_fits
handled s h t =
    let a = and-true (ltb h.frame.0 s.pool.count) _ t in
    let b = and-true (is_used (record_at s.pool.records h.frame.0)) _ a.1 in
    let c = and-true (eqb (record_at s.pool.records h.frame.0).store.0 h.store.0) _ b.1 in
    let d = and-true (eqb (record_at s.pool.records h.frame.0).page.0 h.page.0) _ c.1 in
    record { at = record { lt = ltb-true _ _ a.0; on = b.0 }; store = eqb-true _ _ c.0; page = eqb-true _ _ d.0; pinned = ltb-true 0 _ d.1 }

pub of-handled : (s : State) (h : Handle) → Handled s h → handle_fits s.pool h ≡ true
unfolding handle_fits
of-handled s h H = both _ _ (lt-ltb _ _ H.at.lt) (both _ _ H.at.on (both _ _ (eq-eqb _ _ H.store) (both _ _ (eq-eqb _ _ H.page) (lt-ltb 0 _ H.pinned))))

-- its page's place
pub handled-place : (s : State) (h : Handle) → Handled s h → (view s).page h.frame.0 ≡ handled_place s.pool.pages h
handled-place s h H = rw (H.store, H.page)

-- the frame is no root's, is unpinned, and has no swizzled word
pub record Open (s : State) (f : ℕ) : Type 0 where
  pub not_root : s.pool.stores ≤ f
  pub unpinned : (record_at s.pool.records f).pins ≡ 0
  pub leaf : (k : ℕ) → k < slot_count → Number (name s.frames f k)

pub open_of : (s : State) (f : ℕ) → is_open s.pool.stores (record_at s.pool.records f) s.frames f ≡ true → Open s f
open_of s f o = let w = open-stands _ _ _ f o in record { not_root = w.0; unpinned = w.1; leaf = numbers-alone s.frames f w.2 }

-- where the last three rules of evict are kept, its page's frame is open
pub open_kept : (s : State) (t q : ℕ) → first_broken (stay_rules s t q) ≡ 0 → Open s (found_in s.pool t q)
open_kept s t q e = let f = found_in s.pool t q in open_of s f (none_stays _ _ _ f (sym (stays-first s t q) ∙ e))

-- an unpinned frame that is no root's and yet not open has a swizzled word
pub shut-of : (s : State) (f : ℕ) → is_open s.pool.stores (record_at s.pool.records f) s.frames f ≡ false → s.pool.stores ≤ f → (record_at s.pool.records f).pins ≡ 0 → HasSwizzled s.frames f
shut-of s f o n z = elim (stands s.pool.stores (record_at s.pool.records f) s.frames f) [
  | root_stands e a ↦ absurd (omega arith)
  | pinned_stands e a b ↦ absurd (b z)
  | parent_stands e a b c ↦ c
  | open_stands e a b c ↦ absurd (clash (sym (ap evictable e) ∙ o))
]
