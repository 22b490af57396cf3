-- Turns in a sweep, by any class: how often a frame is looked at, what that leaves of its record, and at which look a frame goes. Assumes nothing.
use Prim.Native.Nat.{ℕ, zero, suc, ◌+◌, ◌*◌, ◌-◌, ◌<◌, ◌≤◌, min}
use Rattle.std.specs.Prelude.{◌≡◌, ◌≢◌, false, List, eqb}
use Rattle.std.proofs.Math.Path.{subst, refl}
use Rattle.std.proofs.Common.{sym, ◌∙◌}
use Rattle.std.proofs.Math.Bool.{true}
use native.Mathlib.Omega.{arith}
use Rattle.std.proofs.Math.Decide.{ℕ_discrete}
use borrow.Author.Tests.{eq-eqb, ne_eqb, eqb-true}
use Rattle.page.specs.Figures.{max_usage}
use Rattle.machine.specs.declared.FrameRecord.{FrameRecord}
use Rattle.rules.specs.Tests.{pick}
use Rattle.rules.specs.TestLaws.{clash, and_right, pick-either, pick-by}
use Rattle.machine.specs.Machine.{record_at, with_usage}
use Rattle.machine.specs.Sweep.{Class, rest, warm, yield, yields, Kind, Swept, after, look_leaves, look_takes, sweep_from}
use Rattle.machine.proofs.Laws.SweepLaws.{after-in, Away, away-few, away-own, away-here, away-next, away-left, UsageBlind, looked, looked-here, looked-other, looked-open, looked-cooler, takes-open, looks-least, due, nearer}

-- ---- how often a frame is looked at

-- of n looks from h on, going round, those at frame g
unfoldable pub looks_at : ℕ → ℕ → ℕ → ℕ → ℕ
looks_at F zero h g = 0
looks_at F (suc n) h g = pick (eqb h g) 1 0 + looks_at F n (after F h) g

module _ (F n h g : ℕ) where
  looks-here : g ≡ h → looks_at F (suc n) h g ≡ 1 + looks_at F n (after F h) g
  unfolding looks_at pick
  looks-here e = rw (eq-eqb h g (sym e))

  looks-elsewhere : g ≢ h → looks_at F (suc n) h g ≡ looks_at F n (after F h) g
  unfolding looks_at pick
  looks-elsewhere q = rw (ne_eqb h g (λ e. q (sym e))) (omega arith)

-- of n looks c fall on the frame that lies d on: look F × c + d + 1 isn't one of the n any more, and where c isn't 0, look F × (c − 1) + d + 1 is one, the last at that frame
abbrev pub Times : ℕ → ℕ → ℕ → ℕ → Type 0
Times F n d c = (n ≤ F * c + d) × (F * c + d < n + F)

module _ (F n h g : ℕ) (h_f : h < F) (g_f : g < F) (ahead : (d : ℕ) → Away F (after F h) g d → Times F n d (looks_at F n (after F h) g)) where
  times-here : (d : ℕ) → g ≡ h → Away F h g d → Times F (suc n) d (looks_at F (suc n) h g)
  times-here d e a =
      let r = ahead (F - 1) (rw e (away-left F h (F - 1) h_f (omega arith))) in
      let z : d ≡ 0 = away-own F h d h_f (rw e at a) in
      let s : F * (1 + looks_at F n (after F h) g) ≡ F + F * looks_at F n (after F h) g = omega arith in
      rw (looks-here F n h g e, z, s) (omega (arith, r.0), omega (arith, r.1))

  times-further : (d : ℕ) → g ≢ h → Away F h g d → Times F (suc n) d (looks_at F (suc n) h g)
  times-further zero q a = absurd (q (away-here F h g h_f a))
  times-further (suc d) q a = let r = ahead d (away-next F h g d h_f g_f a) in rw (looks-elsewhere F n h g q) (omega (arith, r.0), omega (arith, r.1))

pub looks-at : (F n h g d : ℕ) → h < F → g < F → Away F h g d → Times F n d (looks_at F n h g)
unfolding looks_at
looks-at F zero h g d h_f g_f a = let z : F * 0 ≡ 0 = omega arith in let l = away-few F h g d g_f a in (omega arith, omega (arith, z))
looks-at F (suc n) h g d h_f g_f a =
    let ahead : (e : ℕ) → Away F (after F h) g e → Times F n e (looks_at F n (after F h) g) = λ e b. looks-at F n (after F h) g e (after-in F h h_f) g_f b in
    elim (ℕ_discrete g h) [ yes e ↦ times-here F n h g h_f g_f ahead d e a | no q ↦ times-further F n h g h_f g_f ahead d q a ]

-- ---- what the looks at a frame leave of its record

-- n looks of class c, one after the other
unfoldable pub looks_leave : Class → ℕ → FrameRecord → FrameRecord
looks_leave c zero r = r
looks_leave c (suc n) r = looks_leave c n (look_leaves r c)

pub looks-rest : (n : ℕ) (r : FrameRecord) → looks_leave rest n r ≡ r
unfolding looks_leave look_leaves
looks-rest zero r = refl
looks-rest (suc n) r = looks-rest n r

-- from a usage in its range
pub looks-warm : (n : ℕ) (r : FrameRecord) → r.usage ≤ max_usage → looks_leave warm n r ≡ with_usage r (min max_usage (r.usage + n))
unfolding looks_leave look_leaves
looks-warm zero r l = let e : min max_usage (r.usage + 0) ≡ r.usage = omega arith in rw e
looks-warm (suc n) r l =
    let e : min max_usage (min max_usage (r.usage + 1) + n) ≡ min max_usage (r.usage + suc n) = omega arith in
    looks-warm n (look_leaves r warm) (omega arith) ∙ rw e

pub looks-yield : (n : ℕ) (r : FrameRecord) → looks_leave yield n r ≡ with_usage r (r.usage - n)
unfolding looks_leave look_leaves
looks-yield zero r = let e : r.usage - 0 ≡ r.usage = omega arith in rw e
looks-yield (suc n) r = let e : r.usage - 1 - n ≡ r.usage - suc n = omega arith in looks-yield n (look_leaves r yield) ∙ rw e

module _ (k : Kind) (K : UsageBlind k) (F : ℕ) where
  -- a look of the sweep, where it falls on g, and n at g after it
  look_then : (rs : List FrameRecord) (h g n : ℕ) → let r = record_at (looked k rs h) g in
      looks_leave (k r g) n r ≡ looks_leave (k (record_at rs g) g) (pick (eqb h g) 1 0 + n) (record_at rs g)
  unfolding looks_leave pick
  look_then rs h g n =
      let c : k (record_at (looked k rs h) g) g ≡ k (record_at rs g) g = K.same _ _ g (looked-cooler k K rs h g) in
      let z : 0 + n ≡ n = omega arith in
      let s : 1 + n ≡ suc n = omega arith in
      elim (ℕ_discrete g h) [
        | yes e ↦
            let d : k (record_at (looked k rs h) h) h ≡ k (record_at rs h) h = K.same _ _ h (looked-cooler k K rs h h) in
            subst
            (λ (x : ℕ). looks_leave (k (record_at (looked k rs h) x) x) n (record_at (looked k rs h) x) ≡ looks_leave (k (record_at rs x) x) (pick (eqb h x) 1 0 + n) (record_at rs x))
            (sym e)
            (rw (d, eq-eqb h h refl, s, looked-here k K rs h))
        | no q ↦ rw (c, ne_eqb h g (λ e. q (sym e)), z, looked-other k rs h g q)
      ]

  -- a sweep leaves of a record what its looks at that frame leave
  pub looks-leave : (m n : ℕ) (rs : List FrameRecord) (h g : ℕ) → let v = sweep_from k F m n rs h in
      record_at v.records g ≡ looks_leave (k (record_at rs g) g) (looks_at F (v.looks - n) h g) (record_at rs g)
  unfolding sweep_from looks_at looks_leave
  looks-leave zero n rs h g = let z : n - n ≡ 0 = omega arith in rw z
  looks-leave (suc m) n rs h g =
      let l = looks-least k F m (n + 1) (looked k rs h) (after F h) in
      let z : n + 1 - n ≡ 1 = omega arith in
      let s : (sweep_from k F m (n + 1) (looked k rs h) (after F h)).looks - n ≡ suc ((sweep_from k F m (n + 1) (looked k rs h) (after F h)).looks - (n + 1)) = omega arith in
      pick-either (λ (v : Swept). record_at v.records g ≡ looks_leave (k (record_at rs g) g) (looks_at F (v.looks - n) h g) (record_at rs g)) _ _ _
      (rw z (look_then rs h g 0))
      (rw s (looks-leave m (n + 1) (looked k rs h) (after F h) g ∙ look_then rs h g _))

-- ---- the frame that is taken

-- after n looks, over the records rs, the hand at h: it is one of the F and open, it goes at the look that is due for it, and none that is due for an open frame comes before
pub record Chosen (k : Kind) (F n h : ℕ) (rs : List FrameRecord) (v : Swept) : Type 0 where
  pub frame : v.frame.0 < F
  pub class : yields (k (record_at rs v.frame.0) v.frame.0) ≡ true
  pub own : (d : ℕ) → Away F h v.frame.0 d → v.looks ≡ n + due F rs v.frame.0 d
  pub least : (g d : ℕ) → g < F → Away F h g d → yields (k (record_at rs g) g) ≡ true → v.looks ≤ n + due F rs g d

module _ (k : Kind) (K : UsageBlind k) (F : ℕ) where
  -- a look that takes nothing, and the rest of the sweep
  chosen-next : (n : ℕ) (rs : List FrameRecord) (h : ℕ) (v : Swept) → h < F → look_takes (record_at rs h) (k (record_at rs h) h) ≡ false
      → Chosen k F (n + 1) (after F h) (looked k rs h) v → Chosen k F n h rs v
  chosen-next n rs h v h_f t c =
      let o : yields (k (record_at rs v.frame.0) v.frame.0) ≡ true = sym (looked-open k K rs h _) ∙ c.class in
      record {
        frame = c.frame;
        class = o;
        own = λ d a.
            let e = nearer k K F rs h v.frame.0 h_f c.frame o t d a in
            c.own e.0 e.1 ∙ omega (arith, e.2);
        least = λ g d g_f a x.
            let e = nearer k K F rs h g h_f g_f x t d a in
            let l = c.least g e.0 g_f e.1 (looked-open k K rs h g ∙ x) in
            omega (arith, e.2);
      }

  -- a look that takes frame h
  chosen-here : (n : ℕ) (rs : List FrameRecord) (h : ℕ) (v : Swept) → h < F → look_takes (record_at rs h) (k (record_at rs h) h) ≡ true → v.frame.0 ≡ h → v.looks ≡ n + 1 → Chosen k F n h rs v
  unfolding look_takes
  chosen-here n rs h v h_f t f l = record {
    frame = rw f h_f;
    class = rw f (takes-open (record_at rs h) (k (record_at rs h) h) t);
    own = λ d a.
        let u : (record_at rs h).usage ≡ 0 = eqb-true _ 0 (and_right _ _ t) in
        let z : d ≡ 0 = away-own F h d h_f (rw f at a) in
        let y : F * 0 ≡ 0 = omega arith in
        rw (f, u, z) (omega (arith, l, y));
    least = λ g d g_f a o. omega (arith, l);
  }

  pub chosen : (m n : ℕ) (rs : List FrameRecord) (h : ℕ) → h < F → (sweep_from k F m n rs h).taken ≡ true → Chosen k F n h rs (sweep_from k F m n rs h)
  unfolding sweep_from
  chosen zero n rs h h_f = λ e. absurd (clash (sym e))
  chosen (suc m) n rs h h_f = pick-by (λ (v : Swept). v.taken ≡ true → Chosen k F n h rs v) _ _ _
      (λ t e. chosen-here n rs h _ h_f t refl refl) (λ t e. chosen-next n rs h _ h_f t (chosen m (n + 1) (looked k rs h) (after F h) (after-in F h h_f) e))
