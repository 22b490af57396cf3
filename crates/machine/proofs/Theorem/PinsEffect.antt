-- The records' pins and the balance, on the view: each effect keeps them equal, and a pinned page in the frame of the answer that pinned it.
use Rattle.std.specs.Prelude.{◌≡◌, refl, ◌≢◌, true, false, ℕ, ◌+◌, ◌-◌, ◌<◌}
use Rattle.std.proofs.Common.{sym, ap, ◌∙◌, arith, eq-eqb, ne_eqb, ltb-true}
use Rattle.std.proofs.Math.Decide.{ℕ_discrete}
use Rattle.rules.specs.TestLaws.{pick_yes, pick_no, pick-either, case, on, off}
use Rattle.machine.specs.History.{Balance, is_pinned, update, fixed_in, unfixed}
use Rattle.machine.proofs.Theorem.View.{View, Occupied, Absent, Shape}
use Rattle.machine.proofs.Theorem.Invariant.{Pins}
use Rattle.machine.proofs.Theorem.KeepEffect.{Steady, steady-was, steady-is, steady-absent_was}
use Rattle.machine.proofs.Theorem.EvictEffect.{Evicted, evicted-other, evicted-was, evicted-absent_was}
use Rattle.machine.proofs.Theorem.LoadEffect.{Loaded, loaded-here, loaded-was, loaded-absent_was}

-- ---- a function with another value at one place

update_same : (t : ℕ → ℕ) (p x : ℕ) → update t p x p ≡ x
unfolding update
update_same t p x = sym (pick_yes (t p) (eq-eqb p p refl) refl)

update_other : (t : ℕ → ℕ) (p x q : ℕ) → q ≢ p → update t p x q ≡ t q
unfolding update
update_other t p x q n = sym (pick_no x (ne_eqb q p n) refl)

-- ---- the frame of the answer that pinned a page

fixed-frame-other : (f p : ℕ) (b : Balance) (q : ℕ) → q ≢ p → (fixed_in f p b).frame q ≡ b.frame q
fixed-frame-other f p b q n = pick-either (λ (t : ℕ → ℕ). t q ≡ b.frame q) (is_pinned b p) b.frame (update b.frame p f) refl (update_other b.frame p f q n)

fixed-frame-same : (f p : ℕ) (b : Balance) → (is_pinned b p ≡ true → b.frame p ≡ f) → (fixed_in f p b).frame p ≡ f
fixed-frame-same f p b h = elim (case (is_pinned b p)) [
  | on e ↦ ap (λ (t : ℕ → ℕ). t p) (sym (pick_yes (update b.frame p f) e refl)) ∙ h e
  | off e ↦ ap (λ (t : ℕ → ℕ). t p) (sym (pick_no b.frame e refl)) ∙ update_same b.frame p f
]

-- ---- no page moves

module _ (v w : View) (K : Steady v w) (b : Balance) (P : Pins v b) where
  was : (g : ℕ) → Occupied w g → Occupied v g
  was = steady-was v w K

  pub pins-kept : ((g : ℕ) → w.pins g ≡ v.pins g) → Pins w b
  pins-kept e = record {
    count = λ g o. rw (K.page g, e g) (P.count g (was g o));
    none = λ p a. P.none p (steady-absent_was v w K p a);
    place = λ g o n. rw (K.page g) (P.place g (was g o) (rw (e g) at n));
  }

  module _ (S : Shape v) (f : ℕ) (of : Occupied v f) (rest : (g : ℕ) → g ≢ f → w.pins g ≡ v.pins g) where
    away : (g : ℕ) → Occupied w g → g ≢ f → v.page g ≢ v.page f
    away g o n q = n (S.apart g f (was g o) of q)

    gone : (p : ℕ) → Absent w p → p ≢ v.page f
    gone p a q = a f (steady-is v w K f of) (K.page f ∙ sym q)

    -- one pin more on frame f
    pub pins-pinned : w.pins f ≡ v.pins f + 1 → Pins w (fixed_in f (v.page f) b)
    pins-pinned e = record {
      count = λ g o. elim (ℕ_discrete g f) [
        | yes q ↦ rw (q, K.page f, e, update_same b.fixes (v.page f) (b.fixes (v.page f) + 1)) (omega (arith, P.count f of))
        | no q ↦ rw (K.page g, rest g q, update_other b.fixes (v.page f) (b.fixes (v.page f) + 1) (v.page g) (away g o q)) (P.count g (was g o))
      ];
      none = λ p a. update_other b.fixes (v.page f) (b.fixes (v.page f) + 1) p (gone p a) ∙ P.none p (steady-absent_was v w K p a);
      place = λ g o n. elim (ℕ_discrete g f) [
        | yes q ↦ rw (q, K.page f) (fixed-frame-same f (v.page f) b (λ t. P.place f of (omega (arith, P.count f of, ltb-true (b.unfixes (v.page f)) (b.fixes (v.page f)) t))))
        | no q ↦ rw (K.page g) (fixed-frame-other f (v.page f) b (v.page g) (away g o q) ∙ P.place g (was g o) (rw (rest g q) at n))
      ];
    }

    -- one pin less
    pub pins-unpinned : 0 < v.pins f → w.pins f ≡ v.pins f - 1 → Pins w (unfixed (v.page f) b)
    pins-unpinned pos e = record {
      count = λ g o. elim (ℕ_discrete g f) [
        | yes q ↦ rw (q, K.page f, e, update_same b.unfixes (v.page f) (b.unfixes (v.page f) + 1)) (omega (arith, P.count f of))
        | no q ↦ rw (K.page g, rest g q, update_other b.unfixes (v.page f) (b.unfixes (v.page f) + 1) (v.page g) (away g o q)) (P.count g (was g o))
      ];
      none = λ p a. P.none p (steady-absent_was v w K p a) ∙ sym (update_other b.unfixes (v.page f) (b.unfixes (v.page f) + 1) p (gone p a));
      place = λ g o n. elim (ℕ_discrete g f) [
        | yes q ↦ rw (q, K.page f) (P.place f of (omega arith))
        | no q ↦ rw (K.page g) (P.place g (was g o) (rw (rest g q) at n))
      ];
    }

-- ---- an unpinned page leaves, and a page comes in

pub pins-evicted : (v w : View) (e : ℕ) → Evicted v w e → Occupied v e → v.pins e ≡ 0 → (b : Balance) → Pins v b → Pins w b
pins-evicted v w e E oe z b P = record {
  count = λ g o. let n : g ≢ e = evicted-other v w e E g o in rw (E.page g n, E.pins g n) (P.count g (evicted-was v w e E g o));
  none = λ p a. elim (ℕ_discrete p (v.page e)) [
    | yes q ↦ rw q (omega (arith, P.count e oe))
    | no q ↦ P.none p (evicted-absent_was v w e E p a q)
  ];
  place = λ g o n. let h : g ≢ e = evicted-other v w e E g o in rw (E.page g h) (P.place g (evicted-was v w e E g o) (rw (E.pins g h) at n));
}

pub pins-loaded : (v w : View) (f k e q : ℕ) → Loaded v w f k e q → e < v.F → v.used e ≡ false → Absent v q → (b : Balance) → Pins v b → Pins w (fixed_in e q b)
pins-loaded v w f k e q L e_f free ab b P = record {
  count = λ g o. elim (ℕ_discrete g e) [
    | yes z ↦ rw (z, L.page_e, L.pins_e, update_same b.fixes q (b.fixes q + 1), P.none q ab)
    | no z ↦ rw (L.page g z, L.pins g z, update_other b.fixes q (b.fixes q + 1) (v.page g) (ab g (was g o z))) (P.count g (was g o z))
  ];
  none = λ p a. update_other b.fixes q (b.fixes q + 1) p (λ z. a e (loaded-here v w f k e q L e_f free) (L.page_e ∙ sym z)) ∙ P.none p (loaded-absent_was v w f k e q L e_f free p a);
  place = λ g o n. elim (ℕ_discrete g e) [
    | yes z ↦ rw (z, L.page_e) (fixed-frame-same e q b (λ t. absurd (omega (arith, P.none q ab, ltb-true (b.unfixes q) (b.fixes q) t))))
    | no z ↦ rw (L.page g z) (fixed-frame-other e q b (v.page g) (ab g (was g o z)) ∙ P.place g (was g o z) (rw (L.pins g z) at n))
  ];
}
  where
    was : (g : ℕ) → Occupied w g → g ≢ e → Occupied v g
    was = loaded-was v w f k e q L e_f free
