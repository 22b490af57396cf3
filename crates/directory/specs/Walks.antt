-- One turn of each walk along a chain, and what is stored. Assumes nothing.
use Rattle.std.specs.Prelude.{ℕ, suc, ◌+◌, ◌≡◌, ◌≢◌, List, ◌∷◌, get_or, set}
use Rattle.std.proofs.Math.Path.{refl, sym, ap}
use Rattle.std.proofs.Common.{◌∙◌, arith, add-one, eq-eqb, ne_eqb}
use Rattle.page.specs.Figures.{most_frames}
use Rattle.rules.specs.TestLaws.{pick_yes, pick_no}
use Rattle.chains.specs.Chain.{link_at, entry_of, chain_from, entered, taken_from, taken_out, Sought, seek_in, sought_in}

pub entered_by : (d : List ℕ) (b e x y : ℕ) → x ≡ b → y ≡ link_at e → set (set d y (get_or d x 0)) x (e + 1) ≡ entered d b e
unfolding entered
entered_by d b e x y p q = rw (p, q, add-one e) refl

-- ---- an entry is taken out

module _ (d : List ℕ) (e m n a : ℕ) (left : m ≡ suc n) where
  pub take_none : get_or d a 0 ≡ 0 → taken_from d e m a ≡ d
  unfolding taken_from
  take_none z = rw left (sym (pick_yes _ (eq-eqb (get_or d a 0) 0 z) refl))

  pub take-here : get_or d a 0 ≢ 0 → get_or d a 0 ≡ e + 1 → (y : ℕ) → y ≡ link_at e → taken_from d e m a ≡ set (set d a (get_or d y 0)) y 0
  unfolding taken_from
  take-here z h y q = rw (left, q) (sym (pick_no _ (ne_eqb (get_or d a 0) 0 z) (pick_yes _ (eq-eqb (get_or d a 0) (suc e) (omega arith)) refl)))

  pub take_on : get_or d a 0 ≢ 0 → get_or d a 0 ≢ e + 1 → (y : ℕ) → y ≡ link_at (entry_of (get_or d a 0)) → taken_from d e m a ≡ taken_from d e n y
  unfolding taken_from
  take_on z h y q = rw (left, q) (sym (pick_no _ (ne_eqb (get_or d a 0) 0 z) (pick_no _ (ne_eqb (get_or d a 0) (suc e) (λ x. h (omega arith))) refl)))

pub take-out-of : (d : List ℕ) (e m a : ℕ) → m ≡ 0 → taken_from d e m a ≡ d
unfolding taken_from
take-out-of d e m a z = rw z refl

pub taken-out-is : (d t : List ℕ) (b e x : ℕ) → x ≡ b → taken_from d e most_frames x ≡ t → t ≡ taken_out d b e
taken-out-is d t b e x p h = sym h ∙ ap (taken_from d e most_frames) p

-- ---- a page is sought

abbrev sought : ℕ → ℕ → Sought
sought f c = record { frame = f; compared = c }

module _ (page : ℕ → ℕ) (F q : ℕ) (d : List ℕ) (c a : ℕ) where
  pub seek-out-of : (m n : ℕ) → m ≡ 0 → c ≡ n → seek_in page F q c (chain_from d m a) ≡ sought F n
  unfolding seek_in chain_from
  seek-out-of m n z e = rw (z, e) refl

  module _ (m n : ℕ) (left : m ≡ suc n) where
    pub seek-end : get_or d a 0 ≡ 0 → seek_in page F q c (chain_from d m a) ≡ sought F c
    unfolding seek_in chain_from
    seek-end z = rw left (ap (seek_in page F q c) (sym (pick_yes _ (eq-eqb (get_or d a 0) 0 z) refl)))

    step : (f : ℕ) → get_or d a 0 ≢ 0 → f ≡ entry_of (get_or d a 0) → chain_from d m a ≡ f ∷ chain_from d n (link_at f)
    unfolding chain_from
    step f z e = rw (left, e) (sym (pick_no _ (ne_eqb (get_or d a 0) 0 z) refl))

    pub seek-here : (f : ℕ) → get_or d a 0 ≢ 0 → f ≡ entry_of (get_or d a 0) → page f ≡ q → seek_in page F q c (chain_from d m a) ≡ sought f (c + 1)
    unfolding seek_in
    seek-here f z e h = ap (seek_in page F q c) (step f z e) ∙ sym (pick_yes _ (eq-eqb (page f) q h) refl)

    pub seek-on : (f : ℕ) → get_or d a 0 ≢ 0 → f ≡ entry_of (get_or d a 0) → page f ≢ q → (y : ℕ) → y ≡ link_at f → seek_in page F q c (chain_from d m a) ≡ seek_in page F q (c + 1) (chain_from d n y)
    unfolding seek_in
    seek-on f z e h y l = rw l (ap (seek_in page F q c) (step f z e) ∙ sym (pick_no _ (ne_eqb (page f) q h) refl))

pub sought-at : (page : ℕ → ℕ) (F : ℕ) (d : List ℕ) (b q x k : ℕ) → x ≡ b → k ≡ q → sought_in page F d b q ≡ seek_in page F k 0 (chain_from d (suc most_frames) x)
sought-at page F d b q x k e i = rw (e, i) refl
