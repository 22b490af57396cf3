-- Frames found by the table of the page in each frame, and that where records and frames agree they are those found by the records. Assumes nothing.
use Rattle.std.specs.Prelude.{ℕ, zero, suc, ◌+◌, ◌/◌, ◌<◌, ◌≤◌, ◌≡◌, ◌≢◌, ◌==◌, true, false, not, nat_lt, List, length, take, drop, eqb, Option, Some, None, MatchOption}
use Rattle.std.specs.List.{position, position_or_len}
use Rattle.std.proofs.Common.{refl, sym, ◌∙◌, ap, subst, arith, add-one, zero-add, eq-eqb, ne_eqb, eqb-true, lt-ltb, ltb-true, length-take, drop-cons}
use Rattle.std.proofs.lemmas.Bool.{not-false}
use Rattle.std.proofs.lemmas.List.Sums.{prefix_len-le-length}
use Rattle.std.proofs.lemmas.Option.{cond_some}
use Rattle.std.proofs.Math.Decide.{ℕ_discrete, dec_lt}
use Rattle.page.specs.declared.FrameIndex.{FrameIndex}
use Rattle.page.specs.declared.PageNumber.{PageNumber}
use Rattle.page.specs.Figures.{page_size, most_frames, most_pages, most_stores}
use Rattle.page.specs.StorePlaces.{store_place}
use Rattle.rules.specs.Tests.{pick, ◌and◌, first_broken}
use Rattle.rules.specs.TestLaws.{case, on, off, both, and_yes, and_no, or-none, pick_yes, pick_no}
use Rattle.machine.specs.Machine.{State, is_used, record_at, page_in, store_in, place_in, occupied, found_from, found_in}
use Rattle.machine.specs.Sweep.{after, empty_from, first_empty}
use Rattle.machine.proofs.Laws.SweepLaws.{after-in}
use Rattle.machine.proofs.Laws.AgreementFacts.{occupied-used}
use Rattle.machine.specs.Calls.{page_rules}
use Rattle.machine.proofs.Laws.Ready.{Kept}
use Rattle.machine.proofs.Laws.RuleLaws.{PageKept, page-kept}
use Rattle.seen.specs.Seen.{Seen}
use Rattle.residents.specs.Residents.{key_of, key_by, holds_page}
use Rattle.residents.specs.ResidentLaws.{key-place, holds-page}
use Rattle.residents.specs.Handed.{Handed}

-- r is the frame x of the F, or no frame where x is F
abbrev pub Told : ℕ → ℕ → Option FrameIndex → Type 0
Told F x r = MatchOption r (x ≡ F) (λ f. (f.0 < F) × (x ≡ f.0))

-- the first frame from i on whose page has the key k, among n of them, and else the frame after those
unfoldable pub found_by : List ℕ → ℕ → ℕ → ℕ → ℕ
found_by residents k zero i = i
found_by residents k (suc n) i = pick (eqb (key_by residents i) k) i (found_by residents k n (i + 1))

-- the first of the n frames from h on, going round, that holds no page, or F
unfoldable pub empty_by : List ℕ → ℕ → ℕ → ℕ → ℕ
empty_by residents F zero h = F
empty_by residents F (suc n) h = pick (holds_page residents h) (empty_by residents F n (after F h)) h

-- ---- the frame with a key as the place in the list of the first n keys

found-place : (residents : List ℕ) (k n i : ℕ) → i + n ≤ length residents → found_by residents k n i ≡ i + position_or_len (λ x. x == k) (take n (drop i residents))
unfolding found_by
found-place residents k zero i l = omega arith
found-place residents k (suc n) i l =
    rw (drop-cons residents i 0 (omega arith)) (elim (case (eqb (key_by residents i) k)) [
      | on e ↦ rw e (sym (pick_yes _ refl (omega arith)))
      | off e ↦ rw e (sym (pick_no _ refl (let h : found_by residents k n (i + 1) ≡ i + 1 + position_or_len (λ x. x == k) (take n (drop (suc i) residents)) = rw (← add-one i) (found-place residents k n (i + 1) (omega arith)) in omega arith)))
    ])

module _ (residents : List ℕ) (k n : ℕ) (l : n ≤ length residents) where
  abbrev keys : List ℕ
  keys = take n residents

  abbrev place_of : ℕ
  place_of = position_or_len (λ x. x == k) keys

  found-there : found_by residents k n 0 ≡ place_of
  found-there = found-place residents k n 0 (omega arith) ∙ zero-add place_of

  few-keys : length keys ≡ n
  few-keys = omega (arith, length-take n residents)

  pub told-some : {f : ℕ} → position (λ x. x == k) keys ≡ Some f → (f < n) × (found_by residents k n 0 ≡ f)
  told-some {f} e =
      let h = cond_some (nat_lt place_of (length keys)) place_of f e in
      let below : place_of < length keys = ltb-true _ _ h.0 in
      (omega (arith, h.1, few-keys), found-there ∙ h.1)

  pub told-none : position (λ x. x == k) keys ≡ None → found_by residents k n 0 ≡ n
  told-none e = elim (dec_lt place_of (length keys)) [
    | yes h ↦ let t : Some place_of ≡ None = rw (lt-ltb place_of (length keys) h) at e in cc
    | no h ↦ let m : place_of ≤ length keys = prefix_len-le-length (λ x. not (x == k)) keys in omega (arith, found-there, few-keys)
  ]

module _ (s : State) (K : Kept s) {residents : List ℕ} {seen : Seen} (H : Handed s.pool s.frames residents seen) where
  in-range : {f : ℕ} → f < s.pool.count → f < most_frames
  in-range l = omega (arith, K.sized.most)

  holds-used : (f : ℕ) → f < s.pool.count → holds_page residents f ≡ is_used (record_at s.pool.records f)
  unfolding occupied
  holds-used f l = holds-page s K.sized.most K.stores.some K.agreed residents H.held f (in-range l) ∙ sym (and_yes (lt-ltb f s.pool.count l) refl)

  -- ---- the frame that holds a page

  same_key : (f : ℕ) → f < s.pool.count → key_by residents f ≡ key_of (store_in s.pool.records f) (page_in s.pool.records f)
  same_key f l = H.held.right f (in-range l)

  empty-key : (f : ℕ) → f < s.pool.count → is_used (record_at s.pool.records f) ≡ false → key_by residents f ≡ 0
  unfolding holds_page
  empty-key f l u = eqb-true _ 0 (not-false _ (or-none (eqb f 0) _ (holds-used f l ∙ u)).1)

  module _ (t q : ℕ) (below : q < s.pool.pages) where
    abbrev place : ℕ
    place = store_place s.pool.pages t q

    -- keys are compared as places are
    same_place : (f : ℕ) → f < s.pool.count → eqb (key_by residents f) (key_of t q) ≡ eqb (place_in s.pool.pages s.pool.records f) place
    same_place f l = ap (λ (k : ℕ). eqb k (key_of t q)) (same_key f l)
        ∙ key-place s.pool.pages (store_in s.pool.records f) (page_in s.pool.records f) t q K.sized.pages (K.agreed.in_range f (in-range l)).page below

    -- an empty frame's entry is 0, which is the key of store 0's root too
    same_test : key_of t q ≢ 0 → (f : ℕ) → f < s.pool.count → eqb (key_by residents f) (key_of t q) ≡ (is_used (record_at s.pool.records f) and eqb (place_in s.pool.pages s.pool.records f) place)
    same_test z f l = elim (case (is_used (record_at s.pool.records f))) [
      | on u ↦ and_yes u (same_place f l)
      | off u ↦ ne_eqb _ (key_of t q) (λ e. z (sym e ∙ empty-key f l u)) ∙ and_no _ u
    ]

    found-from : key_of t q ≢ 0 → (n i : ℕ) → i + n ≤ s.pool.count → found_by residents (key_of t q) n i ≡ found_from s.pool.pages s.pool.records place n i
    unfolding found_by found_from
    found-from z zero i l = refl
    found-from z (suc n) i l = rw (same_test z i (omega arith), found-from z n (i + 1) (omega arith))

    -- that one is in the frame that is looked at first
    root-found : key_of t q ≡ 0 → (n : ℕ) → 0 < n → n ≤ s.pool.count → found_by residents (key_of t q) n 0 ≡ found_from s.pool.pages s.pool.records place n 0
    unfolding found_by found_from
    root-found z zero p l = absurd (omega arith)
    root-found z (suc n) p l =
        let A = K.agreed in
        let e : key_by residents 0 ≡ key_of t q = same_key 0 (omega arith) ∙ rw (A.root_store 0 K.stores.some, A.root_page 0 K.stores.some) (sym z) in
        let k : eqb (key_by residents 0) (key_of t q) ≡ true = eq-eqb _ _ e in
        sym (pick_yes _ k refl) ∙ pick_yes _ (both _ _ (occupied-used s.pool 0 (A.root 0 K.stores.some)) (sym (same_place 0 (omega arith)) ∙ k)) refl

    pub found-by : found_by residents (key_of t q) s.pool.count 0 ≡ found_in s.pool t q
    found-by = elim (ℕ_discrete (key_of t q) 0) [
      | yes z ↦ root-found z s.pool.count (omega (arith, K.sized.least)) (omega arith)
      | no z ↦ found-from z s.pool.count 0 (omega arith)
    ]

  -- ---- the first empty frame

  empty-from : (n h : ℕ) → h < s.pool.count → empty_by residents s.pool.count n h ≡ empty_from s.pool.records s.pool.count n h
  unfolding empty_by empty_from
  empty-from zero h l = refl
  empty-from (suc n) h l = rw (holds-used h l, empty-from n (after s.pool.count h) (after-in _ h l))

  pub empty-by : empty_by residents s.pool.count s.pool.count s.pool.hand.0 ≡ first_empty s.pool
  empty-by = empty-from s.pool.count s.pool.hand.0 K.agreed.hand

  pub told-empty : (r : Option FrameIndex) → Told s.pool.count (empty_by residents s.pool.count s.pool.count s.pool.hand.0) r → Told s.pool.count (first_empty s.pool) r
  told-empty r h = subst (λ (x : ℕ). Told s.pool.count x r) empty-by h

-- ---- a page looked up after rules 1, 2, 28 and 6: n is the refusal by them, and F the count that the frames' length gives

module _ (s : State) (t : ℕ) (q : PageNumber) {residents : List ℕ} {seen : Seen} {n F : ℕ} (e : (n ≡ first_broken (page_rules s t q)) × (n ≡ 0 → Handed s.pool s.frames residents seen)) (z : n ≡ 0) (c : F ≡ length s.frames / page_size) where
  page-rules : PageKept s t q
  page-rules = page-kept s t q (sym e.0 ∙ z)

  pub kept : Kept s
  kept = page-rules.kept

  pub counted-frames : F ≡ s.pool.count
  counted-frames = let k = kept.sized in omega arith

  pub few-frames : F ≤ most_frames
  few-frames = let k = kept.sized in omega (arith, counted-frames)

  -- what a search asks
  pub sought-fits : (F ≤ most_frames) × (t < most_stores) × (q.0 < most_pages)
  sought-fits = (few-frames, omega (arith, page-rules.store, kept.stores.most), omega (arith, page-rules.below, kept.sized.pages))

  pub at-found : {f : ℕ} → f ≡ found_by residents (key_of t q.0) F 0 → f ≡ found_in s.pool t q.0
  at-found i = i ∙ ap (λ (m : ℕ). found_by residents (key_of t q.0) m 0) counted-frames ∙ found-by s kept (e.1 z) t q.0 page-rules.below

  pub told-found : (r : Option FrameIndex) → Told F (found_by residents (key_of t q.0) F 0) r → Told s.pool.count (found_in s.pool t q.0) r
  told-found r h = subst (λ (m : ℕ). Told m (found_in s.pool t q.0) r) counted-frames (subst (λ (x : ℕ). Told F x r) (at-found refl) h)
