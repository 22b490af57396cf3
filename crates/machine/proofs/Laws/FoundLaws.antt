-- What `found` gives: an occupied frame that holds the page, or F where none does. Assumes nothing.
use Rattle.std.specs.Prelude.{ℕ, zero, suc, ◌+◌, ◌<◌, ◌≤◌, ◌≡◌, refl, ◌≢◌, Bool, true, false, List, eqb}
use Rattle.std.proofs.Common.{sym, ◌∙◌, arith, eq-eqb, eqb-true}
use Rattle.std.proofs.Math.Decide.{dec_lt, ℕ_discrete}
use Rattle.page.specs.StorePlaces.{store_place}
use Rattle.page.proofs.StorePlaceLaws.{place-inj}
use Rattle.machine.specs.declared.FrameRecord.{FrameRecord}
use Rattle.machine.specs.declared.Pool.{Pool}
use Rattle.rules.specs.Tests.{◌and◌}
use Rattle.rules.specs.TestLaws.{clash, case, on, off, both, and_left, and_right, pick_yes, pick_no}
use Rattle.machine.specs.Machine.{is_used, record_at, page_in, store_in, place_in, occupied, found_from, found, found_in}
use Rattle.machine.proofs.Laws.AgreementFacts.{occupied-lt, occupied-used, make-occupied, Agreed}

-- ---- among n frames from i on

abbrev holds : ℕ → List FrameRecord → ℕ → ℕ → Bool
holds N rs q g = is_used (record_at rs g) and eqb (place_in N rs g) q

-- frame x is the first of them that holds the page at place q, or x is the frame after them and none does
data Search (N : ℕ) (rs : List FrameRecord) (q n i x : ℕ) : Type 0 where
  hit : i ≤ x → x < i + n → holds N rs q x ≡ true → Search N rs q n i x
  miss : x ≡ i + n → ((g : ℕ) → i ≤ g → g < i + n → holds N rs q g ≡ false) → Search N rs q n i x

search-from : (N : ℕ) (rs : List FrameRecord) (q n i : ℕ) → Search N rs q n i (found_from N rs q n i)
unfolding found_from
search-from N rs q zero i = miss (omega arith) (λ g l h. absurd (omega arith))
search-from N rs q (suc n) i = elim (case (holds N rs q i)) [
  | on e ↦ rw (← pick_yes {x = i} (found_from N rs q n (i + 1)) e refl) (hit (omega arith) (omega arith) e)
  | off e ↦ rw (← pick_no {x = found_from N rs q n (i + 1)} i e refl) (elim (search-from N rs q n (i + 1)) [
    | hit l h t ↦ hit (omega arith) (omega arith) t
    | miss a t ↦ miss (omega arith) (λ g l h. elim (ℕ_discrete g i) [ yes z ↦ rw z e | no z ↦ t g (omega arith) (omega arith) ])
  ])
]

-- ---- in a pool

module _ (p : Pool) (q : ℕ) where
  pub found-le : found p q ≤ p.count
  found-le = elim (search-from p.pages p.records q p.count 0) [ hit l h t ↦ omega arith | miss a t ↦ omega arith ]

  -- a frame that is found is occupied and holds the page
  pub found-holds : found p q < p.count → (occupied p (found p q) ≡ true) × (place_in p.pages p.records (found p q) ≡ q)
  found-holds l = elim (search-from p.pages p.records q p.count 0) [
    | hit a b t ↦ (make-occupied p (found p q) l (and_left _ _ t), eqb-true _ q (and_right (is_used (record_at p.records (found p q))) _ t))
    | miss a t ↦ absurd (omega arith)
  ]

  -- where an occupied frame holds the page, one is found
  pub holds-found : (f : ℕ) → occupied p f ≡ true → place_in p.pages p.records f ≡ q → found p q < p.count
  holds-found f o e = elim (search-from p.pages p.records q p.count 0) [
    | hit a b t ↦ omega arith
    | miss a t ↦ absurd (clash (sym (both _ _ (occupied-used p f o) (eq-eqb _ q e)) ∙ t f (omega arith) (omega (arith, occupied-lt p f o))))
  ]

  -- where none is found, no occupied frame holds the page
  pub found_none : p.count ≤ found p q → (f : ℕ) → occupied p f ≡ true → place_in p.pages p.records f ≢ q
  found_none l f o e = let h : found p q < p.count = holds-found f o e in omega arith

  pub none_found : ((f : ℕ) → occupied p f ≡ true → place_in p.pages p.records f ≢ q) → found p q ≡ p.count
  none_found t = elim (dec_lt (found p q) p.count) [
    | yes l ↦ let h = found-holds l in absurd (t (found p q) h.0 h.1)
    | no l ↦ let h : found p q ≤ p.count = found-le in omega arith
  ]

-- where records and frames agree, the frame that holds a page is the one that is found
pub found-is : (p : Pool) (fs : List ℕ) → Agreed p fs → (f : ℕ) → occupied p f ≡ true → found p (place_in p.pages p.records f) ≡ f
found-is p fs A f o =
    let q : ℕ = place_in p.pages p.records f in
    let h = found-holds p q (holds-found p q f o refl) in
    A.apart (found p q) f h.0 o h.1

-- where pages are below N, the frame that is found holds page q of store t by its record
pub found-records : (p : Pool) (t q : ℕ) → ((f : ℕ) → occupied p f ≡ true → page_in p.records f < p.pages) → q < p.pages → found_in p t q < p.count
    → (occupied p (found_in p t q) ≡ true) × (store_in p.records (found_in p t q) ≡ t) × (page_in p.records (found_in p t q) ≡ q)
found-records p t q ranged below l =
    let h = found-holds p (store_place p.pages t q) l in
    let e = place-inj p.pages _ _ t q (ranged _ h.0) below h.1 in
    (h.0, e.0, e.1)
