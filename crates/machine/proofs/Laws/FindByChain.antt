-- Request A.3, "A directory of resident pages": find and peek, which go by the directory, against the frames. Assumes nothing.
use Prim.Native.Nat.{ℕ, ◌<◌, ◌≤◌}
use Rattle.std.specs.Prelude.{◌≡◌, ◌≢◌, true, ltb, length}
use Rattle.std.proofs.Math.Path.{refl, sym}
use Rattle.std.proofs.Common.{◌∙◌, ap, arith}
use mathlib.Core.List.{◌∷◌, []}
use Rattle.std.proofs.Math.Decide.{ℕ_discrete}
use borrow.Author.Tests.{lt-ltb, ltb-true, ltb-false}
use Rattle.page.specs.declared.PageNumber.{PageNumber}
use Rattle.page.specs.Figures.{payload_size}
use Rattle.page.specs.Page.{payload_at}
use Rattle.page.specs.StorePlaces.{store_place}
use Rattle.rules.specs.Tests.{first_broken}
use Rattle.rules.specs.TestLaws.{case, on, off, kept_then, pick_yes, pick_no}
use Rattle.machine.specs.Machine.{State, page_number, record_at, page_in, occupied, found_in}
use Rattle.chains.specs.Chain.{bucket_of, chain_of}
use Rattle.machine.specs.Directory.{residents_of}
use Rattle.machine.specs.Answers.{Answer, refused, frame, nowhere, payload, in_frames, in_store, out}
use Rattle.machine.specs.Rules.{rule6, rule28}
use Rattle.machine.specs.Calls.{decide, pool_rules, page_rules, sought, payload_place, peek_call, found_answer, find_call}
use Rattle.machine.specs.ByChain.{without_count, find_by_frames, peek_by_frames, compared_in, Recorded, Unrecorded, StandsAt, ByChain, AsByFrames}
use Rattle.machine.proofs.Laws.AgreementFacts.{InRange, occupied-lt}
use Rattle.machine.proofs.Laws.FoundLaws.{found-records, found_none}
use Rattle.machine.proofs.Laws.DirectoryFacts.{sought-found, sought-few, sought-place, sought-whole}
use Rattle.machine.proofs.Laws.Ready.{Kept, rules-kept}
use Rattle.machine.proofs.Laws.RuleLaws.{PageKept, page-kept, pool-passes, decide-yes}
use Rattle.machine.proofs.Laws.Outcomes.{refused-by, answers-as, leaves-as, refused-no-frame, refused-no-absence, absent-no-frame, one_found, one-absence}

page-ranged : (s : State) → Kept s → (f : ℕ) → occupied s.pool f ≡ true → page_in s.pool.records f < s.pool.pages
page-ranged s K f o = (K.agreed.in_range f (omega (arith, occupied-lt s.pool f o, K.sized.most))).page

-- ---- what find answers and leaves by the directory and by the frames, and peek by the directory: both finds are refused; a frame holds the page; none does

data Told (s : State) (t : ℕ) (q : PageNumber) : Type 0 where
  denied : (n : ℕ) → first_broken (page_rules s t q) ≢ 0 → find_call s t q ≡ out (refused n) s → find_by_frames s t q ≡ out (refused n) s → Told s t q
  here : (f : ℕ) → f ≡ found_in s.pool t q.0 → PageKept s t q → f < s.pool.count → Recorded s t q.0 f
      → find_call s t q ≡ out (frame f (sought s t q.0).compared) s → find_by_frames s t q ≡ out (frame f 0) s → peek_call s t q ≡ out (payload in_frames (payload_at f) payload_size) s → Told s t q
  missing : s.pool.count ≤ found_in s.pool t q.0 → PageKept s t q → Unrecorded s t q.0
      → find_call s t q ≡ out (nowhere (sought s t q.0).compared) s → find_by_frames s t q ≡ out (nowhere 0) s → peek_call s t q ≡ out (payload in_store (payload_at (store_place s.pool.pages t q.0)) payload_size) s → Told s t q

module _ (s : State) (t : ℕ) (q : PageNumber) where
  abbrev F : ℕ
  F = s.pool.count

  module _ (k : first_broken (page_rules s t q) ≡ 0) where
    in-N : (f : ℕ) → occupied s.pool f ≡ true → page_in s.pool.records f < s.pool.pages
    in-N = page-ranged s (page-kept s t q k).kept

    same-frame : (sought s t q.0).frame ≡ found_in s.pool t q.0
    same-frame = let K = page-kept s t q k in sought-found s.pool K.kept.sized.most s.directory K.kept.chained K.kept.agreed.apart t q.0 in-N K.below

    decided : {a b : Answer} → a ≡ b → decide s (page_rules s t q) (out b s) ≡ out a s
    decided e = sym (decide-yes s (page_rules s t q) (sym k) refl (ap (λ (a : Answer). out a s) e))

    by-frame : Told s t q
    unfolding find_call found_answer find_by_frames peek_call payload_place
    by-frame =
        let f : ℕ = found_in s.pool t q.0 in
        elim (case (ltb f F)) [
          | on y ↦
              let l : f < F = ltb-true f F y in
              let h = found-records s.pool t q.0 (λ g o. in-N g o) (page-kept s t q k).below l in
              here f refl (page-kept s t q k) l (record { at = h.0; store = h.1; page = h.2 })
              (decided (rw same-frame (pick_yes _ y refl))) (decided (pick_yes _ y refl)) (decided (rw same-frame (pick_yes _ y refl)))
          | off y ↦
              let l : F ≤ f = ltb-false f F y in
              missing l (page-kept s t q k) (λ g r. found_none s.pool (store_place s.pool.pages t q.0) l g r.at (rw (r.store, r.page) refl))
              (decided (rw same-frame (pick_no _ y refl))) (decided (pick_no _ y refl)) (decided (rw same-frame (pick_no _ y refl)))
        ]

    peeks-alike : peek_call s t q ≡ peek_by_frames s t q
    unfolding peek_call payload_place peek_by_frames
    peeks-alike = rw same-frame

  told : Told s t q
  unfolding find_call find_by_frames
  told = elim (ℕ_discrete (first_broken (page_rules s t q)) 0) [
    | yes k ↦ by-frame k
    | no z ↦ denied (first_broken (page_rules s t q)) z (refused-by s (page_rules s t q) _ _ z refl) (refused-by s (page_rules s t q) _ _ z refl)
  ]

  -- ---- on every state

  counts-apart : (a : Answer) → find_call s t q ≡ out a s → find_by_frames s t q ≡ out (without_count a) s → without_count (find_call s t q).answer ≡ (find_by_frames s t q).answer
  counts-apart a e o = ap without_count (answers-as e) ∙ sym (answers-as o)

  peeks-same : peek_call s t q ≡ peek_by_frames s t q
  unfolding peek_call peek_by_frames
  peeks-same = elim (ℕ_discrete (first_broken (page_rules s t q)) 0) [
    | yes k ↦ peeks-alike k
    | no z ↦ refused-by s (page_rules s t q) _ _ z refl ∙ sym (refused-by s (page_rules s t q) _ _ z refl)
  ]

  pub as-by-frames : AsByFrames s t q
  as-by-frames = record {
    finds = elim told [ denied n z e o ↦ counts-apart _ e o | here f i k l r e o y ↦ counts-apart _ e o | missing l k r e o y ↦ counts-apart _ e o ];
    left = elim told [ denied n z e o ↦ leaves-as e ∙ sym (leaves-as o) | here f i k l r e o y ↦ leaves-as e ∙ sym (leaves-as o) | missing l k r e o y ↦ leaves-as e ∙ sym (leaves-as o) ];
    peeks = peeks-same;
  }

-- ---- where rules 1 and 2 are kept

module _ (s : State) (k : first_broken (pool_rules s) ≡ 0) where
  abbrev asked : ℕ → ℕ → Answer
  asked t p = (find_call s t (page_number p)).answer

  -- rules 28 and 6 are left, which a page below N of a store below T keeps
  not-denied : (t p : ℕ) → t < s.pool.stores → p < s.pool.pages → first_broken (page_rules s t (page_number p)) ≡ 0
  unfolding first_broken
  not-denied t p m l = sym (pool-passes s (rule28 s t ∷ rule6 s p ∷ []) (sym k) refl (sym (kept_then 28 (rule6 s p ∷ []) (lt-ltb t s.pool.stores m) ∙ kept_then 6 [] (lt-ltb p s.pool.pages l))))

  recorded-range : (t p f : ℕ) → Recorded s t p f → InRange s.pool (record_at s.pool.records f)
  recorded-range t p f r = (rules-kept s k).agreed.in_range f (omega (arith, occupied-lt s.pool f r.at, (rules-kept s k).sized.most))

  below-T : (t p f : ℕ) → Recorded s t p f → t < s.pool.stores
  below-T t p f r = rw r.store at (recorded-range t p f r).store

  below-N : (t p f : ℕ) → Recorded s t p f → p < s.pool.pages
  below-N t p f r = rw r.page at (recorded-range t p f r).page

  same-held : (t p f g : ℕ) → Recorded s t p f → Recorded s t p g → f ≡ g
  same-held t p f g a b = (rules-kept s k).agreed.apart f g a.at b.at (rw (a.store, a.page, b.store, b.page) refl)

  gives-frame : (t p f compared : ℕ) → asked t p ≡ frame f compared → Recorded s t p f
  gives-frame t p f compared y = elim (told s t (page_number p)) [
    | denied n z e o ↦ absurd (refused-no-frame (sym (answers-as e) ∙ y))
    | here g i K l r e o u ↦ let j : g ≡ f = (one_found (sym (answers-as e) ∙ y)).0 in rw j at r
    | missing l K r e o u ↦ absurd (absent-no-frame (sym (answers-as e) ∙ y))
  ]

  frame-given : (t p f : ℕ) → Recorded s t p f → (compared : ℕ) × (asked t p ≡ frame f compared)
  frame-given t p f r = elim (told s t (page_number p)) [
    | denied n z e o ↦ absurd (z (not-denied t p (below-T t p f r) (below-N t p f r)))
    | here g i K l h e o u ↦ let j : g ≡ f = same-held t p g f h r in ((sought s t p).compared, answers-as e ∙ rw j)
    | missing l K n e o u ↦ absurd (n f r)
  ]

  gives_none : (t p compared : ℕ) → asked t p ≡ nowhere compared → (t < s.pool.stores) × (p < s.pool.pages) × Unrecorded s t p
  gives_none t p compared y = elim (told s t (page_number p)) [
    | denied n z e o ↦ absurd (refused-no-absence (sym (answers-as e) ∙ y))
    | here g i K l r e o u ↦ absurd (absent-no-frame (sym y ∙ answers-as e))
    | missing l K r e o u ↦ (K.store, K.below, r)
  ]

  none-given : (t p : ℕ) → t < s.pool.stores → p < s.pool.pages → Unrecorded s t p → (compared : ℕ) × (asked t p ≡ nowhere compared)
  none-given t p b l n = elim (told s t (page_number p)) [
    | denied m z e o ↦ absurd (z (not-denied t p b l))
    | here g i K j r e o u ↦ absurd (n g r)
    | missing j K r e o u ↦ ((sought s t p).compared, answers-as e)
  ]

  peeked-there : (t p f : ℕ) → Recorded s t p f → (peek_call s t (page_number p)).answer ≡ payload in_frames (payload_at f) payload_size
  peeked-there t p f r = elim (told s t (page_number p)) [
    | denied n z e o ↦ absurd (z (not-denied t p (below-T t p f r) (below-N t p f r)))
    | here g i K l h e o u ↦ let j : g ≡ f = same-held t p g f h r in rw (← j) (answers-as u)
    | missing l K n e o u ↦ absurd (n f r)
  ]

  peeked-stored : (t p : ℕ) → t < s.pool.stores → p < s.pool.pages → Unrecorded s t p → (peek_call s t (page_number p)).answer ≡ payload in_store (payload_at (store_place s.pool.pages t p)) payload_size
  peeked-stored t p b l n = elim (told s t (page_number p)) [
    | denied m z e o ↦ absurd (z (not-denied t p b l))
    | here g i K j r e o u ↦ absurd (n g r)
    | missing j K r e o u ↦ answers-as u
  ]

  -- ---- the count

  module _ (t p : ℕ) (K : Kept s) where
    abbrev compares : ℕ
    compares = (sought s t p).compared

    placed_at : p < s.pool.pages → found_in s.pool t p < s.pool.count → StandsAt (found_in s.pool t p) compares (chain_of s.directory (bucket_of p))
    placed_at b l = sought-place s.pool K.sized.most s.directory K.chained K.agreed.apart t p (page-ranged s K) b l

    whole-chain : s.pool.count ≤ found_in s.pool t p → compares ≡ length (chain_of s.directory (bucket_of p))
    whole-chain l = sought-whole s.pool K.sized.most s.directory K.chained K.agreed.apart t p l

    no_more : compares ≤ residents_of s.pool (bucket_of p)
    no_more = sought-few s.pool K.sized.most s.directory K.chained K.agreed.apart t p

  stands : (t p f compared : ℕ) → asked t p ≡ frame f compared → StandsAt f compared (chain_of s.directory (bucket_of p))
  stands t p f compared y = elim (told s t (page_number p)) [
    | denied n z e o ↦ absurd (refused-no-frame (sym (answers-as e) ∙ y))
    | here g i K l r e o u ↦
        let j = one_found (sym (answers-as e) ∙ y) in
        let a : StandsAt g (compares t p K.kept) (chain_of s.directory (bucket_of p)) = rw (← i) at (placed_at t p K.kept K.below (rw i at l)) in
        rw (j.0, j.1) at a
    | missing l K r e o u ↦ absurd (absent-no-frame (sym (answers-as e) ∙ y))
  ]

  all-compared : (t p compared : ℕ) → asked t p ≡ nowhere compared → compared ≡ length (chain_of s.directory (bucket_of p))
  all-compared t p compared y = elim (told s t (page_number p)) [
    | denied n z e o ↦ absurd (refused-no-absence (sym (answers-as e) ∙ y))
    | here g i K l r e o u ↦ absurd (absent-no-frame (sym y ∙ answers-as e))
    | missing l K r e o u ↦ sym (one-absence (sym (answers-as e) ∙ y)) ∙ whole-chain t p K.kept l
  ]

  few-compared : (t p : ℕ) → compared_in (asked t p) ≤ residents_of s.pool (bucket_of p)
  few-compared t p = elim (told s t (page_number p)) [
    | denied n z e o ↦ rw (answers-as e) (omega arith)
    | here g i K l r e o u ↦ rw (answers-as e) (no_more t p K.kept)
    | missing l K r e o u ↦ rw (answers-as e) (no_more t p K.kept)
  ]

  pub by_chain : ByChain s
  by_chain = record {
    found = λ t p f. (λ a. gives-frame t p f a.0 a.1, frame-given t p f);
    absent = λ t p. (λ a. gives_none t p a.0 a.1, λ a. none-given t p a.0 a.1 a.2);
    peeked_there = peeked-there;
    peeked_stored = peeked-stored;
    place = stands;
    whole = all-compared;
    few = few-compared;
  }
