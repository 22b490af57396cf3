-- A page sought in the directory, by the table that rule 2's pass hands on: what find and peek answer by it. Assumes nothing.
use Rattle.std.specs.Prelude.{ℕ, ◌+◌, ◌/◌, ◌<◌, ◌≤◌, ◌≡◌, refl, true, false, List, Option, Some, None, ltb, length}
use Rattle.std.proofs.Common.{sym, ◌∙◌, ap, arith, lt-ltb, le-ltb}
use Rattle.page.specs.declared.PageNumber.{PageNumber}
use Rattle.page.specs.declared.FrameIndex.{FrameIndex}
use Rattle.page.specs.Figures.{page_size, payload_size, most_frames, most_pages, most_stores}
use Rattle.page.specs.Page.{payload_at}
use Rattle.page.specs.StorePlaces.{store_place}
use Rattle.rules.specs.Tests.{pick, first_broken}
use Rattle.rules.specs.TestLaws.{pick_yes, pick_no}
use Rattle.machine.specs.Machine.{State, place_in}
use Rattle.chains.specs.Chain.{bucket_of, Sought, seek_in, sought_in}
use Rattle.machine.specs.Answers.{payload, in_frames, in_store, frame, nowhere, found_at}
use Rattle.machine.specs.Calls.{page_rules, sought, payload_place, peek_call, found_answer, find_call}
use Rattle.chains.proofs.ChainLaws.{seek-compared}
use Rattle.chains.proofs.ChainFacts.{bucket-few, bucket-chain}
use Rattle.chains.specs.Links.{Bucket}
use Rattle.machine.proofs.Laws.DirectoryFacts.{home_of, home-framed, bucket-lt}
use Rattle.machine.proofs.Laws.Ready.{Kept}
use Rattle.machine.proofs.Laws.RuleLaws.{PageKept, page-kept, answer-yes, accepted-answer}
use Rattle.seen.specs.Seen.{Seen}
use Rattle.residents.specs.Residents.{key_of, key_by}
use Rattle.residents.specs.Handed.{Handed}
use Rattle.directory.specs.declared.Sought.{Sought as Found}
use Rattle.directory.specs.Homes.{Followed, followed, sought_as, sought-by, found-below}

-- where rules 1 and 2 are kept, no more entries are compared than there are frames
compared-most : (s : State) → Kept s → (t q : ℕ) → (sought s t q).compared ≤ most_frames
compared-most s K t q =
    let home = home_of s.pool in
    let framed = home-framed s.pool K.sized.most in
    let B : Bucket home s.directory (bucket_of q) = K.chained.at (bucket_of q) (bucket-lt q) in
    let few : length B.chain ≤ most_frames = bucket-few home framed s.directory (bucket_of q) (bucket-lt q) B in
    let place = place_in s.pool.pages s.pool.records in
    let p : ℕ = store_place s.pool.pages t q in
    let a : (seek_in place s.pool.count p 0 B.chain).compared ≤ 0 + length B.chain = seek-compared place s.pool.count p 0 B.chain in
    rw (bucket-chain home framed s.directory (bucket_of q) (bucket-lt q) B) (omega arith)

-- the rules of the page are kept
module _ (s : State) (t : ℕ) (q : PageNumber) {residents : List ℕ} {seen : Seen} (e : (0 ≡ first_broken (page_rules s t q)) × (◌≡◌ {A = ℕ} 0 0 → Handed s.pool s.frames residents seen)) where
  passed : PageKept s t q
  passed = page-kept s t q (sym e.0)

  kept : Kept s
  kept = passed.kept

  -- what the search, and the page's place, ask for
  pub seekable : Followed s.directory × (t < most_stores) × (q.0 < most_pages)
  seekable = (followed s kept, omega (arith, passed.store, kept.stores.most), omega (arith, passed.below, kept.sized.pages))

  pub placeable : (t < most_stores) × (q.0 < most_pages) × (s.pool.pages ≤ most_pages)
  placeable = (seekable.1, seekable.2, kept.sized.pages)

  -- r is what the search gave
  module _ (r : Found) (i : (F : ℕ) → sought_as F r ≡ sought_in (key_by residents) F s.directory (bucket_of q.0) (key_of t q.0)) where
    here : sought_as s.pool.count r ≡ sought s t q.0
    here = i s.pool.count ∙ sought-by s kept residents (e.1 refl).held t q.0 passed.below

    -- a value by the frame that is found
    in-frame : {A : Type 0} {f : FrameIndex} (x : Sought → A) (y : A) → r.frame ≡ Some f → x (record { frame = f.0; compared = r.compared }) ≡ pick (ltb (sought s t q.0).frame s.pool.count) (x (sought s t q.0)) y
    in-frame {A} {f} x y o =
        let l : f.0 < s.pool.count = found-below s kept residents (e.1 refl).held t q.0 passed.below i o in
        let h : ◌≡◌ {A = Sought} (record { frame = f.0; compared = r.compared }) (sought s t q.0) = rw o at here in
        rw (← h) (pick_yes y (lt-ltb f.0 s.pool.count l) refl)

    in-none : {A : Type 0} (x : A) (y : Sought → A) → r.frame ≡ None → y (record { frame = s.pool.count; compared = r.compared }) ≡ pick (ltb (sought s t q.0).frame s.pool.count) x (y (sought s t q.0))
    in-none x y o =
        let h : ◌≡◌ {A = Sought} (record { frame = s.pool.count; compared = r.compared }) (sought s t q.0) = rw o at here in
        rw (← h) (pick_no x (le-ltb s.pool.count s.pool.count (omega arith)) refl)

    by-frame : (o : Option FrameIndex) → r.frame ≡ o → found_at o r.compared ≡ found_answer s t q.0
    unfolding found_answer
    by-frame (Some f) o = in-frame (λ (a : Sought). frame a.frame a.compared) (nowhere _) o
    by-frame None o = in-none (frame _ _) (λ (a : Sought). nowhere a.compared) o

    pub find-answers : found_at r.frame r.compared ≡ (find_call s t q).answer
    unfolding find_call
    find-answers = accepted-answer s _ s e.0 (by-frame r.frame refl)

    pub peek-in-frame : {f : FrameIndex} → r.frame ≡ Some f → payload in_frames (payload_at f.0) payload_size ≡ (peek_call s t q).answer
    unfolding peek_call payload_place
    peek-in-frame o = accepted-answer s _ s e.0 (in-frame (λ (a : Sought). payload in_frames (payload_at a.frame) payload_size) _ o)

    pub peek-in-store : {p : ℕ} → p ≡ store_place s.pool.pages t q.0 → r.frame ≡ None → payload in_store (payload_at p) payload_size ≡ (peek_call s t q).answer
    unfolding peek_call payload_place
    peek-in-store j o = accepted-answer s _ s e.0 (rw j (in-none _ (λ (a : Sought). payload in_store (payload_at (store_place s.pool.pages t q.0)) payload_size) o))

-- the same by numbers: n is the refusal by the rules of a page, and F the count that the frames' length gives
module _ (s : State) (t : ℕ) (q : PageNumber) {residents : List ℕ} {seen : Seen} {n F : ℕ} (e : (n ≡ first_broken (page_rules s t q)) × (n ≡ 0 → Handed s.pool s.frames residents seen)) (z : n ≡ 0) (c : F ≡ length s.frames / page_size) where
  with-rules : (0 ≡ first_broken (page_rules s t q)) × (◌≡◌ {A = ℕ} 0 0 → Handed s.pool s.frames residents seen)
  with-rules = (sym z ∙ e.0, λ y. e.1 z)

  all-frames : F ≡ s.pool.count
  all-frames = let k = (kept s t q with-rules).sized in omega arith

  few-stores : t < most_stores
  few-stores = (seekable s t q with-rules).1

  few-pages : q.0 < most_pages
  few-pages = (seekable s t q with-rules).2

  -- a is what the search gave
  module _ {a : Sought} (i : a ≡ sought_in (key_by residents) F s.directory (bucket_of q.0) (key_of t q.0)) where
    found-here : a ≡ sought s t q.0
    found-here = i ∙ ap (λ (m : ℕ). sought_in (key_by residents) m s.directory (bucket_of q.0) (key_of t q.0)) all-frames ∙ sought-by s (kept s t q with-rules) residents (e.1 z).held t q.0 (passed s t q with-rules).below

    pub compared-few : a.compared ≤ most_frames
    compared-few = rw found-here (compared-most s (kept s t q with-rules) t q.0)

    module _ (l : a.frame < F) where
      pub frame-few : a.frame < most_frames
      frame-few = omega (arith, all-frames, (kept s t q with-rules).sized.most)

      resident : ltb (sought s t q.0).frame s.pool.count ≡ true
      resident = rw (← found-here) (lt-ltb a.frame _ (omega (arith, all-frames)))

      pub find_at : frame a.frame a.compared ≡ (find_call s t q).answer
      unfolding find_call found_answer
      find_at = answer-yes s _ s e.0 z (pick_yes _ resident (ap (λ (b : Sought). frame b.frame b.compared) found-here))

    module _ (l : F ≤ a.frame) where
      absent : ltb (sought s t q.0).frame s.pool.count ≡ false
      absent = rw (← found-here) (le-ltb a.frame _ (omega (arith, all-frames)))

      pub find_absent : nowhere a.compared ≡ (find_call s t q).answer
      unfolding find_call found_answer
      find_absent = answer-yes s _ s e.0 z (pick_no _ absent (ap (λ (b : Sought). nowhere b.compared) found-here))
