-- The rules of add as the code tests them, and what add, the share and the report then answer. Assumes nothing.
use Rattle.std.specs.Prelude.{ℕ, ◌+◌, ◌*◌, ◌<◌, ◌≤◌, min, max, ◌≡◌, Bool, true, false, List, [], ◌∷◌, leb, ltb, length, get_or, drop}
use Rattle.std.proofs.Common.{refl, sym, ap, ◌∙◌, drop-cons, add-one, arith, eq-eqb, ne_eqb, le-leb}
use Rattle.std.specs.List.{fold}
use Rattle.std.proofs.Math.Seq.{drop-length}
use Rattle.std.proofs.Math.Decide.{dec_lt}
use Rattle.std.proofs.lemmas.Bool.{lt-leb}
use Rattle.rules.specs.Tests.{◌and◌, first_broken}
use Rattle.rules.specs.TestLaws.{and_yes, and_no, and-true, both, kept_then, broken-here, none-broken, verdict-no, verdict-yes}
use Rattle.depths.specs.declared.Tally.{Tally}
use Rattle.depths.specs.declared.Share.{Share}
use Rattle.depths.specs.Depths.{depths}
use Rattle.depths.specs.Tallying.{most_references, depth_count, last_page, most_recordings, all_counted, total, within, counters_fit, length_fits, is_room_left, sizes_fit, tally_fits, pages_fit, add_rules, Left, nothing_added, recording_added, add_out, no_share, share_out, Reported, hits_of_all, not_reported, report_out}
use Rattle.depths.proofs.TallyLaws.{within-whole, counter-le}
use Rattle.depths.proofs.AddLaws.{add_kept, AddKept, TallyKept, LengthKept, counters-are, counters-fit, page-kept-at}
use Rattle.depths.proofs.Exact.{add-accepts, add-refuses}
use Rattle.counting.specs.Passing.{CanCount}

-- ---- rule 1

module _ (t : Tally) (c ps : List ℕ) where
  pub other-counters : (length c ≡ depth_count → ⊥) → false ≡ sizes_fit t c ps
  unfolding sizes_fit counters_fit
  other-counters n = and_no _ (ne_eqb (length c) depth_count n)

  pub too_short : length c ≡ depth_count → length ps < 1 → false ≡ sizes_fit t c ps
  unfolding sizes_fit length_fits
  too_short e l = and_yes (counters-fit c e) (and_no (is_room_left t) (sym (and_no _ (lt-leb 1 (length ps) l))))

  pub too_long : length c ≡ depth_count → 1 ≤ length ps → most_references < length ps → false ≡ sizes_fit t c ps
  unfolding sizes_fit length_fits
  too_long e s l = and_yes (counters-fit c e) (and_no (is_room_left t) (sym (and_yes (le-leb 1 (length ps) s) (sym (lt-leb (length ps) most_references l)))))

  pub room-decides : length c ≡ depth_count → 1 ≤ length ps → length ps ≤ most_references → ltb t.recordings most_recordings ≡ sizes_fit t c ps
  unfolding sizes_fit length_fits is_room_left
  room-decides e s l = and_yes (counters-fit c e) (and_yes (both _ _ (le-leb 1 (length ps) s) (le-leb (length ps) most_references l)) refl)

  pub sizes-counters : sizes_fit t c ps ≡ true → length c ≡ depth_count
  unfolding sizes_fit
  sizes-counters a = counters-are c (and-true (counters_fit c) _ a).0

-- ---- rule 2

module _ (t : Tally) (c : List ℕ) where
  pub too_many : most_references * t.recordings < t.references → false ≡ tally_fits t c
  unfolding tally_fits
  too_many l = and_no _ (lt-leb t.references (most_references * t.recordings) l)

  pub sum-decides : (x : ℕ) → length c ≡ depth_count → t.references ≤ most_references * t.recordings → x ≡ within depth_count c → leb x t.references ≡ tally_fits t c
  unfolding tally_fits
  sum-decides x e l s = and_yes (le-leb t.references (most_references * t.recordings) l) (ap (λ (n : ℕ). leb n t.references) (s ∙ within-whole depth_count c (omega arith)))

-- ---- rule 6: the largest page decides

-- of the first i pages, the largest is known
pub record LargestOf (ps : List ℕ) (largest i : ℕ) : Type 0 where
  pub low : largest ≤ last_page → pages_fit ps ≡ pages_fit (drop i ps)
  pub high : last_page < largest → pages_fit ps ≡ false

pub largest-start : (ps : List ℕ) → LargestOf ps 0 0
largest-start ps = record { low = λ l. refl; high = λ l. absurd (omega arith) }

module _ {ps : List ℕ} {largest i : ℕ} (p : LargestOf ps largest i) (l : i < length ps) where
  page-here : pages_fit (drop i ps) ≡ (leb (get_or ps i 0) last_page and pages_fit (drop (i + 1) ps))
  unfolding pages_fit
  page-here = rw (drop-cons ps i 0 l, add-one i)

  pub largest-goes : (x : ℕ) → x ≡ max largest (get_or ps i 0) → LargestOf ps x (i + 1)
  largest-goes x e = record {
    low = λ k. p.low (omega arith) ∙ page-here ∙ sym (and_yes (le-leb (get_or ps i 0) last_page (omega arith)) refl);
    high = λ k. elim (dec_lt last_page largest) [
      | yes h ↦ p.high h
      | no h ↦ p.low (omega arith) ∙ page-here ∙ sym (and_no (pages_fit (drop (i + 1) ps)) (lt-leb (get_or ps i 0) last_page (omega arith)))
    ];
  }

pub largest-all : {ps : List ℕ} {largest i : ℕ} → LargestOf ps largest i → i ≡ length ps → leb largest last_page ≡ pages_fit ps
unfolding pages_fit
largest-all {ps} {largest} {i} p e = elim (dec_lt last_page largest) [
  | yes h ↦ lt-leb largest last_page h ∙ sym (p.high h)
  | no h ↦ le-leb largest last_page (omega arith) ∙ sym (p.low (omega arith) ∙ (rw (e, drop-length)))
]

larger-decides : (p q : ℕ) (b : Bool) → (leb (max p q) last_page and b) ≡ (leb p last_page and (leb q last_page and b))
unfolding ◌and◌
larger-decides p q b = elim (dec_lt last_page p) [
  | yes h ↦ rw (lt-leb p last_page h, lt-leb (max p q) last_page (omega arith))
  | no h ↦ elim (dec_lt last_page q) [
    | yes k ↦ rw (le-leb p last_page (omega arith), lt-leb q last_page k, lt-leb (max p q) last_page (omega arith))
    | no k ↦ rw (le-leb p last_page (omega arith), le-leb q last_page (omega arith), le-leb (max p q) last_page (omega arith))
  ]
]

largest-with : (p : ℕ) (ps : List ℕ) → leb (fold max p ps) last_page ≡ (leb p last_page and pages_fit ps)
unfolding pages_fit
largest-with p [] = elim (dec_lt last_page p) [
  | yes h ↦ lt-leb p last_page h ∙ and_no true (lt-leb p last_page h)
  | no h ↦ le-leb p last_page (omega arith) ∙ and_yes (le-leb p last_page (omega arith)) refl
]
largest-with p (q ∷ ps) = largest-with (max p q) ps ∙ larger-decides p q (pages_fit ps)

pub largest-decides : (ps : List ℕ) → leb (fold max 0 ps) last_page ≡ pages_fit ps
largest-decides ps = largest-with 0 ps ∙ sym (and_yes (le-leb 0 last_page (omega arith)) refl)

-- ---- the first broken rule

module _ (t : Tally) (c ps : List ℕ) where
  pub broken-1 : sizes_fit t c ps ≡ false → 1 ≡ first_broken (add_rules t c ps)
  unfolding add_rules
  broken-1 a = sym (broken-here 1 _ a)

  pub broken-2 : sizes_fit t c ps ≡ true → tally_fits t c ≡ false → 2 ≡ first_broken (add_rules t c ps)
  unfolding add_rules
  broken-2 a b = sym (kept_then 1 _ a ∙ broken-here 2 _ b)

  pub broken-6 : sizes_fit t c ps ≡ true → tally_fits t c ≡ true → pages_fit ps ≡ false → 6 ≡ first_broken (add_rules t c ps)
  unfolding add_rules
  broken-6 a b d = sym (kept_then 1 _ a ∙ kept_then 2 _ b ∙ broken-here 6 [] d)

  pub broken-none : sizes_fit t c ps ≡ true → tally_fits t c ≡ true → pages_fit ps ≡ true → 0 ≡ first_broken (add_rules t c ps)
  unfolding add_rules
  broken-none a b d = sym (kept_then 1 _ a ∙ kept_then 2 _ b ∙ kept_then 6 [] d ∙ none-broken)

  -- what a recording that breaks none keeps
  pub add-accepted : (n : ℕ) → n ≡ first_broken (add_rules t c ps) → n ≡ 0 → AddKept t c ps
  add-accepted n e z = add_kept t c ps (sym e ∙ z)

  -- what counting asks
  pub can-count : AddKept t c ps → CanCount c ps
  can-count k =
      let low : TallyKept t c = k.tally in
      let a : t.references ≤ most_references * t.recordings = low.bounded in
      let b : total c ≤ t.references = low.counts in
      let r : t.recordings < most_recordings = k.room in
      let f : LengthKept ps = k.fits in
      record {
        size = k.counters;
        room = λ j. (let d = counter-le c j in omega arith);
        most = f.most;
        pages = record { small = λ j l. (let d = page-kept-at ps k.pages j l in omega arith) };
      }

  -- ---- what the calls answer and leave

  pub add-refused : (n : ℕ) → n ≡ first_broken (add_rules t c ps) → (n ≡ 0 → ⊥) → ◌≡◌ {A = Left} (record { added = record { refusal = n; tally = t }; counts = c }) (add_out t c ps)
  unfolding nothing_added
  add-refused n e z = rw e (sym (add-refuses t c ps (λ w. z (e ∙ w))))

  pub add_done : (n : ℕ) (c' : List ℕ) → n ≡ first_broken (add_rules t c ps) → n ≡ 0 → c' ≡ all_counted c (depths ps)
      → ◌≡◌ {A = Left} (record { added = record { refusal = 0; tally = record { recordings = t.recordings + 1; references = t.references + length ps } }; counts = c' }) (add_out t c ps)
  unfolding recording_added
  add_done n c' e z g = rw g (sym (add-accepts t c ps (sym e ∙ z)))

module _ (t : Tally) (c : List ℕ) (f : ℕ) where
  pub share-refused : (length c ≡ depth_count → ⊥) → ◌≡◌ {A = Share} (record { refusal = 1; within = 0; all = 0 }) (share_out t c f)
  unfolding share_out counters_fit no_share
  share-refused n = verdict-no no_share _ (sym (broken-here 1 [] (ne_eqb (length c) depth_count n))) (λ z. omega arith)

  share-sum : (n x : ℕ) → n ≡ min f depth_count → length c ≡ depth_count → x ≡ within n c → x ≡ within f c
  share-sum n x e s g = elim (dec_lt f depth_count) [
    | yes l ↦ let m : n ≡ f = omega arith in g ∙ ap (λ (k : ℕ). within k c) m
    | no l ↦ let m : n ≡ depth_count = omega arith in g ∙ ap (λ (k : ℕ). within k c) m ∙ within-whole depth_count c (omega arith) ∙ sym (within-whole f c (omega arith))
  ]

  pub share-done : (n x : ℕ) → length c ≡ depth_count → n ≡ min f depth_count → x ≡ within n c → ◌≡◌ {A = Share} (record { refusal = 0; within = x; all = t.references }) (share_out t c f)
  unfolding share_out counters_fit
  share-done n x s e g = rw (share-sum n x e s g) (verdict-yes {n = 0} no_share (sym (kept_then 1 [] (eq-eqb (length c) depth_count s) ∙ none-broken)) refl refl)

module _ (c hs : List ℕ) where
  pub report-counters : (length c ≡ depth_count → ⊥) → ◌≡◌ {A = Reported} (record { refusal = 1; hits = hs }) (report_out c hs)
  unfolding report_out counters_fit not_reported
  report-counters n = verdict-no (not_reported hs) _ (sym (broken-here 1 [] (sym (and_no _ (ne_eqb (length c) depth_count n))))) (λ z. omega arith)

  pub report-hits : length c ≡ depth_count → (length hs ≡ depth_count → ⊥) → ◌≡◌ {A = Reported} (record { refusal = 1; hits = hs }) (report_out c hs)
  unfolding report_out counters_fit not_reported
  report-hits e n = verdict-no (not_reported hs) _ (sym (broken-here 1 [] (sym (and_yes (eq-eqb (length c) depth_count e) (sym (ne_eqb (length hs) depth_count n)))))) (λ z. omega arith)

  pub report-done : (hits : List ℕ) → length c ≡ depth_count → length hs ≡ depth_count → hits ≡ hits_of_all c → ◌≡◌ {A = Reported} (record { refusal = 0; hits = hits }) (report_out c hs)
  unfolding report_out counters_fit
  report-done hits e n g = rw g (verdict-yes {n = 0} (not_reported hs) (sym (kept_then 1 [] (both _ _ (eq-eqb (length c) depth_count e) (eq-eqb (length hs) depth_count n)) ∙ none-broken)) refl refl)
