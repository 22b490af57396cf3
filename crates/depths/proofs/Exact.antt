-- Request A.12's claims about the tally of any recordings, and about the report. Assumes nothing.
use Rattle.std.specs.Prelude.{ℕ, zero, suc, ◌+◌, ◌-◌, ◌*◌, ◌<◌, ◌≤◌, ◌≡◌, true, eqb, get_or, replicate}
use Rattle.std.proofs.Math.Path.{refl, sym, ap}
use Rattle.std.proofs.Common.{◌∙◌, eq-eqb, ne_eqb, le-leb, lt-ltb}
use mathlib.Core.List.{List, [], ◌∷◌, map, ◌++◌}
use Rattle.std.proofs.Math.ListN.{length}
use Rattle.std.proofs.lemmas.List.{length-replicate, length-map}
use native.Mathlib.Omega.{arith}
use Rattle.std.proofs.Math.Decide.{ℕ_discrete, dec_lt}
use Rattle.std.proofs.lemmas.Bool.{lt-leb}
use Rattle.rules.specs.Tests.{pick, first_broken}
use Rattle.rules.specs.TestLaws.{both, on, off, case, kept_then, broken-here, none-broken, verdict-no, verdict-yes}
use Rattle.depths.specs.declared.Tally.{Tally}
use Rattle.depths.specs.Depths.{depth, depths_after, depths, depths_at, is_up_to, depths_up_to, hits_of}
use Rattle.depths.specs.Tallying.{most_references, depth_count, most_recordings, total, within, length_fits, is_room_left, sizes_fit, tally_fits, pages_fit, add_rules, Left, nothing_added, recording_added, add_out, ReportRow, report_row, rising, report_of, tally_of, accepted_of}
use Rattle.depths.proofs.PageListLaws.{bit, bit-on, bit-off, bit_le, picked, passed}
use Rattle.depths.proofs.TallyLaws.{AtMost, depths-at-most, length-all, within_all, within-next, within-whole, within-zeros}
use Rattle.depths.proofs.AddLaws.{AddKept, add_kept, LengthKept, length-fits, counters-fit}
use Rattle.depths.proofs.Recency.{for-every-size}
use Rattle.depths.specs.HowMany.{over, ForAnyRecordings, Rises}

-- ---- what add answers and leaves, by the first broken rule

module _ (t : Tally) (c ps : List ℕ) where
  pub add-accepts : first_broken (add_rules t c ps) ≡ 0 → add_out t c ps ≡ recording_added t c ps
  unfolding add_out
  add-accepts z = sym (verdict-yes (nothing_added t c) refl z refl)

  pub add-refuses : (first_broken (add_rules t c ps) ≡ 0 → ⊥) → add_out t c ps ≡ nothing_added t c (first_broken (add_rules t c ps))
  unfolding add_out
  add-refuses n = sym (verdict-no (nothing_added t c) (recording_added t c ps) refl n)

  refusal_is : (add_out t c ps).added.refusal ≡ first_broken (add_rules t c ps)
  unfolding recording_added nothing_added
  refusal_is = elim (ℕ_discrete (first_broken (add_rules t c ps)) 0) [
    | yes z ↦ ap (λ (l : Left). l.added.refusal) (add-accepts z) ∙ sym z
    | no n ↦ ap (λ (l : Left). l.added.refusal) (add-refuses n)
  ]

-- ---- sums over recordings

over-nil : (n : List ℕ → ℕ) → over n [] ≡ 0
unfolding over
over-nil n = refl

over-cons : (n : List ℕ → ℕ) (r : List ℕ) (rs : List (List ℕ)) → over n (r ∷ rs) ≡ n r + over n rs
unfolding over
over-cons n r rs = refl

over-ext : (a b : List ℕ → ℕ) → ((r : List ℕ) → a r ≡ b r) → (rs : List (List ℕ)) → over a rs ≡ over b rs
unfolding over
over-ext a b e [] = refl
over-ext a b e (r ∷ rs) = let u = e r in let v = over-ext a b e rs in omega arith

over-le : (a b : List ℕ → ℕ) → ((r : List ℕ) → a r ≤ b r) → (rs : List (List ℕ)) → over a rs ≤ over b rs
unfolding over
over-le a b e [] = omega arith
over-le a b e (r ∷ rs) = let u = e r in let v = over-le a b e rs in omega arith

abbrev up_to : ℕ → List ℕ → ℕ
up_to f ps = depths_up_to f (depths ps)

up-to-le : (f : ℕ) (h ps : List ℕ) → depths_up_to f (depths_after h ps) ≤ length ps
unfolding depths_up_to depths_after
up-to-le f h [] = omega arith
up-to-le f h (p ∷ ps) = let a = bit_le (is_up_to f (depth h p)) in let b = up-to-le f (p ∷ h) ps in omega arith

-- up to k + 1 are those up to k, and those of k + 1
up-to-bit : (k d : ℕ) → bit (is_up_to (k + 1) d) ≡ bit (is_up_to k d) + bit (eqb d (k + 1))
unfolding is_up_to
up-to-bit k zero = rw (bit-off, ne_eqb 0 (k + 1) (λ e. omega arith), bit-off) (omega arith)
up-to-bit k (suc d) = elim (ℕ_discrete (suc d) (k + 1)) [
  | yes e ↦ rw (eq-eqb (suc d) (k + 1) e, le-leb (suc d) (k + 1) (omega arith), lt-leb (suc d) k (omega arith), bit-on, bit-off) (omega arith)
  | no n ↦ elim (dec_lt d k) [
    | yes l ↦ rw (ne_eqb (suc d) (k + 1) n, le-leb (suc d) (k + 1) (omega arith), le-leb (suc d) k (omega arith), bit-on, bit-off) (omega arith)
    | no l ↦ rw (ne_eqb (suc d) (k + 1) n, lt-leb (suc d) (k + 1) (omega arith), lt-leb (suc d) k (omega arith), bit-off) (omega arith)
  ]
]

up-to-next : (k : ℕ) (ds : List ℕ) → depths_up_to (k + 1) ds ≡ depths_up_to k ds + depths_at (k + 1) ds
unfolding depths_up_to depths_at
up-to-next k [] = refl
up-to-next k (d ∷ ds) = let a = up-to-bit k d in let b = up-to-next k ds in omega arith

over-next : (k : ℕ) (rs : List (List ℕ)) → over (up_to (k + 1)) rs ≡ over (up_to k) rs + over (λ ps. depths_at (k + 1) (depths ps)) rs
unfolding over
over-next k [] = refl
over-next k (r ∷ rs) = let a = up-to-next k (depths r) in let b = over-next k rs in omega arith

-- ---- what stays true as recordings come

record Tallies (t : Tally) (c : List ℕ) (rs : List (List ℕ)) : Type 0 where
  counters : length c ≡ depth_count
  recordings : t.recordings ≡ length rs
  most : length rs ≤ most_recordings
  references : t.references ≡ over length rs
  bounded : t.references ≤ most_references * t.recordings
  shared : (f : ℕ) → within f c ≡ over (up_to f) rs

tallies-none : Tallies (record { recordings = 0; references = 0 }) (replicate depth_count 0) []
tallies-none = record {
  counters = length-replicate {A = ℕ} depth_count 0;
  recordings = refl;
  most = omega arith;
  references = sym (over-nil length);
  bounded = omega arith;
  shared = λ f. within-zeros f depth_count ∙ sym (over-nil (up_to f));
}

module _ {t : Tally} {c : List ℕ} {rs : List (List ℕ)} (h : Tallies t c rs) (ps : List ℕ) where
  tallies-more : AddKept t c ps → Tallies (recording_added t c ps).added.tally (recording_added t c ps).counts (ps ∷ rs)
  unfolding recording_added
  tallies-more k =
      let some : LengthKept ps = k.fits in
      let low : length ps ≤ 4096 = some.most in
      let w : AtMost (length c) (depths ps) = rw k.counters (depths-at-most depth_count [] ps (omega arith)) in
      let r : t.recordings < most_recordings = k.room in
      let n : t.recordings ≡ length rs = h.recordings in
      let b : t.references ≤ most_references * t.recordings = h.bounded in
      record {
        counters = length-all c (depths ps) ∙ h.counters;
        recordings = omega arith;
        most = omega arith;
        references = (let a = over-cons length ps rs in let e : t.references ≡ over length rs = h.references in omega arith);
        bounded = omega arith;
        shared = λ f. (let a = within_all f c (depths ps) w in let e : within f c ≡ over (up_to f) rs = h.shared f in let g = over-cons (up_to f) ps rs in omega arith);
      }

  tallies-fit : tally_fits t c ≡ true
  unfolding tally_fits
  tallies-fit =
      let a : within depth_count c ≡ total c = (let n : length c ≡ depth_count = h.counters in within-whole depth_count c (omega arith)) in
      let b : within depth_count c ≡ over (up_to depth_count) rs = h.shared depth_count in
      let d : over (up_to depth_count) rs ≤ over length rs = over-le (up_to depth_count) length (λ r. up-to-le depth_count [] r) rs in
      let e : t.references ≡ over length rs = h.references in
      both _ _ (le-leb t.references (most_references * t.recordings) h.bounded) (le-leb (total c) t.references (omega arith))

  tallies-never-2 : first_broken (add_rules t c ps) ≡ 2 → ⊥
  unfolding add_rules
  tallies-never-2 z = elim (case (sizes_fit t c ps)) [
    | off a ↦ let e = broken-here 1 ((2, tally_fits t c) ∷ (6, pages_fit ps) ∷ []) a in omega arith
    | on a ↦
        let e = kept_then 1 ((2, tally_fits t c) ∷ (6, pages_fit ps) ∷ []) a in
        let g = kept_then 2 ((6, pages_fit ps) ∷ []) tallies-fit in
        elim (case (pages_fit ps)) [
          | off b ↦ let i = broken-here 6 [] b in omega arith
          | on b ↦ let i = kept_then 6 [] b in let j = none-broken in omega arith
        ]
  ]

  tallies-accept : (length_fits ps ≡ true) × (length rs < most_recordings) × (pages_fit ps ≡ true) → first_broken (add_rules t c ps) ≡ 0
  unfolding add_rules sizes_fit is_room_left
  tallies-accept k =
      let n : t.recordings ≡ length rs = h.recordings in
      let r : t.recordings < most_recordings = (let x = k.1 in omega arith) in
      kept_then 1 _ (both _ _ (counters-fit c h.counters) (both _ _ k.0 (lt-ltb t.recordings most_recordings r)))
      ∙ kept_then 2 _ tallies-fit ∙ kept_then 6 [] k.2 ∙ none-broken

  tallies-accepted : first_broken (add_rules t c ps) ≡ 0 → (length_fits ps ≡ true) × (length rs < most_recordings) × (pages_fit ps ≡ true)
  tallies-accepted z =
      let k = add_kept t c ps z in
      let some : LengthKept ps = k.fits in
      let r : t.recordings < most_recordings = k.room in
      let n : t.recordings ≡ length rs = h.recordings in
      (length-fits ps some, omega arith, k.pages)

-- one recording more: accepted it is counted, refused all stays
left-tallies : (t : Tally) (c : List ℕ) (rs : List (List ℕ)) (n : ℕ) → Tallies t c rs → Tallies (nothing_added t c n).added.tally (nothing_added t c n).counts rs
unfolding nothing_added
left-tallies t c rs n h = h

tallied-next : (t : Tally) (c ps : List ℕ) (rs : List (List ℕ)) → Tallies t c rs
    → Tallies (add_out t c ps).added.tally (add_out t c ps).counts (pick (eqb (add_out t c ps).added.refusal 0) (ps ∷ []) [] ++ rs)
tallied-next t c ps rs h = elim (ℕ_discrete (first_broken (add_rules t c ps)) 0) [
  | yes z ↦ rw (picked (ps ∷ []) [] (eq-eqb (add_out t c ps).added.refusal 0 (refusal_is t c ps ∙ z)), add-accepts t c ps z) (tallies-more h ps (add_kept t c ps z))
  | no m ↦ rw (passed (ps ∷ []) [] (ne_eqb (add_out t c ps).added.refusal 0 (λ w. m (sym (refusal_is t c ps) ∙ w))), add-refuses t c ps m) (left-tallies t c rs (first_broken (add_rules t c ps)) h)
]

tallied : (rs : List (List ℕ)) → Tallies (tally_of rs).added.tally (tally_of rs).counts (accepted_of rs)
unfolding tally_of accepted_of
tallied [] = left-tallies _ _ [] 0 tallies-none
tallied (ps ∷ rs) = tallied-next (tally_of rs).added.tally (tally_of rs).counts ps (accepted_of rs) (tallied rs)

pub for-any-recordings : (rs : List (List ℕ)) → ForAnyRecordings rs
for-any-recordings rs =
    let h = tallied rs in
    record {
      all = h.references;
      recordings = h.recordings;
      most = h.most;
      counted = λ k. (
          let a : within (k + 1) (tally_of rs).counts ≡ over (up_to (k + 1)) (accepted_of rs) = h.shared (k + 1) in
          let b : within k (tally_of rs).counts ≡ over (up_to k) (accepted_of rs) = h.shared k in
          let c = within-next (tally_of rs).counts k in
          let d = over-next k (accepted_of rs) in
          omega arith
          );
      shared = h.shared;
      hit = λ f. h.shared f ∙ over-ext (up_to f) (hits_of f) (λ ps. sym ((for-every-size f).exact ps)) (accepted_of rs);
      accepts = λ ps. ((λ z. tallies-accepted h ps (sym (refusal_is _ _ ps) ∙ z)), (λ k. refusal_is _ _ ps ∙ tallies-accept h ps k));
      never-2 = λ ps z. tallies-never-2 h ps (sym (refusal_is _ _ ps) ∙ z);
    }

-- ---- the report

length-rising : (s n : ℕ) → length (rising s n) ≡ n
unfolding rising
length-rising s zero = refl
length-rising s (suc n) = ap suc (length-rising (s + 1) n)

row_at : (c : List ℕ) (s n k : ℕ) (e : ReportRow) → k < n → get_or (map (report_row c) (rising s n)) k e ≡ report_row c (s + k)
unfolding rising
row_at c s zero k e l = absurd (omega arith)
row_at c s (suc n) zero e l = let a : s + 0 ≡ s = omega arith in rw a
row_at c s (suc n) (suc k) e l = let a : s + 1 + k ≡ s + suc k = omega arith in rw a at (row_at c (s + 1) n k e (omega arith))

pub rises : (c : List ℕ) → Rises c
unfolding report_of report_row
rises c = record {
  rows = length-map (rising 1 depth_count) (report_row c) ∙ length-rising 1 depth_count;
  row = λ k e l. (let a : 1 + k ≡ k + 1 = omega arith in let b : k + 1 - 1 ≡ k = omega arith in rw (a, b) at (row_at c 1 depth_count k e l));
}
