-- What the rules of add say where none is broken, and what add then leaves. Assumes nothing.
use Rattle.std.specs.Prelude.{ℕ, zero, suc, ◌*◌, ◌<◌, ◌≤◌, ◌≡◌, true, List, [], ◌∷◌, leb, ltb, length, get_or}
use Rattle.std.proofs.Common.{arith, eqb-true, leb-true, ltb-true, le-leb, eq-eqb}
use Rattle.rules.specs.Tests.{first_broken}
use Rattle.rules.specs.TestLaws.{both, and-true, first-kept}
use Rattle.depths.specs.declared.Tally.{Tally}
use Rattle.depths.specs.Tallying.{most_references, depth_count, last_page, most_recordings, total, counters_fit, length_fits, is_room_left, sizes_fit, tally_fits, pages_fit, add_rules}

-- ---- each test, as facts

pub counters-are : (c : List ℕ) → counters_fit c ≡ true → length c ≡ depth_count
unfolding counters_fit
counters-are c t = eqb-true (length c) depth_count t

pub counters-fit : (c : List ℕ) → length c ≡ depth_count → counters_fit c ≡ true
unfolding counters_fit
counters-fit c e = eq-eqb (length c) depth_count e

pub record LengthKept (ps : List ℕ) : Type 0 where
  pub some : 1 ≤ length ps
  pub most : length ps ≤ most_references

length-kept : (ps : List ℕ) → length_fits ps ≡ true → LengthKept ps
unfolding length_fits
length-kept ps t =
    let b = and-true (leb 1 (length ps)) _ t in
    record { some = leb-true 1 (length ps) b.0; most = leb-true (length ps) most_references b.1 }

pub length-fits : (ps : List ℕ) → LengthKept ps → length_fits ps ≡ true
unfolding length_fits
length-fits ps k = both _ _ (le-leb 1 (length ps) k.some) (le-leb (length ps) most_references k.most)

pub record TallyKept (t : Tally) (c : List ℕ) : Type 0 where
  pub bounded : t.references ≤ most_references * t.recordings
  pub counts : total c ≤ t.references

tally-kept : (t : Tally) (c : List ℕ) → tally_fits t c ≡ true → TallyKept t c
unfolding tally_fits
tally-kept t c e =
    let b = and-true (leb t.references (most_references * t.recordings)) _ e in
    record { bounded = leb-true t.references (most_references * t.recordings) b.0; counts = leb-true (total c) t.references b.1 }

pub page-kept-at : (ps : List ℕ) → pages_fit ps ≡ true → (j : ℕ) → j < length ps → get_or ps j 0 ≤ last_page
unfolding pages_fit
page-kept-at [] t j l = absurd (omega arith)
page-kept-at (p ∷ ps) t zero l = leb-true p last_page (and-true (leb p last_page) (pages_fit ps) t).0
page-kept-at (p ∷ ps) t (suc j) l = page-kept-at ps (and-true (leb p last_page) (pages_fit ps) t).1 j (omega arith)

-- ---- no rule is broken

pub record AddKept (t : Tally) (c ps : List ℕ) : Type 0 where
  pub counters : length c ≡ depth_count
  pub fits : LengthKept ps
  pub room : t.recordings < most_recordings
  pub tally : TallyKept t c
  pub pages : pages_fit ps ≡ true

pub add_kept : (t : Tally) (c ps : List ℕ) → first_broken (add_rules t c ps) ≡ 0 → AddKept t c ps
unfolding add_rules sizes_fit is_room_left
add_kept t c ps z =
    let r1 = first-kept 0 (sizes_fit t c ps) _ z in
    let r2 = first-kept 1 (tally_fits t c) _ r1.1 in
    let r3 = first-kept 5 (pages_fit ps) [] r2.1 in
    let a = and-true (counters_fit c) _ r1.0 in
    let b = and-true (length_fits ps) (ltb t.recordings most_recordings) a.1 in
    record {
      counters = counters-are c a.0;
      fits = length-kept ps b.0;
      room = ltb-true t.recordings most_recordings b.1;
      tally = tally-kept t c r2.0;
      pages = r3.0;
    }
