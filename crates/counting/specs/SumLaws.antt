-- Sums of counters as loops make them. Assumes nothing.
use Rattle.std.specs.Prelude.{ℕ, zero, suc, ◌+◌, ◌<◌, ◌≤◌, ◌≡◌, refl, List, [], ◌∷◌, map, length, get_or, set}
use Rattle.std.proofs.Common.{sym, ap, ◌∙◌, length-set, get_or-set_same, get_or-set_other, ext_get_or, arith}
use Rattle.std.proofs.lemmas.List.{length-map}
use Rattle.std.proofs.Math.Decide.{ℕ_discrete}
use Rattle.depths.specs.Tallying.{depth_count, within, ReportRow, report_of, hits_of_all}
use Rattle.depths.proofs.TallyLaws.{within-next}
use Rattle.depths.proofs.Exact.{rises}

-- one counter more
pub sum_goes : (c : List ℕ) (n x y : ℕ) → x ≡ within n c → y ≡ get_or c n 0 → x + y ≡ within (n + 1) c
sum_goes c n x y e f = let a = within-next c n in omega arith

-- the first i numbers are sums
pub record RunningSums (c hits : List ℕ) (i : ℕ) : Type 0 where
  pub size : length hits ≡ depth_count
  pub sums : (j : ℕ) → j < i → get_or hits j 0 ≡ within (j + 1) c

pub running-start : (c hits : List ℕ) → length hits ≡ depth_count → RunningSums c hits 0
running-start c hits e = record { size = e; sums = λ j l. absurd (omega arith) }

pub running-goes : {c hits : List ℕ} {i : ℕ} (x : ℕ) → RunningSums c hits i → i < depth_count → x ≡ within (i + 1) c → RunningSums c (set hits i x) (i + 1)
running-goes {c} {hits} {i} x s l e = record {
  size = length-set hits i x ∙ s.size;
  sums = λ j k. elim (ℕ_discrete j i) [
    | yes q ↦ let z : i < length hits = rw s.size l in rw q (get_or-set_same hits i x 0 z ∙ e)
    | no q ↦ get_or-set_other hits i j x 0 q ∙ s.sums j (omega arith)
  ];
}

hits_at : (l : List ReportRow) (j : ℕ) (d : ReportRow) → j < length l → get_or (map (λ (r : ReportRow). r.hits) l) j 0 ≡ (get_or l j d).hits
hits_at [] j d l = absurd (omega arith)
hits_at (x ∷ r) zero d l = refl
hits_at (x ∷ r) (suc j) d l = hits_at r j d (omega arith)

pub running-all : {c hits : List ℕ} {i : ℕ} → RunningSums c hits i → depth_count ≤ i → hits ≡ hits_of_all c
running-all {c} {hits} {i} s l =
    let e : length (hits_of_all c) ≡ depth_count = length-map (report_of c) (λ (r : ReportRow). r.hits) ∙ (rises c).rows in
    ext_get_or 0 hits (hits_of_all c) (s.size ∙ sym e) (λ j k. same j (rw s.size at k))
  where
    same : (j : ℕ) → j < depth_count → get_or hits j 0 ≡ get_or (hits_of_all c) j 0
    same j k =
        let d : ReportRow = record { depth = 0; references = 0; hits = 0 } in
        let z : j < length (report_of c) = rw (rises c).rows k in
        s.sums j (omega arith) ∙ sym (hits_at (report_of c) j d z ∙ ap (λ (r : ReportRow). r.hits) ((rises c).row j d k))
