-- Request A.12: the tally of recordings, the rules by which one is refused, the share and the report. The counters are a list: the first counts the references of depth 1, and so on.
use Rattle.std.specs.Prelude.{ℕ, zero, suc, ◌+◌, ◌-◌, ◌*◌, Bool, true, List, [], ◌∷◌, map, ◌++◌, eqb, leb, ltb, length, take, get_or, set, replicate}
use Rattle.rules.specs.Tests.{pick, ◌and◌, Rule, first_broken, verdict}
use Rattle.depths.specs.declared.Tally.{Tally}
use Rattle.depths.specs.declared.Added.{Added}
use Rattle.depths.specs.declared.Share.{Share}
use Rattle.depths.specs.Depths.{depths}

-- ---- figures: "1 to 4,096 page numbers each", "each depth from 1 to 4,095", "up to 65,535 recordings"

abbrev pub most_references : ℕ
most_references = 4096

abbrev pub depth_count : ℕ
depth_count = 4095

abbrev pub last_page : ℕ
last_page = 4095

abbrev pub most_recordings : ℕ
most_recordings = 65535

-- ---- the counters

-- one reference more, of depth d; one that has no depth is counted nowhere
unfoldable pub one_counted : List ℕ → ℕ → List ℕ
one_counted c zero = c
one_counted c (suc k) = set c k (get_or c k 0 + 1)

unfoldable pub all_counted : List ℕ → List ℕ → List ℕ
all_counted c [] = c
all_counted c (d ∷ ds) = all_counted (one_counted c d) ds

unfoldable pub total : List ℕ → ℕ
total [] = 0
total (x ∷ l) = x + total l

-- "those references": the ones of depths up to f
unfoldable pub within : ℕ → List ℕ → ℕ
within f c = total (take f c)

-- ---- the rules

unfoldable pub counters_fit : List ℕ → Bool
counters_fit c = eqb (length c) depth_count

-- "1 to 4,096 page numbers"
unfoldable pub length_fits : List ℕ → Bool
length_fits ps = leb 1 (length ps) and leb (length ps) most_references

unfoldable pub is_room_left : Tally → Bool
is_room_left t = ltb t.recordings most_recordings

-- "A recording of another length or one too many falls under 1"; and so does another number of counters
unfoldable pub sizes_fit : Tally → List ℕ → List ℕ → Bool
sizes_fit t c ps = counters_fit c and length_fits ps and is_room_left t

-- "a tally so far with more references than 4,096 for each recording or fewer than its depths count under 2"
unfoldable pub tally_fits : Tally → List ℕ → Bool
tally_fits t c = leb t.references (most_references * t.recordings) and leb (total c) t.references

-- "a page above 4,095 under 6"
unfoldable pub pages_fit : List ℕ → Bool
pages_fit [] = true
pages_fit (p ∷ ps) = leb p last_page and pages_fit ps

-- in checking order
unfoldable pub add_rules : Tally → List ℕ → List ℕ → List Rule
add_rules t c ps = (1, sizes_fit t c ps) ∷ (2, tally_fits t c) ∷ (6, pages_fit ps) ∷ []

-- ---- adding a recording: what it answers, and the counters that it leaves

pub record Left : Type 0 where
  pub added : Added
  pub counts : List ℕ

-- ".. and adds nothing"
unfoldable pub nothing_added : Tally → List ℕ → ℕ → Left
nothing_added t c n = record { added = record { refusal = n; tally = t }; counts = c }

unfoldable pub recording_added : Tally → List ℕ → List ℕ → Left
recording_added t c ps = record {
  added = record { refusal = 0; tally = record { recordings = t.recordings + 1; references = t.references + length ps } };
  counts = all_counted c (depths ps);
}

unfoldable pub add_out : Tally → List ℕ → List ℕ → Left
add_out t c ps = verdict (first_broken (add_rules t c ps)) (nothing_added t c) (recording_added t c ps)

-- ---- "the share at or below a size as two whole numbers (those references, and all with the first ones)"

unfoldable pub no_share : ℕ → Share
no_share n = record { refusal = n; within = 0; all = 0 }

unfoldable pub share_out : Tally → List ℕ → ℕ → Share
share_out t c f = verdict (first_broken ((1, counters_fit c) ∷ [])) no_share (record { refusal = 0; within = within f c; all = t.references })

-- ---- "Report each depth from 1 to 4,095, rising, with its number of references, 0 included": beside them stand the hits of a cache of so many pages

pub record ReportRow : Type 0 where
  pub depth : ℕ
  pub references : ℕ
  pub hits : ℕ

unfoldable pub report_row : List ℕ → ℕ → ReportRow
report_row c d = record { depth = d; references = get_or c (d - 1) 0; hits = within d c }

-- n numbers, from s on
unfoldable pub rising : ℕ → ℕ → List ℕ
rising s zero = []
rising s (suc n) = s ∷ rising (s + 1) n

unfoldable pub report_of : List ℕ → List ReportRow
report_of c = map (report_row c) (rising 1 depth_count)

-- the hits of the report
abbrev pub hits_of_all : List ℕ → List ℕ
hits_of_all c = map (λ (r : ReportRow). r.hits) (report_of c)

-- the lent numbers get the hits
pub record Reported : Type 0 where
  pub refusal : ℕ
  pub hits : List ℕ

unfoldable pub not_reported : List ℕ → ℕ → Reported
not_reported hs n = record { refusal = n; hits = hs }

unfoldable pub report_out : List ℕ → List ℕ → Reported
report_out c hs = verdict (first_broken ((1, counters_fit c and counters_fit hs) ∷ [])) (not_reported hs) (record { refusal = 0; hits = hits_of_all c })

-- ---- "summed over up to 65,535 recordings": recordings handed to add one after the other, the last of them first, from a tally that is all zero on

unfoldable pub tally_of : List (List ℕ) → Left
tally_of [] = nothing_added (record { recordings = 0; references = 0 }) (replicate depth_count 0) 0
tally_of (ps ∷ rs) = add_out (tally_of rs).added.tally (tally_of rs).counts ps

-- those that were accepted
unfoldable pub accepted_of : List (List ℕ) → List (List ℕ)
accepted_of [] = []
accepted_of (ps ∷ rs) = pick (eqb (tally_of (ps ∷ rs)).added.refusal 0) (ps ∷ []) [] ++ accepted_of rs
