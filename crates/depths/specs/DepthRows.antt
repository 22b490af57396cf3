-- Depths, caches, tallies, shares and reports, computed from the definitions. Assumes nothing.
use Rattle.std.specs.Prelude.{ℕ, ◌≡◌, refl, List, [], ◌∷◌, map, replicate}
use Rattle.rules.specs.Tests.{pick, ◌and◌, ◌or◌, first_broken}
use Rattle.depths.specs.declared.Tally.{Tally}
use Rattle.depths.specs.Depths.{is_in, since, different, depth, depths_after, depths, is_up_to, depths_up_to, without_page, without_last, replaced, after_use, cache, hits_after, hits_of, last_use, recency}
use Rattle.depths.specs.Tallying.{one_counted, all_counted, total, within, counters_fit, length_fits, is_room_left, sizes_fit, tally_fits, pages_fit, add_rules, report_row, rising}

-- pages 5, 6, 7, then 5 again, 5 at once, 6, and 8
abbrev walk : List ℕ
walk = 5 ∷ 6 ∷ 7 ∷ 5 ∷ 5 ∷ 6 ∷ 8 ∷ []

-- the same, the last reference first
abbrev walked : List ℕ
walked = 8 ∷ 6 ∷ 5 ∷ 5 ∷ 7 ∷ 6 ∷ 5 ∷ []

-- "1 plus the count of different other pages since the last one to the same page; a first reference in its recording has none": 6 and 7 since the first 5, none since the second, and since the first 6 those are 7 and 5, which counts once
pub depth-rows : depths walk ≡ (0 ∷ 0 ∷ 0 ∷ 3 ∷ 1 ∷ 3 ∷ 0 ∷ [])
unfolding depths_after depth is_in since different pick ◌or◌
depth-rows = refl

-- a page with no reference to it, the last page, and page 0
pub single-rows : map (depth walked) (9 ∷ 8 ∷ 0 ∷ []) ≡ (0 ∷ 1 ∷ 0 ∷ [])
unfolding depth is_in since different pick ◌or◌
single-rows = refl

-- the recency list, and "the least recently used" goes: the caches of 0 to 5 pages after the walk
pub recency-row : recency walked ≡ (8 ∷ 6 ∷ 5 ∷ 7 ∷ [])
unfolding recency without_page pick
recency-row = refl

pub cache-rows :
    map (λ (f : ℕ). cache f walked) (0 ∷ 1 ∷ 2 ∷ 3 ∷ 4 ∷ 5 ∷ [])
    ≡ ([] ∷ (8 ∷ []) ∷ (8 ∷ 6 ∷ []) ∷ (8 ∷ 6 ∷ 5 ∷ []) ∷ (8 ∷ 6 ∷ 5 ∷ 7 ∷ []) ∷ (8 ∷ 6 ∷ 5 ∷ 7 ∷ []) ∷ [])
unfolding cache after_use replaced without_last without_page is_in pick ◌or◌
cache-rows = refl

-- a page that is used again goes later than one that came in after it
pub used-again-row : cache 2 (7 ∷ 5 ∷ 6 ∷ 5 ∷ []) ≡ (7 ∷ 5 ∷ [])
unfolding cache after_use replaced without_last without_page is_in pick ◌or◌
used-again-row = refl

-- "a larger one always contains the smaller": of 2 and of 3 pages. First in, first out they would hold 4 and 1, and 4, 3 and 2
pub larger-rows : map (λ (f : ℕ). cache f (4 ∷ 1 ∷ 3 ∷ 2 ∷ 1 ∷ [])) (2 ∷ 3 ∷ []) ≡ ((4 ∷ 1 ∷ []) ∷ (4 ∷ 1 ∷ 3 ∷ []) ∷ [])
unfolding cache after_use replaced without_last without_page is_in pick ◌or◌
larger-rows = refl

-- "exactly as many hits as there are depths up to f", for the sizes 0 to 4
pub hit-rows : map (λ (f : ℕ). hits_of f walk) (0 ∷ 1 ∷ 2 ∷ 3 ∷ 4 ∷ []) ≡ (0 ∷ 1 ∷ 1 ∷ 3 ∷ 3 ∷ [])
unfolding hits_after cache after_use replaced without_last without_page is_in pick ◌or◌
hit-rows = refl

pub up-to-rows : map (λ (f : ℕ). depths_up_to f (depths walk)) (0 ∷ 1 ∷ 2 ∷ 3 ∷ 4 ∷ []) ≡ (0 ∷ 1 ∷ 1 ∷ 3 ∷ 3 ∷ [])
unfolding depths_up_to is_up_to depths_after depth is_in since different pick ◌or◌
up-to-rows = refl

-- the time of the last reference
pub last-rows : map (last_use walked) (5 ∷ 6 ∷ 7 ∷ 8 ∷ 9 ∷ []) ≡ (5 ∷ 6 ∷ 3 ∷ 7 ∷ 0 ∷ [])
unfolding last_use pick
last-rows = refl

-- ---- the tally, here of four depths

pub count-rows : all_counted (0 ∷ 0 ∷ 4 ∷ 0 ∷ []) (depths walk) ≡ (1 ∷ 0 ∷ 6 ∷ 0 ∷ [])
unfolding all_counted one_counted depths_after depth is_in since different pick ◌or◌
count-rows = refl

-- "the share at or below a size": those references, for the sizes 0 to 5
pub within-rows : map (λ (f : ℕ). within f (1 ∷ 0 ∷ 6 ∷ 2 ∷ [])) (0 ∷ 1 ∷ 2 ∷ 3 ∷ 4 ∷ 5 ∷ []) ≡ (0 ∷ 1 ∷ 1 ∷ 7 ∷ 9 ∷ 9 ∷ [])
unfolding within total
within-rows = refl

-- "each depth .., rising, with its number of references, 0 included"
pub report-rows :
    map (report_row (1 ∷ 0 ∷ 6 ∷ [])) (rising 1 3)
    ≡ (record { depth = 1; references = 1; hits = 1 } ∷ record { depth = 2; references = 0; hits = 1 } ∷ record { depth = 3; references = 6; hits = 7 } ∷ [])
unfolding report_row rising within total
report-rows = refl

-- ---- the rules: "A recording of another length or one too many falls under 1, a tally so far with more references than 4,096 for each recording or fewer than its depths count under 2, a page above 4,095 under 6"

abbrev tally_with : ℕ → ℕ → Tally
tally_with n r = record { recordings = n; references = r }

-- 4,095 counters, of which the first is so many
abbrev counters : ℕ → List ℕ
counters x = x ∷ replicate 4094 0

abbrev first_of : Tally → List ℕ → List ℕ → ℕ
first_of t c ps = first_broken (add_rules t c ps)

-- by the length: none, one, 4,096 and 4,097 pages
pub length-rows :
    map (λ (n : ℕ). first_of (tally_with 0 0) (counters 0) (replicate n 7)) (0 ∷ 1 ∷ 4096 ∷ 4097 ∷ [])
    ≡ (1 ∷ 0 ∷ 0 ∷ 1 ∷ [])
unfolding first_broken add_rules sizes_fit counters_fit length_fits is_room_left tally_fits total pages_fit pick ◌and◌
length-rows = refl

-- by the counters: 4,094, 4,095 and 4,096 of them
pub counter-rows : map (λ (n : ℕ). first_of (tally_with 0 0) (replicate n 0) (7 ∷ [])) (4094 ∷ 4095 ∷ 4096 ∷ []) ≡ (1 ∷ 0 ∷ 1 ∷ [])
unfolding first_broken add_rules sizes_fit counters_fit length_fits is_room_left tally_fits total pages_fit pick ◌and◌
counter-rows = refl

-- by the recordings so far: one is left, and one too many
pub room-rows : map (λ (n : ℕ). first_of (tally_with n 0) (counters 0) (7 ∷ [])) (65534 ∷ 65535 ∷ []) ≡ (0 ∷ 1 ∷ [])
unfolding first_broken add_rules sizes_fit counters_fit length_fits is_room_left tally_fits total pages_fit pick ◌and◌
room-rows = refl

-- by the tally: of 2 recordings 8,192 references can be, 8,193 can't; 3 counted of 3 can be, of 2 can't; a tally that no recordings make can
pub tally-rows :
    (first_of (tally_with 2 8192) (counters 0) (7 ∷ []) ∷ first_of (tally_with 2 8193) (counters 0) (7 ∷ []) ∷ first_of (tally_with 2 3) (counters 3) (7 ∷ [])
    ∷ first_of (tally_with 2 2) (counters 3) (7 ∷ []) ∷ first_of (tally_with 0 1) (counters 0) (7 ∷ []) ∷ first_of (tally_with 9 5) (counters 5) (7 ∷ []) ∷ [])
    ≡ (0 ∷ 2 ∷ 0 ∷ 2 ∷ 2 ∷ 0 ∷ [])
unfolding first_broken add_rules sizes_fit counters_fit length_fits is_room_left tally_fits total pages_fit pick ◌and◌
tally-rows = refl

-- by the pages, the last one too; and in this order where one input breaks two: 1 before 2 and 6, 2 before 6
pub page-rows :
    (first_of (tally_with 0 0) (counters 0) (4095 ∷ 0 ∷ []) ∷ first_of (tally_with 0 0) (counters 0) (4096 ∷ 0 ∷ []) ∷ first_of (tally_with 0 0) (counters 0) (0 ∷ 65535 ∷ [])
    ∷ first_of (tally_with 65535 0) (counters 1) (4096 ∷ []) ∷ first_of (tally_with 65535 0) (counters 0) (4096 ∷ []) ∷ first_of (tally_with 0 0) (counters 1) (4096 ∷ []) ∷ [])
    ≡ (0 ∷ 6 ∷ 6 ∷ 1 ∷ 1 ∷ 2 ∷ [])
unfolding first_broken add_rules sizes_fit counters_fit length_fits is_room_left tally_fits total pages_fit pick ◌and◌
page-rows = refl
