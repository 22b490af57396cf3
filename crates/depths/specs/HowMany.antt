-- What request A.12 claims: of the cache of every size, and of a tally of any recordings.
use Rattle.std.specs.Prelude.{ℕ, ◌+◌, ◌<◌, ◌≤◌, ◌≡◌, ◌↔◌, true, false, List, [], ◌∷◌, length, get_or, take}
use Rattle.depths.specs.Depths.{is_in, depths, depths_at, depths_up_to, cache, hits_of, last_use, recency}
use Rattle.depths.specs.Tallying.{within, length_fits, pages_fit, ReportRow, report_of, depth_count, most_recordings, tally_of, accepted_of, add_out}

-- ---- "For every size f, a flat cache of f pages .."

pub record ForEverySize (f : ℕ) : Type 0 where
  -- ".. has exactly as many hits as there are depths up to f"
  pub exact : (ps : List ℕ) → hits_of f ps ≡ depths_up_to f (depths ps)
  -- "and a larger one always contains the smaller": after any references
  pub contained : (g : ℕ) → f ≤ g → (h : List ℕ) (p : ℕ) → is_in p (cache f h) ≡ true → is_in p (cache g h) ≡ true
  -- at every point it holds the first f of the recency list, so that all sizes can be told from one list
  pub recent : (h : List ℕ) → cache f h ≡ take f (recency h)
  -- "a flat cache of f pages": it never holds more
  pub small : (h : List ℕ) → length (cache f h) ≤ f
  -- "replacing the least recently used": a page that goes was last used before every page that is held then
  pub oldest : (h : List ℕ) (p gone held : ℕ) → is_in gone (cache f h) ≡ true → is_in gone (cache f (p ∷ h)) ≡ false → is_in held (cache f (p ∷ h)) ≡ true → last_use (p ∷ h) gone < last_use (p ∷ h) held

-- ---- the tally of any recordings, refused ones among them

-- summed over recordings
unfoldable pub over : (List ℕ → ℕ) → List (List ℕ) → ℕ
over n [] = 0
over n (r ∷ rs) = n r + over n rs

pub record ForAnyRecordings (rs : List (List ℕ)) : Type 0 where
  -- "all with the first ones": every reference of the recordings that were accepted
  pub all : (tally_of rs).added.tally.references ≡ over length (accepted_of rs)
  pub recordings : (tally_of rs).added.tally.recordings ≡ length (accepted_of rs)
  pub most : length (accepted_of rs) ≤ most_recordings
  -- "each depth .. with its number of references": the counter of depth k + 1
  pub counted : (k : ℕ) → get_or (tally_of rs).counts k 0 ≡ over (λ ps. depths_at (k + 1) (depths ps)) (accepted_of rs)
  -- "those references": the depths up to a size, and the hits of a cache of that size, from 0 on
  pub shared : (f : ℕ) → within f (tally_of rs).counts ≡ over (λ ps. depths_up_to f (depths ps)) (accepted_of rs)
  pub hit : (f : ℕ) → within f (tally_of rs).counts ≡ over (hits_of f) (accepted_of rs)
  -- another recording is accepted exactly if it has its length and pages and one is left: 2 is never given
  pub accepts : (ps : List ℕ) → ((add_out (tally_of rs).added.tally (tally_of rs).counts ps).added.refusal ≡ 0) ↔ ((length_fits ps ≡ true) × (length (accepted_of rs) < most_recordings) × (pages_fit ps ≡ true))
  pub never-2 : (ps : List ℕ) → (add_out (tally_of rs).added.tally (tally_of rs).counts ps).added.refusal ≡ 2 → ⊥

-- ---- the report of any counters: a row for each depth "from 1 to 4,095, rising, with its number of references, 0 included"

pub record Rises (c : List ℕ) : Type 0 where
  pub rows : length (report_of c) ≡ depth_count
  pub row : (k : ℕ) (e : ReportRow) → k < depth_count → get_or (report_of c) k e ≡ record { depth = k + 1; references = get_or c k 0; hits = within (k + 1) c }
