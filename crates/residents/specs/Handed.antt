-- What rule 2's pass hands on where records and frames agree: the page in each frame, and the page numbers that resident pages name, of each store.
use Rattle.std.specs.Prelude.{ℕ, ◌<◌, ◌≡◌, List, [], replicate}
use Rattle.page.specs.Figures.{most_frames, most_stores}
use Rattle.machine.specs.declared.Pool.{Pool}
use Rattle.machine.specs.Machine.{state}
use Rattle.machine.specs.Naming.{named_by_resident}
use Rattle.seen.specs.Seen.{Seen, none, Tells}
use Rattle.residents.specs.Residents.{Residents}

-- the two tables before the pass
pub record Clear (residents : List ℕ) (seen : Seen) : Type 0 where
  pub no_page : residents ≡ replicate most_frames 0
  pub none_seen : seen ≡ none

-- the two tables after it; what resident pages name is nothing to the stores
pub record Handed (p : Pool) (fs : List ℕ) (residents : List ℕ) (seen : Seen) : Type 0 where
  pub held : Residents p.records residents
  pub named : (t : ℕ) → t < most_stores → Tells t seen (named_by_resident (state p fs [] []) t)
