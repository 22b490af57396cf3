-- What rule 1 has settled of F, N, T and the frames before rule 2 is tested.
use Rattle.std.specs.Prelude.{ℕ, ◌*◌, ◌<◌, ◌≤◌, ◌≡◌, List, length}
use Rattle.page.specs.Figures.{page_size, most_frames, most_pages, most_stores}

pub record Sizes (F N T : ℕ) (fs : List ℕ) : Type 0 where
  pub one : 1 ≤ T
  pub stores : T ≤ most_stores
  pub least : T < F
  pub most : F ≤ most_frames
  pub some : 1 ≤ N
  pub pages : N ≤ most_pages
  pub size : length fs ≡ page_size * F
