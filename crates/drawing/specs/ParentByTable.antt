-- Link's parent page by the table of the page in each frame.
use Rattle.std.specs.Prelude.{ℕ, List, eqb}
use Rattle.rules.specs.Tests.{pick}
use Rattle.residents.specs.Residents.{page_by}

unfoldable pub parent_by : List ℕ → ℕ → ℕ → ℕ
parent_by residents call f = pick (eqb call 5) (page_by residents f) 0
