use Rattle.std.proofs.Common.{◌≡◌, ℕ, List}
use Rattle.std.specs.Prelude.{replicate}
use Rattle.page.specs.Figures.{slot_count}
use Rattle.page.specs.Page.{slot}
use Rattle.seen.specs.Fold.{fold}
use Rattle.agreement.specs.Fit.{number_below, fill}
use Rattle.agreement.proofs.words.Words.numbers.Given as goal

abbrev pub row : List ℕ → ℕ → ℕ → ℕ → ℕ
row frames f pages k = number_below pages (slot frames f k)

abbrev pub invariant-loop-k : goal.invariant-loop-k
invariant-loop-k l = l.numbers ≡ fold (fill (row l.self.frames.now l.self.frame.0 l.self.pages)) (replicate slot_count 0) l.k
