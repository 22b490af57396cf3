use Rattle.std.proofs.Common.{ℕ, ◌≡◌, Bool, false, List}
use Rattle.page.specs.Word.{is_marked_number}
use Rattle.page.specs.Page.{slot}
use Rattle.seen.specs.Fold.{fold, some_of}
use Rattle.agreement.proofs.words.Words.has_marked.Given as goal

abbrev pub test : List ℕ → ℕ → ℕ → Bool
test frames f k = is_marked_number (slot frames f k)

abbrev pub invariant-loop-k : goal.invariant-loop-k
invariant-loop-k l = l.hit ≡ fold (some_of (test l.self.frames.now l.self.frame.0)) false l.k
