use Rattle.std.proofs.Common.{◌≡◌}
use Rattle.page.specs.Page.{slot}
use Rattle.seen.specs.Fold.{fold}
use Rattle.agreement.specs.Fit.{add_word}
use Rattle.agreement.proofs.words.Words.sum.Given as goal

abbrev pub invariant-loop-k : goal.invariant-loop-k
invariant-loop-k l = l.sum ≡ fold (add_word (slot l.self.frames.now l.self.frame.0) l.self.pages) 0 l.k
