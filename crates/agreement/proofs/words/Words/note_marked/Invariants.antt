use Rattle.std.proofs.Common.{true}
use Rattle.page.specs.Page.{slot}
use Rattle.agreement.specs.Fit.{marks_from, marked_from, MarksNoted}
use Rattle.agreement.proofs.words.Words.note_marked.Given as goal

abbrev pub invariant-loop-k : goal.invariant-loop-k
invariant-loop-k l = MarksNoted (marks_from (slot l.self.frames.now l.self.frame.0) l.self.pages) (marked_from (slot l.self.frames.now l.self.frame.0) l.self.pages l.self.of_store.0) l.k l.initial.seen l.seen l.count true
