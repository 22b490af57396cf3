use Rattle.std.proofs.Common.{◌-◌}
use Rattle.page.specs.Figures.{slot_count}
use Rattle.page.specs.Page.{slot}
use Rattle.agreement.specs.NumberNotes.{NotedTo}
use Rattle.agreement.proofs.words.Words.note_each.Given as goal

abbrev pub invariant-loop-left : goal.invariant-loop-left
invariant-loop-left l = NotedTo (slot l.self.frames.now l.self.frame.0) l.self.pages l.self.of_store.0 l.k l.left l.initial.seen l.seen

abbrev pub decreases-loop-left : goal.decreases-loop-left
decreases-loop-left l = slot_count - l.k
