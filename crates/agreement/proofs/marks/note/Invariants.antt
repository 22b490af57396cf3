use Rattle.std.proofs.Common.{◌*◌, true}
use Rattle.page.specs.Figures.{slot_count}
use Rattle.residents.specs.Residents.{holds_page, store_by}
use Rattle.agreement.specs.Fit.{is_marked_in, marked_in_frames, MarksNoted}
use Rattle.agreement.proofs.marks.note.Given as goal

abbrev pub invariant-loop-f : goal.invariant-loop-f
invariant-loop-f l = MarksNoted (is_marked_in (holds_page l.residents) l.frames l.pool.pages) (marked_in_frames (holds_page l.residents) (store_by l.residents) l.frames l.pool.pages) (slot_count * l.f) l.initial.seen l.seen l.marked true
