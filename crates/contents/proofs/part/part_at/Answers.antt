-- `contents::part::part_at` meets its contract: in the store, in the frames, and refused. Assumes nothing.
use Rattle.std.proofs.Common.{◌≡◌, ◌+◌, arith}
use Rattle.page.specs.Page.{bytes_from}
use Rattle.machine.specs.Answers.{lent, cut}
use Rattle.contents.specs.Places.{cut-part}
use Rattle.contents.proofs.part.part_at.Goals as goal
use Rattle.contents.proofs.part.part_at.Goals.{then-payload, else-payload}

pub returns-after-payload : goal.returns-after-payload
returns-after-payload c = elim c.if-payload.branch [
  | then-payload w ↦ rw (w.buffer-is, c.in-Ok.is, w.if-payload.true, cut-part (lent c.args.store) c.in-Ok.payload.start c.in-Ok.payload.size)
  | else-payload w ↦ rw (w.buffer-is, c.in-Ok.is, w.if-payload.false, cut-part (lent c.args.frames) c.in-Ok.payload.start c.in-Ok.payload.size)
]

pub returns-in-Err : goal.returns-in-Err
unfolding cut bytes_from
returns-in-Err c =
    let z : 0 + c.args.frames.ref_ptr.1 ≡ c.args.frames.ref_ptr.1 = omega arith in
    rw (c.in-Err.is, c.number.ensures, z)
