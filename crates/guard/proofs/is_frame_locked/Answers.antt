-- `guard::is_frame_locked` meets its contract: by the record that the pool has of the frame. Assumes nothing.
use Rattle.std.proofs.Common.{◌∙◌, []}
use Rattle.machine.specs.Machine.{state}
use Rattle.guard.specs.Held.{held-locked}
use Rattle.guard.proofs.is_frame_locked.Goals as goal

pub returns : goal.returns
returns c = (rw c.from.ensures at c.is_locked.ensures) ∙ held-locked (state c.args.pool.now c.args.frames.now [] []) c.args.frame.0
