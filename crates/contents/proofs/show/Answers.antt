-- `contents::show` meets its contract: the place lies within its buffer, and the part there is handed back. Assumes nothing.
use Rattle.machine.specs.Machine.{state}
use Rattle.contents.specs.Places.{show-within}
use Rattle.contents.proofs.show.Goals as goal

pub part_at-requires : goal.part_at-requires
part_at-requires c = show-within (state c.args.pool.now c.args.frames.now c.args.store.now c.args.directory.now) c.args.handle _ c.show_place-place.ensures
