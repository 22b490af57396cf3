-- `contents::peek` meets its contract: the place lies within its buffer, and the part there is handed back. Assumes nothing.
use Rattle.machine.specs.Machine.{state}
use Rattle.contents.specs.Places.{peek-within}
use Rattle.contents.proofs.peek.Goals as goal

pub part_at-requires : goal.part_at-requires
part_at-requires c = peek-within (state c.args.pool.now c.args.frames.now c.args.store.now c.args.directory.now) c.args.of_store.0 c.args.page _ c.peek_place-place.ensures
