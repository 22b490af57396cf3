-- The machine of a pool and the buffers lent to a call.
use Rattle.machine.specs.declared.Pool.{Pool}
use Rattle.machine.specs.declared.Buffers.{Buffers}
use Rattle.machine.specs.Machine.{State, state}

abbrev pub buffered : Pool → Buffers → State
buffered p b = state p b.frames.now b.store.now b.directory.now
