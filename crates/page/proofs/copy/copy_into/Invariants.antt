-- What `page::copy::copy_into` keeps from byte to byte: those so far are copied.
use Rattle.std.specs.Prelude.{◌≡◌, length, take}
use Rattle.page.proofs.copy.copy_into.Given as goal

abbrev pub invariant-loop-i : goal.invariant-loop-i
invariant-loop-i l = (length l.dst ≡ length l.initial.dst) × (take l.i l.dst ≡ take l.i l.src)
