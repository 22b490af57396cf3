use Rattle.std.proofs.Common.{◌≡◌, ◌-◌}
use Rattle.checksum.specs.Checksum.{shifted_out, with_byte}
use Rattle.checksum.proofs.with_byte.Given as goal

abbrev pub invariant-loop : goal.invariant-loop
invariant-loop l = with_byte l.fn.crc l.fn.byte ≡ shifted_out (8 - l.counter) l.crc
