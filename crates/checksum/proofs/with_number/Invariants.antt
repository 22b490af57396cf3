use Rattle.std.proofs.Common.{◌≡◌, ◌^◌, ◌<◌}
use Rattle.checksum.specs.Checksum.{with_bytes, octets}
use Rattle.checksum.proofs.with_number.Given as goal

abbrev pub invariant-loop-n : goal.invariant-loop-n
invariant-loop-n l = (l.n < 2 ^ 64) × (with_bytes l.fn.crc (octets 8 l.fn.n) ≡ with_bytes l.crc (octets 8 l.n))

abbrev pub decreases-loop-n : goal.decreases-loop-n
decreases-loop-n l = l.n
