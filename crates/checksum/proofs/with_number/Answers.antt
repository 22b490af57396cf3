-- `checksum::with_number` meets its contract. The invariant: with the bytes of what is left of the number, it is the check with all of them. Assumes nothing.
use Rattle.std.proofs.Common.{◌/◌, sym, refl, ap, ◌∙◌, arith}
use Rattle.checksum.specs.Checksum.{with_bytes, octets}
use Rattle.checksum.proofs.ChecksumLaws.{octet-in, no-octet}
use Rattle.checksum.proofs.with_number.Goals as goal

pub loop-n-init : goal.loop-n-init
loop-n-init c = (omega arith, refl)

pub loop-n-preserved : goal.loop-n-preserved
loop-n-preserved c = (omega arith, c.loop-n.invariant.1 ∙ octet-in c.loop-n.crc c.loop-n.n c.loop-n-test.true c.loop-n.invariant.0 ∙ ap (λ x. with_bytes x (octets 8 (c.loop-n.n / 256))) (sym c.with_byte-crc.ensures))

pub returns : goal.returns
returns c = sym (c.loop-n.invariant.1 ∙ no-octet c.loop-n.crc c.loop-n.n c.loop-n-test.false)
