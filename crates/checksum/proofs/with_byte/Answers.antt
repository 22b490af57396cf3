-- `checksum::with_byte` meets its contract. The invariant: with the bits left shifted out, it is the check with the byte. Assumes nothing.
use Rattle.std.proofs.Common.{◌-◌, sym, ap₂, ◌∙◌, arith}
use Rattle.checksum.specs.Checksum.{shifted_out}
use Rattle.checksum.proofs.ChecksumLaws.{byte-in, one_out, none_out}
use Rattle.checksum.proofs.with_byte.Goals as goal

pub loop-init : goal.loop-init
loop-init c = rw c.from.ensures (byte-in c.args.crc c.args.byte (omega arith))

pub loop-preserved : goal.loop-preserved
loop-preserved c = c.loop.invariant ∙ one_out (8 - c.loop.counter) c.loop.crc (omega arith) ∙ ap₂ shifted_out (omega arith) (sym c.shifted-crc.ensures)

pub returns : goal.returns
returns c = sym (c.loop.invariant ∙ none_out (8 - c.loop.counter) c.loop.crc (omega arith))
