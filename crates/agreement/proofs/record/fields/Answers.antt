-- `fields` meets its contract. Assumes nothing.
use Rattle.std.proofs.Common.{ℕ, ◌+◌, ◌*◌, ◌≡◌, arith}
use Rattle.std.specs.Int.Bits.{bit_or}
use Rattle.agreement.specs.FitLaws.{or_nothing, nothing-or}
use Rattle.agreement.proofs.record.fields.Goals as goal

three-nothing : (a b d : ℕ) → bit_or (bit_or a b) d ≡ 0 → (a ≡ 0) × (b ≡ 0) × (d ≡ 0)
three-nothing a b d e = let o = or_nothing (bit_or a b) d e in let p = or_nothing a b o.0 in (p.0, p.1, o.1)

pub returns : goal.returns
returns c = (
  λ e.
      let z = three-nothing c.from_le_bytes-first.result c.from-3.result (c.from.result + 65536 * c.from-2.result) e in
      record { used = omega (arith, z.0); dirty = omega (arith, z.0); usage = omega (arith, z.0); slot = omega (arith, z.0); parent = omega (arith, z.1); store = omega (arith, z.1); pins = omega (arith, z.2); page = omega (arith, z.2) },
  λ b.
      nothing-or (bit_or c.from_le_bytes-first.result c.from-3.result) (c.from.result + 65536 * c.from-2.result)
      (nothing-or c.from_le_bytes-first.result c.from-3.result (omega (arith, b.used, b.dirty, b.usage, b.slot)) (omega (arith, b.parent, b.store))) (omega (arith, b.pins, b.page)),
)
