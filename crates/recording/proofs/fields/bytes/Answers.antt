-- `recording::fields::bytes` meets its contract. Assumes nothing.
use Rattle.std.specs.Prelude.{◌+◌, ◌-◌, ◌≡◌}
use Rattle.std.proofs.Common.{arith}
use Rattle.page.specs.Page.{bytes_from}
use Rattle.recording.specs.Listing.{length_in}
use Rattle.recording.proofs.fields.bytes.Goals as goal

pub returns : goal.returns
unfolding bytes_from
returns c =
    let n = c.from-end in
    let k : 7 + n.result - 7 ≡ length_in c.args.entry.now = omega (arith, n.ensures) in
    rw k
