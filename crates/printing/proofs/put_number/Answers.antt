-- `printing::put_number` meets its contract: a u16 has at most 5 digits. Assumes nothing.
use Rattle.std.proofs.Common.{arith}
use Rattle.std.proofs.lemmas.Result.{IfOk-at_ok}
use Rattle.printing.specs.PrintingLaws.{few, number-put}
use Rattle.printing.proofs.put_number.Goals as goal

pub unwrap-requires : goal.unwrap-requires
unwrap-requires g c =
    let five = few _ _ (rw c.from.ensures at c.decimal-count.ensures.len) c.ranges.n.fits in
    c.try_extend_from_slice.ensures.variant.1 (omega (arith, five))

pub push-requires : goal.push-requires
push-requires g c =
    let five = few _ _ (rw c.from.ensures at c.decimal-count.ensures.len) c.ranges.n.fits in
    let size = IfOk-at_ok _ c.unwrap.ensures c.try_extend_from_slice.ensures.len in
    (omega arith, omega (arith, five, size))

pub returns-clause-size : goal.returns-clause-size
returns-clause-size g c =
    let five = few _ _ (rw c.from.ensures at c.decimal-count.ensures.len) c.ranges.n.fits in
    let size = IfOk-at_ok _ c.unwrap.ensures c.try_extend_from_slice.ensures.len in
    omega (arith, five, size)

pub returns-clause-text_after : goal.returns-clause-text_after
returns-clause-text_after g c =
    let e = c.decimal-count.ensures in
    let put = IfOk-at_ok _ c.unwrap.ensures c.try_extend_from_slice.ensures.ok in
    number-put _ _ _ _ c.ranges.n.fits (rw c.from.ensures at e.len) (rw c.from.ensures at e.digits) put c.push.ensures.items
