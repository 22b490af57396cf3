-- `seen::mark_slots` meets its contract: the first slots are marked, and then the others, unless they are all empty. Assumes nothing.
use Rattle.std.proofs.Common.{◌≡◌, arith}
use Rattle.seen.specs.SeenLaws.{marks-false, marks-over, marks-to}
use Rattle.seen.proofs.mark_slots.Goals as goal

-- a number in the first slots was noted before
pub returns-in_err-k-clause-marked : goal.returns-in_err-k-clause-marked
returns-in_err-k-clause-marked g c =
    let R = c.requires.names in
    rw c.from_residual.ensures (marks-false _ _ _ _ _ 4 16 (omega arith) _ (c.in_err-k.ensures.marked _ (λ k x l. R k x (omega arith))))

-- the others are empty
pub returns-then-names_few-clause-marked : goal.returns-then-names_few-clause-marked
returns-then-names_few-clause-marked g c =
    let R = c.requires.names in
    let first = c.in_ok-k.ensures.marked _ (λ k x l. R k x (omega arith)) in
    let e : c.in_ok-k.k ≡ 4 = omega (arith, first.0) in
    (omega arith, marks-over _ _ _ _ 4 12 _ _ _ c.requires.sizes.0 (c.names_few.ensures c.if-names_few.true) (rw e at first.1))

-- the others go on from the first
pub returns-clause-marked : goal.returns-clause-marked
returns-clause-marked g c =
    let R = c.requires.names in
    let first = c.in_ok-k.ensures.marked _ (λ k x l. R k x (omega arith)) in
    let e : c.in_ok-k.k ≡ 4 = omega (arith, first.0) in
    marks-to _ _ _ _ 4 _ _ _ _ (rw e at first.1) _ (c.mark_row-3.ensures.marked _ R)
