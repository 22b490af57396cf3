-- `ceilings::hold` meets its contract: the stores before t have no more pages than their ceilings. Assumes nothing.
use Rattle.std.proofs.Common.{leb, le-leb, leb-true, ◌≡◌, ap, arith, below_more}
use Rattle.rules.specs.Deciding.{decide-flag}
use Rattle.agreement.specs.Fit.{entry, UnderCeilings}
use Rattle.agreement.proofs.ceilings.hold.Goals as goal

-- there is one store
pub returns-then-pool-eq1 : goal.returns-then-pool-eq1
returns-then-pool-eq1 c =
    let held = c.requires.3 c.if-pool-eq1.true in
    decide-flag (leb c.args.occupied c.from.result) (UnderCeilings c.args.residents.now c.args.pool.now.count c.args.pool.now.stores c.args.pool.now.ceilings)
    (λ z t l. let e : t ≡ 0 = omega arith in rw e (omega (arith, held, leb-true c.args.occupied c.from.result z, c.from.ensures)))
    (λ under. le-leb c.args.occupied c.from.result (omega (arith, held, under 0 (omega arith), c.from.ensures)))

-- store t has more pages than its ceiling
pub returns-then-ceiling-held : goal.returns-then-ceiling-held
returns-then-ceiling-held c =
    let e = ap (entry c.args.pool.now.ceilings) c.from-in-loop-t.ensures in
    λ under. omega (arith, under c.loop-t.t (omega arith), (rw c.from-count.ensures at c.held.ensures), c.if-ceiling-held.true, c.from-ceiling.ensures, e)

pub loop-t-preserved : goal.loop-t-preserved
loop-t-preserved c =
    let e = ap (entry c.args.pool.now.ceilings) c.from-in-loop-t.ensures in
    below_more _ c.loop-t.t c.loop-t.invariant (omega (arith, (rw c.from-count.ensures at c.held.ensures), c.if-ceiling-held.false, c.from-ceiling.ensures, e))
