-- `counting::sums::each` meets its contract: the numbers passed are sums. Assumes nothing.
use Rattle.std.proofs.Common.{sym, arith}
use Rattle.depths.proofs.TallyLaws.{within_none}
use Rattle.counting.specs.SumLaws.{sum_goes, running-start, running-goes, running-all}
use Rattle.counting.proofs.sums.each.Goals as goal

pub loop-i-init : goal.loop-i-init
loop-i-init c = (sym (within_none _), omega arith, running-start _ _ c.requires.1)

pub loop-i-preserved : goal.loop-i-preserved
loop-i-preserved c =
    let e = sum_goes _ _ _ _ c.loop-i.invariant.0 c.from-sum.ensures in
    (e, omega arith, running-goes _ c.loop-i.invariant.2 (omega arith) e)

pub returns : goal.returns
returns c = running-all c.loop-i.invariant.2 (omega arith)
