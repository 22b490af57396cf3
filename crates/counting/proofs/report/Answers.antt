-- `counting::report` meets its contract: another number of counters or of hits leaves all. Assumes nothing.
use Rattle.std.proofs.Common.{◌≡◌, length, arith}
use Rattle.depths.specs.Tallying.{depth_count}
use Rattle.counting.specs.RefusalLaws.{report-counters, report-hits, report-done}
use Rattle.counting.proofs.report.Goals as goal

pub returns-then-counts-ne-DEPTHS : goal.returns-then-counts-ne-DEPTHS
returns-then-counts-ne-DEPTHS c = report-counters _ _ c.if-counts-ne-DEPTHS.true

pub returns-then-hits-ne-DEPTHS : goal.returns-then-hits-ne-DEPTHS
returns-then-hits-ne-DEPTHS c = report-hits _ _ c.if-counts-ne-DEPTHS.false c.if-hits-ne-DEPTHS.true

pub returns : goal.returns
returns c =
    let counters : length c.args.counts.now ≡ depth_count = omega arith in
    let places : length c.args.hits.now ≡ depth_count = omega arith in
    report-done _ _ _ counters places c.each.ensures
