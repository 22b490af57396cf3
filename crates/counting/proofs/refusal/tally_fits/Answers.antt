-- `counting::refusal::tally_fits` meets its contract: the tests of rule 2. Assumes nothing.
use Rattle.std.proofs.Common.{◌*◌, ◌<◌, ◌≤◌, arith}
use Rattle.depths.specs.Tallying.{most_references}
use Rattle.counting.specs.RefusalLaws.{too_many, sum-decides}
use Rattle.counting.proofs.refusal.tally_fits.Goals as goal

pub returns-then-from-tally : goal.returns-then-from-tally
returns-then-from-tally c = let more : most_references * c.args.tally.recordings < c.args.tally.references = omega arith in too_many _ _ more

pub returns : goal.returns
returns c =
    let few : c.args.tally.references ≤ most_references * c.args.tally.recordings = omega arith in
    rw c.from-2.ensures (sum-decides _ _ _ c.requires few c.first.ensures)
