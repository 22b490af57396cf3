-- `generator::seeded` meets its contract. Assumes nothing.
use Rattle.std.proofs.Common.{◌≡◌, max, rules, ◌∙◌}
use Rattle.generator.specs.SeedLaws.{seed-largest}
use Rattle.generator.proofs.seeded.Goals as goal

pub returns : goal.returns
returns c = let e : c.max.result ≡ max c.args.seed 1 = search rules in e ∙ seed-largest c.args.seed
