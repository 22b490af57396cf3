-- `counting::refusal::pages_fit` meets its contract. Assumes nothing.
use Rattle.std.proofs.Common.{◌≡◌, ℕ, max, ap, rules, ◌∙◌}
use Rattle.std.proofs.Math.Dec.{leb}
use Rattle.std.specs.List.{fold}
use Rattle.depths.specs.Tallying.{last_page}
use Rattle.counting.specs.RefusalLaws.{largest-decides}
use Rattle.counting.proofs.refusal.pages_fit.Goals as goal

pub returns : goal.returns
returns c =
    let run : c.fold-largest.result ≡ fold max 0 c.args.pages.now = search rules in
    ap (λ (n : ℕ). leb n last_page) run ∙ largest-decides c.args.pages.now
