-- `numbers` meets its contract: the numbers before slot k are right. Assumes nothing.
use Rattle.std.proofs.Common.{◌≡◌, ◌∙◌, ap, arith}
use Rattle.std.specs.Prelude.{set}
use Rattle.seen.specs.Fold.{fold-none, fold_more}
use Rattle.agreement.specs.Fit.{number_below}
use Rattle.agreement.specs.FitLaws.{below_of}
use Rattle.agreement.proofs.words.Words.numbers.Goals as goal

pub loop-k-init : goal.loop-k-init
loop-k-init c = fold-none _ _

pub loop-k-preserved : goal.loop-k-preserved
loop-k-preserved c =
    let e = c.number_below.ensures ∙ ap (number_below c.args.self.now.pages) c.at.ensures in
    fold_more _ _ _ c.loop-k.invariant (ap (set c.loop-k.numbers c.loop-k.k) e)

pub returns : goal.returns
returns c = let e : c.loop-k.k ≡ 16 = omega arith in below_of _ _ _ (rw e at c.loop-k.invariant)
