-- `guard::stores_fit` meets its contract: the tests of T and F, and then every ceiling before store t fits. Assumes nothing.
use Rattle.std.proofs.Common.{arith, sym, ◌∙◌, ◌≡◌, le-leb}
use Rattle.std.proofs.lemmas.Bool.{lt-leb}
use Rattle.page.specs.Figures.{most_stores}
use Rattle.rules.specs.TestLaws.{and_yes, and_no, every-zero, every-step, every-false}
use Rattle.machine.specs.Rules.{stores_fit}
use Rattle.guard.proofs.stores_fit.Goals as goal

-- T is 0
pub returns-then-stores-lt1 : goal.returns-then-stores-lt1
unfolding stores_fit
returns-then-stores-lt1 c = and_no _ (lt-leb _ _ (omega arith))

-- T is above 4
pub returns-then-from-gt-MOST : goal.returns-then-from-gt-MOST
unfolding stores_fit
returns-then-from-gt-MOST c = and_yes (le-leb _ _ (omega arith)) (and_no _ (lt-leb _ _ (omega arith)))

-- F isn't above T
pub returns-then-count-from : goal.returns-then-count-from
unfolding stores_fit
returns-then-count-from c = and_yes (le-leb _ _ (omega arith)) (and_yes (le-leb _ _ (omega arith)) (and_no _ (lt-leb _ _ (omega arith))))

pub loop-t-init : goal.loop-t-init
loop-t-init c = every-zero _

-- a ceiling doesn't fit
pub returns-then-not-ceiling_fits : goal.returns-then-not-ceiling_fits
unfolding stores_fit
returns-then-not-ceiling_fits c =
    and_yes (le-leb _ _ (omega arith)) (and_yes (le-leb _ _ (omega arith)) (and_yes (le-leb _ _ (omega arith))
    (sym (every-false most_stores _ c.loop-t.t (omega arith) (sym c.ceiling_fits.ensures ∙ c.if-not-ceiling_fits.true)))))

pub loop-t-preserved : goal.loop-t-preserved
loop-t-preserved c = every-step c.loop-t.t _ c.loop-t.invariant (sym c.ceiling_fits.ensures ∙ c.if-not-ceiling_fits.false)

-- all fit
pub returns : goal.returns
unfolding stores_fit
returns c =
    let all : c.loop-t.t ≡ most_stores = omega arith in
    and_yes (le-leb _ _ (omega arith)) (and_yes (le-leb _ _ (omega arith)) (and_yes (le-leb _ _ (omega arith)) (sym (rw all at c.loop-t.invariant))))
