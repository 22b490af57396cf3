-- `counting::refusal::first_broken` meets its contract: the rules in their order. Assumes nothing.
use Rattle.std.proofs.Common.{sym, ◌∙◌}
use Rattle.counting.specs.RefusalLaws.{sizes-counters, broken-1, broken-2, broken-6, broken-none}
use Rattle.counting.proofs.refusal.first_broken.Goals as goal

pub returns-then-not-sizes_fit : goal.returns-then-not-sizes_fit
returns-then-not-sizes_fit c = broken-1 _ _ _ (sym c.sizes_fit.ensures ∙ c.if-not-sizes_fit.true)

pub tally_fits-requires : goal.tally_fits-requires
tally_fits-requires c = sizes-counters _ _ _ (sym c.sizes_fit.ensures ∙ c.if-not-sizes_fit.false)

pub returns-then-not-tally_fits : goal.returns-then-not-tally_fits
returns-then-not-tally_fits c = broken-2 _ _ _ (sym c.sizes_fit.ensures ∙ c.if-not-sizes_fit.false) (sym c.tally_fits.ensures ∙ c.if-not-tally_fits.true)

pub returns-then-not-pages_fit : goal.returns-then-not-pages_fit
returns-then-not-pages_fit c = broken-6 _ _ _ (sym c.sizes_fit.ensures ∙ c.if-not-sizes_fit.false) (sym c.tally_fits.ensures ∙ c.if-not-tally_fits.false) (sym c.pages_fit.ensures ∙ c.if-not-pages_fit.true)

pub returns : goal.returns
returns c = broken-none _ _ _ (sym c.sizes_fit.ensures ∙ c.if-not-sizes_fit.false) (sym c.tally_fits.ensures ∙ c.if-not-tally_fits.false) (sym c.pages_fit.ensures ∙ c.if-not-pages_fit.false)
