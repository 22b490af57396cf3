-- `is_fitting` meets its contract. Assumes nothing.
use Rattle.std.proofs.Common.{eq-eqb, ne_eqb}
use Rattle.rules.specs.Deciding.{decide_by}
use Rattle.agreement.specs.FitLaws.{fits-root, fits-linked, fits-empty}
use Rattle.agreement.proofs.frame.is_fitting.Goals as goal

-- a root
pub returns-then-frame-pool : goal.returns-then-frame-pool
returns-then-frame-pool c = decide_by c.root_fits.result _ _ (λ k. fits-root _ _ _ _ _ _ _ c.if-frame-pool.true k) (λ k. k.root c.if-frame-pool.true) c.root_fits.ensures

-- an occupied frame, by the word that names it
pub returns-then-rec-eq1 : goal.returns-then-rec-eq1
returns-then-rec-eq1 c =
    decide_by c.is_linked.result _ _ (λ k. fits-linked _ _ _ _ _ _ _ c.if-frame-pool.false (eq-eqb _ 1 c.if-rec-eq1.true) c.if-not-resident_fits.ensures k) (λ k. k.linked c.if-frame-pool.false (eq-eqb _ 1 c.if-rec-eq1.true)) c.is_linked.ensures

-- an empty frame
pub returns : goal.returns
returns c = decide_by c.is_blank.result _ _ (λ b. fits-empty _ _ _ _ _ _ _ c.if-frame-pool.false b) (λ k. k.empty (ne_eqb _ 1 c.if-rec-eq1.false)) c.is_blank.ensures
