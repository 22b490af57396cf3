-- `fixing::load::usable_frame` meets its contract. Assumes nothing.
use Rattle.std.proofs.Common.{refl, sym, subst, ℕ}
use Rattle.rules.specs.TestLaws.{pick_yes, pick_no}
use Rattle.scan.specs.FoundByTable.{Told}
use Rattle.fixing.proofs.load.usable_frame.Goals as goal

-- the store is at its ceiling
pub returns-then-at_ceiling : goal.returns-then-at_ceiling
returns-then-at_ceiling c = sym (pick_yes _ c.if-at_ceiling.true refl)

-- it is below it
pub returns : goal.returns
returns c = subst (λ (x : ℕ). Told c.args.pool.now.count x c.first_empty.result) (pick_no _ c.if-at_ceiling.false refl) c.first_empty.ensures
