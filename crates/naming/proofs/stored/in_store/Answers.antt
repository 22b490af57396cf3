-- `naming::stored::in_store` meets its contract: no page passed that is in no frame has w. Assumes nothing.
use Rattle.std.proofs.Common.{sym, ◌∙◌, arith}
use Rattle.naming.specs.Stored.{in-no-page, in-page, pass-other, pass-resident}
use Rattle.naming.proofs.stored.in_store.Goals as goal
use Rattle.naming.proofs.stored.in_store.Goals.{then-has+else-not-is_resident, else-has}

pub loop-p-init : goal.loop-p-init
loop-p-init c = in-no-page _ _ _ _ _

-- a page in no frame has it
pub returns-then-not-is_resident : goal.returns-then-not-is_resident
returns-then-not-is_resident c =
    sym (in-page _ _ _ _ _ _ c.loop-p.p (omega arith)
    (sym (rw (c.start-at.ensures, c.of.ensures) at c.has.ensures) ∙ c.if-has.true) (sym c.is_resident.ensures ∙ c.if-not-is_resident.true))

pub loop-p-preserved : goal.loop-p-preserved
loop-p-preserved c = elim c.if-has.branch [
  | then-has+else-not-is_resident w ↦ pass-resident _ _ _ _ _ _ (sym w.is_resident.ensures ∙ w.if-not-is_resident.false)
  | else-has w ↦ pass-other _ _ _ _ _ _ (sym (rw (c.start-at.ensures, c.of.ensures) at c.has.ensures) ∙ w.if-has.false)
] ∙ c.loop-p.invariant
