-- `frame::note` meets its contract: the numbers of an occupied frame, none of an empty one. Assumes nothing.
use Rattle.std.proofs.Common.{refl, sym, ◌∙◌, arith, ne_eqb}
use Rattle.rules.specs.TestLaws.{clash}
use Rattle.agreement.specs.Twice.{pass-zeros}
use Rattle.agreement.proofs.frame.note.Goals as goal

-- it is empty
pub returns-else-rec-eq1 : goal.returns-else-rec-eq1
returns-else-rec-eq1 c =
    let empty = ne_eqb _ 1 c.if-rec-eq1.false in
    record {
      few = omega arith;
      counts = λ e u. absurd (clash (sym u ∙ empty));
      nothing = λ u. refl;
      notes = λ row i h t. pass-zeros row i _ 17 (h.empty empty) t;
      alone = λ z A. A;
    }
