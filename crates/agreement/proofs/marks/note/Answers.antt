-- `marks::note` meets its contract: the numbers with marks in the frames before f are noted. Assumes nothing.
use Rattle.std.proofs.Common.{◌+◌, ◌*◌, ◌≡◌, refl, sym, ◌∙◌, arith}
use Rattle.page.specs.Figures.{slot_count}
use Rattle.rules.specs.TestLaws.{clash}
use Rattle.agreement.specs.MarkedNumbers.{noting-none, noting-then, noting-then-stale}
use Rattle.agreement.proofs.marks.note.Goals as goal

pub loop-f-init : goal.loop-f-init
loop-f-init c = noting-none _ _ _

-- one of the frame's was noted before
pub returns-in_err-found : goal.returns-in_err-found
returns-in_err-found c =
    rw c.from_residual.ensures (record {
      few = omega arith;
      unasked = λ t. absurd (clash (sym t ∙ c.if-even.false));
      asked = λ t. noting-then-stale _ _ _ _ c.loop-f.seen c.loop-f.marked c.loop-f.invariant slot_count _ _ _ (rw c.from-pages.ensures at c.in_err-found.ensures) _ (omega arith) refl;
    })

pub loop-f-preserved : goal.loop-f-preserved
loop-f-preserved c =
    let q : slot_count * (c.loop-f.f + 1) ≡ slot_count * c.loop-f.f + slot_count = omega arith in
    rw q (noting-then _ _ _ _ c.loop-f.seen c.loop-f.marked c.loop-f.invariant slot_count _ _ _ (rw c.from-pages.ensures at c.in_ok-found.ensures) refl)
