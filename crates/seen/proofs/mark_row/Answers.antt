-- `seen::mark_row` meets its contract: the slots from `first` to k are marked, in any row that is read. Assumes nothing.
use Rattle.std.proofs.Common.{◌≡◌, refl, sym, ◌∙◌, arith}
use Rattle.seen.specs.SeenLaws.{mark-notes, notes-zero, marks-more, marks-false}
use Rattle.seen.proofs.mark_row.Goals as goal
use Rattle.seen.proofs.mark_row.Goals.{then-x-ne0+else-limit-x+else-not-mark, else-x-ne0}

-- a number that was noted before
pub returns-then-not-mark-clause-marked : goal.returns-then-not-mark-clause-marked
returns-then-not-mark-clause-marked g c =
    λ w R. marks-false _ _ _ _ _ _ _ (omega arith) _
    (marks-more _ _ _ _ _ c.requires.sizes.0 c.loop-k.k c.loop-k.seen _ (R c.loop-k.k _ c.loop-k-test.true c.read-x.ensures (omega arith)) (λ n. omega arith) _ _ (λ t. mark-notes _ _ _ (omega arith) c.mark.ensures c.if-x-ne0.true) _ (sym c.if-not-mark.true) (c.loop-k.invariant w R))

pub loop-k-preserved : goal.loop-k-preserved
loop-k-preserved g c = λ w R. elim c.if-x-ne0.branch [
  | then-x-ne0+else-limit-x+else-not-mark b ↦ rw b.seen-is (marks-more _ _ _ _ _ c.requires.sizes.0 c.loop-k.k c.loop-k.seen _ (R c.loop-k.k _ c.loop-k-test.true c.read-x.ensures (omega (arith, b.if-limit-x.false))) (λ n. omega (arith, b.if-limit-x.false)) _ _ (λ t. mark-notes _ _ _ (omega (arith, b.if-limit-x.false)) b.mark.ensures b.if-x-ne0.true) _ (sym b.if-not-mark.false) (c.loop-k.invariant w R))
  | else-x-ne0 b ↦ rw b.seen-is (marks-more _ _ _ _ _ c.requires.sizes.0 c.loop-k.k c.loop-k.seen _ (R c.loop-k.k _ c.loop-k-test.true c.read-x.ensures (omega arith) ∙ b.if-x-ne0.false) (λ n. absurd (n refl)) _ _ (notes-zero _ _) _ refl (c.loop-k.invariant w R))
]

-- every slot is passed
pub returns-clause-marked : goal.returns-clause-marked
returns-clause-marked g c =
    let e : c.loop-k.k ≡ c.args.end = omega arith in
    λ w R. (omega arith, rw e at (c.loop-k.invariant w R))
