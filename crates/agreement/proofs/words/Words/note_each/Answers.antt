-- `note_each` meets its contract: the numbers before slot k are noted, and the others add up to what is left of the sum. Assumes nothing.
use Rattle.std.proofs.Common.{◌∙◌, ap, arith}
use Rattle.agreement.specs.Fit.{number_below}
use Rattle.agreement.specs.NumberNotes.{noted-first, noted-inside, noted-last, noted-few, noted_small, noted-next, noted-stale}
use Rattle.agreement.proofs.words.Words.note_each.Goals as goal

pub loop-left-init : goal.loop-left-init
loop-left-init c = let P = c.args.self.now.in_range in noted-first _ _ _ P.0 P.1 P.2 _ c.requires _

pub overflow_cast-x : goal.overflow_cast-x
overflow_cast-x c =
    let P = c.args.self.now.in_range in
    let I = noted-inside _ _ _ P.0 P.1 P.2 _ _ _ _ c.loop-left.invariant c.loop-left-test.true in
    omega (arith, noted_small _ _ _ P.0 P.1 P.2 _ _ _ _ c.loop-left.invariant I _ (c.number_below-x.ensures ∙ ap (number_below c.args.self.now.pages) c.at.ensures))

pub note-requires : goal.note-requires
note-requires c =
    let P = c.args.self.now.in_range in
    let I = noted-inside _ _ _ P.0 P.1 P.2 _ _ _ _ c.loop-left.invariant c.loop-left-test.true in
    (P.0, noted_small _ _ _ P.0 P.1 P.2 _ _ _ _ c.loop-left.invariant I _ (c.number_below-x.ensures ∙ ap (number_below c.args.self.now.pages) c.at.ensures))

-- one was noted before
pub returns-then-not-note : goal.returns-then-not-note
returns-then-not-note c =
    let P = c.args.self.now.in_range in
    let I = noted-inside _ _ _ P.0 P.1 P.2 _ _ _ _ c.loop-left.invariant c.loop-left-test.true in
    noted-stale _ _ _ P.0 P.1 P.2 _ _ _ _ c.loop-left.invariant I _ (c.number_below-x.ensures ∙ ap (number_below c.args.self.now.pages) c.at.ensures) _ _ c.note.ensures c.if-not-note.true

pub overflow_sub-left : goal.overflow_sub-left
overflow_sub-left c =
    let P = c.args.self.now.in_range in
    let I = noted-inside _ _ _ P.0 P.1 P.2 _ _ _ _ c.loop-left.invariant c.loop-left-test.true in
    omega (arith, noted-few _ _ _ P.0 P.1 P.2 _ _ _ _ c.loop-left.invariant I _ (c.number_below-x.ensures ∙ ap (number_below c.args.self.now.pages) c.at.ensures))

pub overflow_add-k : goal.overflow_add-k
overflow_add-k c = let P = c.args.self.now.in_range in omega (arith, noted-inside _ _ _ P.0 P.1 P.2 _ _ _ _ c.loop-left.invariant c.loop-left-test.true)

pub loop-left-smaller : goal.loop-left-smaller
loop-left-smaller c = let P = c.args.self.now.in_range in omega (arith, noted-inside _ _ _ P.0 P.1 P.2 _ _ _ _ c.loop-left.invariant c.loop-left-test.true)

pub loop-left-preserved : goal.loop-left-preserved
loop-left-preserved c =
    let P = c.args.self.now.in_range in
    let I = noted-inside _ _ _ P.0 P.1 P.2 _ _ _ _ c.loop-left.invariant c.loop-left-test.true in
    noted-next _ _ _ P.0 P.1 P.2 _ _ _ _ c.loop-left.invariant I _ (c.number_below-x.ensures ∙ ap (number_below c.args.self.now.pages) c.at.ensures) _ _ c.note.ensures c.if-not-note.false

-- nothing is left
pub returns : goal.returns
returns c = let P = c.args.self.now.in_range in noted-last _ _ _ P.0 P.1 P.2 _ _ _ _ c.loop-left.invariant c.loop-left-test.false
