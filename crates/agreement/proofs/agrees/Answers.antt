-- `agrees` meets its contract: the frames before f are settled, then the records from F on, then the numbers with marks, then the ceilings, then the parents. Assumes nothing.
use Rattle.std.proofs.Common.{ℕ, ◌+◌, ◌≤◌, ◌≡◌, true, false, List, eqb, refl, arith}
use Rattle.machine.specs.declared.Pool.{Pool}
use Rattle.seen.specs.Seen.{Seen}
use Rattle.agreement.specs.Sizes.{Sizes}
use Rattle.agreement.specs.Fit.{RestBlank, AllMarks, Before, Settled}
use Rattle.agreement.specs.FitLaws.{used-few}
use Rattle.agreement.specs.PassLaws.{before-first, before-few, stands-twice, before_more, held-alone, marks-twice, frames-even, settle, rest_more}
use Rattle.agreement.proofs.Same.{end-hand, end_rest, end-frames, end-ceilings, frames-least}
use Rattle.agreement.proofs.Hands.{end-all}
use Rattle.agreement.proofs.agrees.Goals as goal

-- the hand isn't below F
pub returns-then-count-from : goal.returns-then-count-from
returns-then-count-from c = end-hand _ _ c.requires.0 _ _ c.from.result c.from.ensures (omega arith)

pub loop-f-init : goal.loop-f-init
loop-f-init c = before-first _ _ _ _ _ _ _ _ (omega (arith, c.requires.0.most)) c.requires.1

-- a frame's record or the word that names it doesn't fit
pub returns-then-not-is_fitting : goal.returns-then-not-is_fitting
returns-then-not-is_fitting c = end-frames _ _ c.requires.0 _ _ (λ k. c.if-not-is_fitting.ensures (k.fits _ (omega arith)))

-- a number in a frame stands twice
pub returns-in_default : goal.returns-in_default
returns-in_default c = end-frames _ _ c.requires.0 _ _ (stands-twice _ _ _ _ _ _ _ _ _ _ _ c.loop-f.invariant (omega arith) _ _ false c.in_default.ensures c.requires.0.pages refl)

pub overflow_add-over : goal.overflow_add-over
overflow_add-over c = omega (arith, (before-few _ _ _ _ _ _ _ _ _ _ _ c.loop-f.invariant).1, c.in-Some.ensures.few)

pub overflow_add-occupied : goal.overflow_add-occupied
overflow_add-occupied c = omega (arith, (before-few _ _ _ _ _ _ _ _ _ _ _ c.loop-f.invariant).0, c.from-occupied.ensures, used-few _ _ _ _ _ _ _ c.if-not-is_fitting.ensures)

pub loop-f-preserved : goal.loop-f-preserved
loop-f-preserved c = rw c.from-occupied.ensures (before_more _ _ _ _ _ _ _ _ _ _ _ c.loop-f.invariant (omega arith) _ _ true c.in-Some.ensures (omega arith) c.if-not-is_fitting.ensures refl _ c.key-key.ensures)

pub loop-f-2-preserved : goal.loop-f-2-preserved
loop-f-2-preserved c = rest_more _ _ _ _ _ (omega arith) c.fields-rest.ensures c.loop-f-2.invariant

-- a record from F on is not all zero
pub returns-then-rest-ne0 : goal.returns-then-rest-ne0
returns-then-rest-ne0 c = end_rest _ _ c.requires.0 _ _ (λ r. c.if-rest-ne0.true (c.loop-f-2.invariant.1 (λ g a b. r g a (omega arith))))

-- a number with a mark stands twice
pub returns-in_default-note : goal.returns-in_default-note
returns-in_default-note c =
    let S = c.requires.0 in
    end-frames _ _ S _ _
    (marks-twice _ _ _ _ _ _ _ _ _ _ _ c.loop-f.invariant (omega arith) S.one S.some S.pages _ _ false (rw c.from-2.ensures at c.in_default-note.ensures) refl)

-- a word that isn't below N is no frame's own
pub returns-then-frames_named-occupied : goal.returns-then-frames_named-occupied
returns-then-frames_named-occupied c =
    let S = c.requires.0 in
    end-frames _ _ S _ _
    (λ k. (rw c.from-2.ensures at c.if-frames_named-occupied.true) (frames-even _ _ _ _ _ _ _ _ _ _ _ c.loop-f.invariant (omega arith) S.one S.some S.pages _ _ true (rw c.from-2.ensures at c.in-Some-note.ensures) refl k))

-- what is settled before the parents are followed
settled : (p : Pool) (fs : List ℕ) (S : Sizes p.count p.pages p.stores fs) (f : ℕ) (seen : Seen) (t residents : List ℕ) (occupied over : ℕ) → Before p.records fs p.count p.pages p.stores f seen t residents occupied over → p.count ≤ f
    → (seen' : Seen) (count : ℕ) → AllMarks residents fs p.count p.pages (eqb (over + p.stores) occupied) seen seen' count true → over + p.stores ≡ occupied + count → RestBlank p.records p.count → Settled p.records fs p.count p.pages p.stores seen' t residents
settled p fs S f seen t residents occupied over B l seen' count M e rest =
    settle _ _ _ _ _ _ _ _ _ _ _ B l S.one S.some S.pages seen' count true M (frames-least p fs S (λ g m. B.fits g (omega arith))) refl e rest

-- a store has more pages than its ceiling
pub returns-then-not-hold : goal.returns-then-not-hold
returns-then-not-hold c =
    let Z = settled c.args.pool.now _ c.requires.0 _ _ _ _ _ _ c.loop-f.invariant (omega arith) _ _ (rw c.from-2.ensures at c.in-Some-note.ensures) (rw c.from-2.ensures at c.if-frames_named-occupied.false) (λ g a b. c.loop-f-2.invariant.0 c.if-rest-ne0.false g a (omega arith)) in
    end-ceilings _ _ c.requires.0 _ _ _ Z c.if-not-hold.ensures

-- each frame fits, so that its parents decide
pub returns : goal.returns
returns c =
    let Z = settled c.args.pool.now _ c.requires.0 _ _ _ _ _ _ c.loop-f.invariant (omega arith) _ _ (rw c.from-2.ensures at c.in-Some-note.ensures) (rw c.from-2.ensures at c.if-frames_named-occupied.false) (λ g a b. c.loop-f-2.invariant.0 c.if-rest-ne0.false g a (omega arith)) in
    end-all _ _ c.requires.0 _ _ _ Z c.if-not-hold.ensures c.from.result c.from.ensures (omega arith) c.lead_to_root.result (rw c.from-count.ensures at c.lead_to_root.ensures)

pub overflow_add-frames_named : goal.overflow_add-frames_named
overflow_add-frames_named c = omega (arith, (before-few _ _ _ _ _ _ _ _ _ _ _ c.loop-f.invariant).1, c.loop-f.invariant.most)

pub overflow_add-occupied-2 : goal.overflow_add-occupied-2
overflow_add-occupied-2 c = omega (arith, (before-few _ _ _ _ _ _ _ _ _ _ _ c.loop-f.invariant).0, c.loop-f.invariant.most, c.in-Some-note.ensures.few)

pub hold-requires : goal.hold-requires
hold-requires c =
    let S = c.requires.0 in
    (omega (arith, S.least), S.most, S.stores, held-alone _ _ _ _ _ _ _ _ _ _ _ c.loop-f.invariant (omega arith) S.one S.some S.pages)
