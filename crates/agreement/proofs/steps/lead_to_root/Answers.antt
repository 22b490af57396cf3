-- `lead_to_root` meets its contract: each entry is where as many steps lead, or more. Assumes nothing.
use Rattle.std.proofs.Common.{◌≡◌, ℕ, ◌+◌, ◌^◌, refl, arith, add-one}
use Rattle.rules.specs.Deciding.{decided, fails}
use Rattle.agreement.specs.ParentSteps.{steps-one, lead-of, at-root, lead-in-order}
use Rattle.agreement.proofs.steps.lead_to_root.Goals as goal

-- each parent lies before its frame
pub returns-then-in_order : goal.returns-then-in_order
returns-then-in_order c = lead-in-order _ _ c.args.parents c.requires.0 c.requires.2 (c.in_order.ensures c.if-in_order.true)

-- one round more doubles them
twice : (n : ℕ) → 2 ^ (n + 1) ≡ 2 ^ n + 2 ^ n
twice n = rw (add-one n) (omega arith)

-- all are at frame 0
pub returns-then-jump : goal.returns-then-jump
returns-then-jump c =
    let s = c.jump.ensures.jumps _ _ c.requires.1.lt c.loop-round.invariant.0 in
    lead-of _ _ _ _ s (decided _ _ c.jump.ensures.root c.if-jump.true)

pub loop-round-preserved : goal.loop-round-preserved
loop-round-preserved c =
    let s = c.jump.ensures.jumps _ _ c.requires.1.lt c.loop-round.invariant.0 in
    (rw (twice c.loop-round.round) s, c.jump.ensures.below, λ h. fails _ _ c.jump.ensures.root c.if-jump.false)

-- 64 steps, and one is not
pub returns : goal.returns
returns c =
    let e : c.loop-round.round ≡ 6 = omega arith in
    λ lead. c.loop-round.invariant.2 (omega arith) (at-root _ _ _ _ c.requires.1.lt c.requires.2 (omega arith) (rw e at c.loop-round.invariant.0) lead)

pub loop-round-init : goal.loop-round-init
loop-round-init c = (steps-one _ _ _ (λ f l. refl), c.requires.1, λ h. absurd (omega arith))
