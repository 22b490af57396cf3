-- `residents::held` meets its contract: `n` counts the frames passed. Assumes nothing.
use Rattle.std.proofs.Common.{◌≡◌, ◌≤◌, rules, arith}
use Rattle.chains.proofs.FrameTally.{tally-le}
use Rattle.residents.specs.Residents.{held_by}
use Rattle.residents.specs.HeldByTable.{held_first, entry-counts, entry-passes}
use Rattle.residents.proofs.held.Goals as goal
use Rattle.residents.proofs.held.Goals.{then-entry-store, else-entry-store}

pub loop-f-init : goal.loop-f-init
loop-f-init c = rw c.from-store.ensures (held_first _ _)

pub overflow_add-n : goal.overflow_add-n
overflow_add-n c =
    let few : c.loop-f.n ≤ c.loop-f.f = rw c.loop-f.invariant (tally-le _ _) in
    search (rules, few)

pub loop-f-preserved : goal.loop-f-preserved
loop-f-preserved c = elim c.if-entry-store.branch [
  | then-entry-store w ↦ entry-counts _ _ c.loop-f.n _ c.loop-f.f c.loop-f.auto.f c.loop-f.invariant w.if-entry-store.true w.n-is
  | else-entry-store w ↦ entry-passes _ _ c.loop-f.n _ c.loop-f.f c.loop-f.auto.f c.loop-f.invariant w.if-entry-store.false w.n-is
]

pub returns : goal.returns
unfolding held_by
returns c =
    let e : c.loop-f.f ≡ c.args.count = omega arith in
    rw (e, c.from-store.ensures) at c.loop-f.invariant
