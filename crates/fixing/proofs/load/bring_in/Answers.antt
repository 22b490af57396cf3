-- `fixing::load::bring_in` meets its contract. Assumes nothing.
use Rattle.std.proofs.Common.{sym, ◌∙◌}
use Rattle.machine.specs.Machine.{state}
use Rattle.machine.proofs.Laws.Ready.{ready}
use Rattle.moves.specs.InAndOut.{followed}
use Rattle.fixing.specs.StepLaws.{records-few, ceiling-told, took, victim-below, victim-removable, victim-fitting, swept-given, swept-denied, own-denied, denied-told, empty-told, swept-told}
use Rattle.fixing.proofs.load.bring_in.Goals as goal

-- 14
pub returns-then-not-is_loadable : goal.returns-then-not-is_loadable
returns-then-not-is_loadable c =
    let s = state c.args.pool.now c.args.frames.now c.args.store.now c.args.directory.now in
    let K = c.requires.0 in
    let H = c.requires.1 in
    let l = rw c.from-n.ensures at c.is_loadable.ensures in
    denied-told s K H c.args.parent.0 c.args.slot c.args.of_store.0 c.args.page.0 c.requires.4 l c.if-not-is_loadable.true

-- into an empty frame
pub returns-in-Some : goal.returns-in-Some
returns-in-Some c =
    let s = state c.args.pool.now c.args.frames.now c.args.store.now c.args.directory.now in
    let K = c.requires.0 in
    let H = c.requires.1 in
    let l = rw c.from-n.ensures at c.is_loadable.ensures in
    empty-told s K H c.args.parent.0 c.args.slot c.args.of_store.0 c.args.page.0 c.requires.4 l c.if-not-is_loadable.false c.is_at_ceiling-at_ceiling.ensures c.in-Some.frame c.in-Some.ensures c.load-pinned.ensures

pub sights-sights-requires : goal.sights-sights-requires
sights-sights-requires c =
    let s = state c.args.pool.now c.args.frames.now c.args.store.now c.args.directory.now in
    let K = c.requires.0 in
    let H = c.requires.1 in
    (K.sized.most, K.sized.frames, records-few s (ready s K), ceiling-told s K H c.args.of_store.0 c.is_at_ceiling-at_ceiling.ensures)

-- 27: the store is at its ceiling
pub returns-then-at_ceiling : goal.returns-then-at_ceiling
returns-then-at_ceiling c =
    let s = state c.args.pool.now c.args.frames.now c.args.store.now c.args.directory.now in
    let K = c.requires.0 in
    let H = c.requires.1 in
    let l = rw c.from-n.ensures at c.is_loadable.ensures in
    let full = sym (ceiling-told s K H c.args.of_store.0 c.is_at_ceiling-at_ceiling.ensures) ∙ c.if-at_ceiling.true in
    swept-told s K H c.args.parent.0 c.args.slot c.args.of_store.0 c.args.page.0 c.requires.4 l c.if-not-is_loadable.false c.is_at_ceiling-at_ceiling.ensures c.in_default.ensures (own-denied s c.args.of_store.0 (ready s K) c.sights-sights.ensures c.sweep-walk.ensures c.args.parent.0 c.args.slot c.args.page.0 c.in_default-frame.is full)

-- 15: it is below it
pub returns-in_default-frame : goal.returns-in_default-frame
returns-in_default-frame c =
    let s = state c.args.pool.now c.args.frames.now c.args.store.now c.args.directory.now in
    let K = c.requires.0 in
    let H = c.requires.1 in
    let l = rw c.from-n.ensures at c.is_loadable.ensures in
    let full = sym (ceiling-told s K H c.args.of_store.0 c.is_at_ceiling-at_ceiling.ensures) ∙ c.if-at_ceiling.false in
    swept-told s K H c.args.parent.0 c.args.slot c.args.of_store.0 c.args.page.0 c.requires.4 l c.if-not-is_loadable.false c.is_at_ceiling-at_ceiling.ensures c.in_default.ensures (swept-denied s c.args.of_store.0 (ready s K) c.sights-sights.ensures c.sweep-walk.ensures c.args.parent.0 c.args.slot c.args.page.0 c.in_default-frame.is full)

pub bounds-pool-from : goal.bounds-pool-from
bounds-pool-from c =
    let s = state c.args.pool.now c.args.frames.now c.args.store.now c.args.directory.now in
    let K = c.requires.0 in
    let H = c.requires.1 in
    let T = took s c.args.of_store.0 (ready s K) c.sights-sights.ensures c.sweep-walk.ensures (followed s K) c.in-Some-frame.is c.cool.ensures in
    rw c.from.ensures (victim-below s T)

pub take_out-requires : goal.take_out-requires
take_out-requires c =
    let s = state c.args.pool.now c.args.frames.now c.args.store.now c.args.directory.now in
    let K = c.requires.0 in
    let H = c.requires.1 in
    let T = took s c.args.of_store.0 (ready s K) c.sights-sights.ensures c.sweep-walk.ensures (followed s K) c.in-Some-frame.is c.cool.ensures in
    rw c.from.ensures (victim-removable s T)

pub load-pinned-requires-2 : goal.load-pinned-requires-2
load-pinned-requires-2 c =
    let s = state c.args.pool.now c.args.frames.now c.args.store.now c.args.directory.now in
    let K = c.requires.0 in
    let H = c.requires.1 in
    let T = took s c.args.of_store.0 (ready s K) c.sights-sights.ensures c.sweep-walk.ensures (followed s K) c.in-Some-frame.is c.cool.ensures in
    victim-fitting s T (rw c.from.ensures at c.take_out.ensures) c.requires.2 c.requires.3 c.requires.4 c.requires.5

-- into the frame that the sweep took
pub returns : goal.returns
returns c =
    let s = state c.args.pool.now c.args.frames.now c.args.store.now c.args.directory.now in
    let K = c.requires.0 in
    let H = c.requires.1 in
    let l = rw c.from-n.ensures at c.is_loadable.ensures in
    let T = took s c.args.of_store.0 (ready s K) c.sights-sights.ensures c.sweep-walk.ensures (followed s K) c.in-Some-frame.is c.cool.ensures in
    swept-told s K H c.args.parent.0 c.args.slot c.args.of_store.0 c.args.page.0 c.requires.4 l c.if-not-is_loadable.false c.is_at_ceiling-at_ceiling.ensures c.in_default.ensures (swept-given s T (rw c.from.ensures at c.take_out.ensures) c.args.parent.0 c.args.slot c.args.page.0 c.load-pinned-2.ensures)
