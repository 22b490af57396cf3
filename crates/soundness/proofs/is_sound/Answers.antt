-- `soundness::is_sound` meets its contract: the stores before t are passed. Assumes nothing.
use Rattle.std.proofs.Common.{◌≡◌, sym, ◌∙◌, arith, le_refl}
use Rattle.page.proofs.StorePlaceLaws.{store-room}
use Rattle.soundness.specs.Pages.{passed-no-store, pass-store, fail-store, passed-stores}
use Rattle.soundness.proofs.is_sound.Goals as goal

pub loop-t-init : goal.loop-t-init
loop-t-init c = rw c.new-seen.ensures (passed-no-store _ _)

pub is_store_sound-requires : goal.is_store_sound-requires
is_store_sound-requires c =
    let room = store-room c.args.n c.loop-t.t c.args.stores (omega arith) in
    (omega arith, omega arith, omega (arith, room), c.loop-t.invariant.clear _ (le_refl _))

-- one isn't sound
pub returns-then-not-is_store_sound : goal.returns-then-not-is_store_sound
returns-then-not-is_store_sound c = fail-store _ _ c.loop-t.t _ (omega arith) (sym c.if-not-is_store_sound.true ∙ c.is_store_sound.ensures.0)

pub loop-t-preserved : goal.loop-t-preserved
loop-t-preserved c =
    let e = c.is_store_sound.ensures in
    pass-store _ _ c.loop-t.t c.loop-t.seen _ c.loop-t.invariant (sym c.if-not-is_store_sound.false ∙ e.0) e.1

-- every store is
pub returns : goal.returns
returns c =
    let e : c.loop-t.t ≡ c.args.stores = omega arith in
    passed-stores _ _ _ _ (rw e at c.loop-t.invariant)
