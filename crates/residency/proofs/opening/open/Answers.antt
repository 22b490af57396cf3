-- `residency::opening::open` meets its contract. Assumes nothing.
use Rattle.std.proofs.Common.{arith, sym, ◌∙◌}
use Rattle.machine.proofs.Laws.Ready.{lengths-of, stores-of}
use Rattle.residency.specs.CallLaws.{open-no-stores, open-unfit, open-no-directory, open-unsound, open_done}
use Rattle.residency.proofs.opening.open.Goals as goal

-- rule 1, T and the ceilings
pub returns-then-not-stores_fit : goal.returns-then-not-stores_fit
returns-then-not-stores_fit c = open-no-stores _ _ _ _ _ (sym c.stores_fit.ensures ∙ c.if-not-stores_fit.true)

-- T isn't 0
pub nonzero_div-pages : goal.nonzero_div-pages
nonzero_div-pages c = let t = stores-of _ _ _ (sym c.stores_fit.ensures ∙ c.if-not-stores_fit.false) in omega (arith, t.some, c.from.ensures)

-- rule 1, frames and store
pub returns-then-not-lengths_fit : goal.returns-then-not-lengths_fit
returns-then-not-lengths_fit c =
    let l = rw c.from.ensures at c.lengths_fit.ensures in
    open-unfit _ _ _ _ _ (sym c.stores_fit.ensures ∙ c.if-not-stores_fit.false) (sym l ∙ c.if-not-lengths_fit.true)

-- rule 1, the directory
pub returns-then-directory-ne-SIZE : goal.returns-then-directory-ne-SIZE
returns-then-directory-ne-SIZE c =
    let l = rw c.from.ensures at c.lengths_fit.ensures in
    open-no-directory _ _ _ _ _ (sym c.stores_fit.ensures ∙ c.if-not-stores_fit.false) (sym l ∙ c.if-not-lengths_fit.false) c.if-directory-ne-SIZE.true

pub overflow_cast-n : goal.overflow_cast-n
overflow_cast-n c =
    let l = rw c.from.ensures at c.lengths_fit.ensures in
    let z = lengths-of _ _ _ _ _ (sym l ∙ c.if-not-lengths_fit.false) in
    rw c.from.ensures (omega (arith, z.pages))

pub is_sound-requires : goal.is_sound-requires
is_sound-requires c =
    let l = rw c.from.ensures at c.lengths_fit.ensures in
    let z = lengths-of _ _ _ _ _ (sym l ∙ c.if-not-lengths_fit.false) in
    rw c.from.ensures (z.pages, (stores-of _ _ _ (sym c.stores_fit.ensures ∙ c.if-not-stores_fit.false)).most, z.store)

-- rule 16
pub returns-then-not-is_sound : goal.returns-then-not-is_sound
returns-then-not-is_sound c =
    let l = rw c.from.ensures at c.lengths_fit.ensures in
    let k = rw c.from.ensures at c.is_sound.ensures in
    open-unsound _ _ _ _ _ (sym c.stores_fit.ensures ∙ c.if-not-stores_fit.false) (sym l ∙ c.if-not-lengths_fit.false) c.if-directory-ne-SIZE.false (sym k ∙ c.if-not-is_sound.true)

pub bring_roots-requires : goal.bring_roots-requires
bring_roots-requires c =
    let l = rw c.from.ensures at c.lengths_fit.ensures in
    let z = lengths-of _ _ _ _ _ (sym l ∙ c.if-not-lengths_fit.false) in
    let t = stores-of _ _ _ (sym c.stores_fit.ensures ∙ c.if-not-stores_fit.false) in
    rw c.from.ensures (t.most, z.some, z.pages, omega (arith, t.below, z.frames), z.store)

pub start-requires : goal.start-requires
start-requires c = (c.if-directory-ne-SIZE.false, (stores-of _ _ _ (sym c.stores_fit.ensures ∙ c.if-not-stores_fit.false)).most)

pub overflow_cast-count : goal.overflow_cast-count
overflow_cast-count c =
    let l = rw c.from.ensures at c.lengths_fit.ensures in
    let z = lengths-of _ _ _ _ _ (sym l ∙ c.if-not-lengths_fit.false) in
    omega (arith, z.most)

pub pool_with-requires : goal.pool_with-requires
pool_with-requires c = let t = stores-of _ _ _ (sym c.stores_fit.ensures ∙ c.if-not-stores_fit.false) in omega (arith, t.most)

-- the roots are in their frames, and alone in the directory
pub returns : goal.returns
returns c =
    let l = rw c.from.ensures at c.lengths_fit.ensures in
    let k = rw c.from.ensures at c.is_sound.ensures in
    let p = rw c.from.ensures at c.pool_with.ensures in
    let b = rw c.from.ensures at c.bring_roots.ensures in
    open_done _ _ _ _ _ (sym c.stores_fit.ensures ∙ c.if-not-stores_fit.false) (sym l ∙ c.if-not-lengths_fit.false) c.if-directory-ne-SIZE.false (sym k ∙ c.if-not-is_sound.false) p b c.start.ensures
