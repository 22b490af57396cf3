-- `guard::pool_rules` meets its contract: rule 1, and then rule 2, for which rule 1 settles the sizes, and the table that the records give the chains. Assumes nothing.
use Rattle.std.proofs.Common.{arith, sym, ◌∙◌, ◌≡◌, true, []}
use Rattle.rules.specs.Tests.{◌and◌}
use Rattle.rules.specs.TestLaws.{both, and_yes, and_no, kept_then, broken-here, none-broken}
use Rattle.machine.specs.Machine.{State}
use Rattle.machine.specs.Buffers.{buffered}
use Rattle.machine.specs.Rules.{lengths_fit, stores_fit, directory_fits}
use Rattle.machine.proofs.Laws.AgreementFacts.{facts}
use Rattle.machine.proofs.Laws.Ready.{lengths-of, stores-of, of-directory, not-directory}
use Rattle.directory.specs.Homes.{decides-agree}
use Rattle.guard.proofs.pool_rules.Goals as goal

-- rule 1 is kept
one : (s : State) → lengths_fit s.pool.count s.pool.pages s.pool.stores s.frames s.store ≡ true → stores_fit s.pool.count s.pool.stores s.pool.ceilings ≡ true → directory_fits s.directory ≡ true → (lengths_fit s.pool.count s.pool.pages s.pool.stores s.frames s.store and stores_fit s.pool.count s.pool.stores s.pool.ceilings and directory_fits s.directory) ≡ true
one s l t d = both _ _ l (both _ _ t d)

-- rule 1, frames and store
pub returns-then-not-lengths_fit : goal.returns-then-not-lengths_fit
returns-then-not-lengths_fit c =
    let l = rw (c.from-count.ensures, c.from-pages.ensures) at c.lengths_fit.ensures in
    (sym (broken-here 1 _ (sym (and_no _ (sym l ∙ c.if-not-lengths_fit.true)))), λ z. absurd (omega arith))

-- rule 1, T and the ceilings
pub returns-then-not-stores_fit : goal.returns-then-not-stores_fit
returns-then-not-stores_fit c =
    let l = rw (c.from-count.ensures, c.from-pages.ensures) at c.lengths_fit.ensures in
    let t = rw c.from-count.ensures at c.stores_fit.ensures in
    (sym (broken-here 1 _ (sym (and_yes (sym l ∙ c.if-not-lengths_fit.false) (and_no _ (sym t ∙ c.if-not-stores_fit.true))))), λ z. absurd (omega arith))

-- rule 1, the directory
pub returns-then-buffers-ne-SIZE : goal.returns-then-buffers-ne-SIZE
returns-then-buffers-ne-SIZE c =
    let l = rw (c.from-count.ensures, c.from-pages.ensures) at c.lengths_fit.ensures in
    let t = rw c.from-count.ensures at c.stores_fit.ensures in
    (sym (broken-here 1 _ (sym (and_yes (sym l ∙ c.if-not-lengths_fit.false) (and_yes (sym t ∙ c.if-not-stores_fit.false) (sym (not-directory _ c.if-buffers-ne-SIZE.true)))))), λ z. absurd (omega arith))

pub agrees-requires : goal.agrees-requires
agrees-requires c =
    let l = rw (c.from-count.ensures, c.from-pages.ensures) at c.lengths_fit.ensures in
    let t = rw c.from-count.ensures at c.stores_fit.ensures in
    let h = lengths-of _ _ _ _ _ (sym l ∙ c.if-not-lengths_fit.false) in
    let k = stores-of _ _ _ (sym t ∙ c.if-not-stores_fit.false) in
    (record { one = k.some; stores = k.most; least = k.below; most = h.most; some = h.some; pages = h.pages; size = h.frames }, c.requires)

-- rule 2, records and frames
pub returns-then-not-agrees : goal.returns-then-not-agrees
returns-then-not-agrees c =
    let s = buffered c.args.pool.now c.args.buffers in
    let l = rw (c.from-count.ensures, c.from-pages.ensures) at c.lengths_fit.ensures in
    let t = rw c.from-count.ensures at c.stores_fit.ensures in
    let k = one s (sym l ∙ c.if-not-lengths_fit.false) (sym t ∙ c.if-not-stores_fit.false) (of-directory _ c.if-buffers-ne-SIZE.false) in
    (sym (kept_then 1 _ k ∙ broken-here 2 [] (sym (and_no _ (sym c.agrees.ensures.0 ∙ c.if-not-agrees.true)))), λ z. absurd (omega arith))

-- rule 2, the chains
pub returns-then-not-chains_agree : goal.returns-then-not-chains_agree
returns-then-not-chains_agree c =
    let s = buffered c.args.pool.now c.args.buffers in
    let l = rw (c.from-count.ensures, c.from-pages.ensures) at c.lengths_fit.ensures in
    let t = rw c.from-count.ensures at c.stores_fit.ensures in
    let k = one s (sym l ∙ c.if-not-lengths_fit.false) (sym t ∙ c.if-not-stores_fit.false) (of-directory _ c.if-buffers-ne-SIZE.false) in
    let a = sym c.agrees.ensures.0 ∙ c.if-not-agrees.false in
    let d = decides-agree s (lengths-of _ _ _ _ _ (sym l ∙ c.if-not-lengths_fit.false)).most (stores-of _ _ _ (sym t ∙ c.if-not-stores_fit.false)).some (facts s.pool s.frames a) _ (c.agrees.ensures.1 c.if-not-agrees.false).held s.directory _ c.chains_agree.ensures in
    (sym (kept_then 1 _ k ∙ broken-here 2 [] (sym (and_yes a (sym (sym d ∙ c.if-not-chains_agree.true))))), λ z. absurd (omega arith))

-- no rule is broken
pub returns : goal.returns
returns c =
    let s = buffered c.args.pool.now c.args.buffers in
    let l = rw (c.from-count.ensures, c.from-pages.ensures) at c.lengths_fit.ensures in
    let t = rw c.from-count.ensures at c.stores_fit.ensures in
    let k = one s (sym l ∙ c.if-not-lengths_fit.false) (sym t ∙ c.if-not-stores_fit.false) (of-directory _ c.if-buffers-ne-SIZE.false) in
    let a = sym c.agrees.ensures.0 ∙ c.if-not-agrees.false in
    let d = decides-agree s (lengths-of _ _ _ _ _ (sym l ∙ c.if-not-lengths_fit.false)).most (stores-of _ _ _ (sym t ∙ c.if-not-stores_fit.false)).some (facts s.pool s.frames a) _ (c.agrees.ensures.1 c.if-not-agrees.false).held s.directory _ c.chains_agree.ensures in
    (sym (kept_then 1 _ k ∙ kept_then 2 [] (both _ _ a (sym d ∙ c.if-not-chains_agree.false)) ∙ none-broken), λ z. c.agrees.ensures.1 c.if-not-agrees.false)
