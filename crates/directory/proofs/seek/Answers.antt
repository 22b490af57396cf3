-- `seek` meets its contract: the whole search is what is left of it. Assumes nothing.
use Rattle.std.proofs.Common.{◌-◌, refl, sym, ◌∙◌, ap, arith}
use Rattle.chains.specs.Chain.{entry_of}
use Rattle.directory.specs.Walks.{sought-at, seek-end, seek-here, seek-on, seek-out-of}
use Rattle.directory.proofs.seek.Goals as goal

-- the chain ends
pub returns-then-x-eq0 : goal.returns-then-x-eq0
returns-then-x-eq0 c F = sym (sought-at _ _ _ _ _ _ _ (c.from-at.ensures ∙ c.bucket.ensures.0) c.key-sought.ensures ∙ c.loop-compared.invariant.1 F ∙ seek-end _ _ _ _ _ _ _ (64 - c.loop-compared.compared) (omega arith) (sym c.from-x.ensures ∙ c.if-x-eq0.true))

-- the page's entry
pub returns-then-residents-f : goal.returns-then-residents-f
returns-then-residents-f c F =
    let byte = c.from-x.ensures in
    sym (sought-at _ _ _ _ _ _ _ (c.from-at.ensures ∙ c.bucket.ensures.0) c.key-sought.ensures ∙ c.loop-compared.invariant.1 F ∙ seek-here _ _ _ _ _ _ _ (64 - c.loop-compared.compared) (omega arith) _ (λ z. c.if-x-eq0.false (byte ∙ z)) (ap entry_of byte) c.if-residents-f.true)

-- the entry of another page
pub loop-compared-preserved : goal.loop-compared-preserved
loop-compared-preserved c =
    let byte = c.from-x.ensures in (
      omega (arith, c.requires.0.small c.loop-compared.at),
      λ F. c.loop-compared.invariant.1 F ∙ seek-on _ _ _ _ _ _ _ _ (omega arith) _ (λ z. c.if-x-eq0.false (byte ∙ z)) (ap entry_of byte) c.if-residents-f.false _ refl,
    )

pub returns : goal.returns
returns c F = sym (sought-at _ _ _ _ _ _ _ (c.from-at.ensures ∙ c.bucket.ensures.0) c.key-sought.ensures ∙ c.loop-compared.invariant.1 F ∙ seek-out-of _ _ _ _ _ _ _ 65 (omega arith) (omega arith))
