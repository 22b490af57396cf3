-- `scan::find_frame` meets its contract. Assumes nothing.
use Rattle.std.proofs.Common.{sym, ◌∙◌, arith}
use Rattle.scan.specs.FoundByTable.{told-some, told-none}
use Rattle.scan.proofs.find_frame.Goals as goal

-- none holds it
pub returns-in_err-f : goal.returns-in_err-f
returns-in_err-f c =
    let k = c.key-sought.ensures in
    rw (c.from_residual.ensures, ← k) (told-none _ _ _ (omega arith) (sym c.place_of.ensures ∙ c.in_err-f.was))

-- this frame holds it
pub returns : goal.returns
returns c =
    let k = c.key-sought.ensures in
    rw (← k) (told-some _ _ _ (omega arith) (sym c.place_of.ensures ∙ c.in_ok-f.was))
