-- `write_bytes_out` meets its contract. Assumes nothing.
use Rattle.moves.specs.MoveSteps.{written-clean, written-dirty}
use Rattle.moves.proofs.out.write_bytes_out.Goals as goal

-- dirty
pub returns-in-Some : goal.returns-in-Some
returns-in-Some c page = let dirty = c.in-Some.ensures in written-dirty _ page _ _ _ _ _ _ dirty.0 dirty.1 (c.store_bytes.ensures page)

-- clean
pub returns-in_default : goal.returns-in_default
returns-in_default c page = written-clean _ page _ _ _ _ c.in_default.ensures
