-- `follow_row` meets its contract: the chains before b are passed. Assumes nothing.
use Rattle.directory.specs.ChainPasses.{headless-passes}
use Rattle.directory.proofs.follow_row.Goals as goal

-- no chain of the row has a frame
pub returns-then-row_is_empty : goal.returns-then-row_is_empty
returns-then-row_is_empty c = headless-passes _ _ _ c.requires.2 (c.row_is_empty.ensures c.if-row_is_empty.true)
