-- `is_blank` meets its contract. Assumes nothing.
use Rattle.rules.specs.Deciding.{decide-equal}
use Rattle.agreement.proofs.record.is_blank.Goals as goal

pub returns : goal.returns
returns c = decide-equal _ 0 _ c.fields.ensures.0 c.fields.ensures.1
