-- `seen::mark_page` meets its contract: the words are marked as they stand, and from the first that is no number on by names. Assumes nothing.
use Rattle.std.proofs.Common.{◌*◌, ◌+◌, rules}
use Rattle.seen.specs.SeenLaws.{own_name, marked-none, marks-all}
use Rattle.seen.proofs.mark_page.Goals as goal

-- a word below the limit has no mark
pub mark_slots-requires-clause-names : goal.mark_slots-requires-clause-names
mark_slots-requires-clause-names c = λ k x l p s. own_name c.args.buffer.now (c.args.at + 4 * k) x (search rules) s

-- a number was noted before
pub returns-in_default : goal.returns-in_default
returns-in_default c = c.in_default.ensures.marked.onward _ (marked-none _ _ _ _ c.requires.3)

pub returns : goal.returns
returns c = (marks-all _ _ _ _ _ _ _ _ _ c.in-Some.ensures.marked.1 _ (λ j x l p. search rules) _ c.mark_slots-2.ensures.marked c.mark_slots-2.ensures.stopped _ c.eq.ensures).onward _ (marked-none _ _ _ _ c.requires.3)
