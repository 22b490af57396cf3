-- `recording::list_record` meets its contract: rule 17, and then the call by its number. Assumes nothing.
use Rattle.std.proofs.Common.{ℕ, ◌≡◌, ◌∙◌, ap, List, true}
use Rattle.machine.specs.Machine.{State}
use Rattle.machine.specs.Answers.{refused}
use Rattle.machine.specs.History.{Call, row}
use Rattle.recording.specs.CallNumbers.{number_of_call}
use Rattle.recording.specs.Listing.{call_of, rule17, listed}
use Rattle.recording.specs.Lines.{line_for, listed_out}
use Rattle.recording.proofs.ListingLaws.{line-listed, record-refused, record-runs, fields-of, is-root, is-fix, is-unfix, is-write, is-link, is-unlink, is-evict, is-settle, is-find}
use Rattle.recording.proofs.list_record.Goals as goal

-- past rule 17 the call's line is the record's
runs : (s : State) (es : List ℕ) (k : Call) → (rule17 es).1 ≡ true → call_of es ≡ k → listed_out es ((row k).out s) ≡ listed s es
runs s es k kept e = ap (listed_out es) (record-runs s es k kept e)

-- no call: 17
pub returns-in-Err : goal.returns-in-Err
unfolding line_for
returns-in-Err c = line-listed c.args.entry.now (refused 17) (rw c.in-Err.ensures.0 at c.refused.ensures) (record-refused _ c.args.entry.now c.in-Err.ensures.1)

pub write-requires : goal.write-requires
write-requires c = (fields-of c.args.entry.now c.in-Ok.ensures.0).short

pub returns-in-Root : goal.returns-in-Root
returns-in-Root c = c.root.ensures ∙ runs _ c.args.entry.now _ c.in-Ok.ensures.0 (is-root _ (c.in-Ok.ensures.1 ∙ ap number_of_call c.in-Root.is))

pub returns-in-Fix : goal.returns-in-Fix
returns-in-Fix c = c.fix.ensures ∙ runs _ c.args.entry.now _ c.in-Ok.ensures.0 (is-fix _ (c.in-Ok.ensures.1 ∙ ap number_of_call c.in-Fix.is))

pub returns-in-Unfix : goal.returns-in-Unfix
returns-in-Unfix c = c.unfix.ensures ∙ runs _ c.args.entry.now _ c.in-Ok.ensures.0 (is-unfix _ (c.in-Ok.ensures.1 ∙ ap number_of_call c.in-Unfix.is))

pub returns-in-Write : goal.returns-in-Write
returns-in-Write c = c.write.ensures ∙ runs _ c.args.entry.now _ c.in-Ok.ensures.0 (is-write _ (c.in-Ok.ensures.1 ∙ ap number_of_call c.in-Write.is))

pub returns-in-Link : goal.returns-in-Link
returns-in-Link c = c.link.ensures ∙ runs _ c.args.entry.now _ c.in-Ok.ensures.0 (is-link _ (c.in-Ok.ensures.1 ∙ ap number_of_call c.in-Link.is))

pub returns-in-Unlink : goal.returns-in-Unlink
returns-in-Unlink c = c.unlink.ensures ∙ runs _ c.args.entry.now _ c.in-Ok.ensures.0 (is-unlink _ (c.in-Ok.ensures.1 ∙ ap number_of_call c.in-Unlink.is))

pub returns-in-Evict : goal.returns-in-Evict
returns-in-Evict c = c.evict.ensures ∙ runs _ c.args.entry.now _ c.in-Ok.ensures.0 (is-evict _ (c.in-Ok.ensures.1 ∙ ap number_of_call c.in-Evict.is))

pub returns-in-Settle : goal.returns-in-Settle
returns-in-Settle c = c.settle.ensures ∙ runs _ c.args.entry.now _ c.in-Ok.ensures.0 (is-settle _ (c.in-Ok.ensures.1 ∙ ap number_of_call c.in-Settle.is))

pub returns-in-Find : goal.returns-in-Find
returns-in-Find c = c.find.ensures ∙ runs _ c.args.entry.now _ c.in-Ok.ensures.0 (is-find _ (c.in-Ok.ensures.1 ∙ ap number_of_call c.in-Find.is))
