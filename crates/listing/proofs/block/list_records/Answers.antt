-- `listing::block::list_records` meets its contract: each record on the state that the one before left, and its line after the lines before. Assumes nothing.
use Rattle.std.specs.Prelude.{◌/◌, ◌≡◌, length, take}
use Rattle.std.proofs.Common.{sym, ◌∙◌, arith, rules}
use Rattle.machine.specs.Machine.{state}
use Rattle.listing.specs.BlockLaws.{record-there, all_listed, none-listed, one-listed}
use Rattle.printing.specs.PrintingLaws.{one-printed}
use Rattle.listing.proofs.block.list_records.Goals as goal

pub loop-entry-init : goal.loop-entry-init
loop-entry-init c = record { room = omega arith; size = search rules; listed = all_listed _ _ _ }

pub loop-entry-preserved : goal.loop-entry-preserved
loop-entry-preserved c =
    let l = c.loop-entry in
    let chunks = c.as_chunks.ensures in
    let run = one-printed (take l.end l.text) _ c.list_record-line.ensures c.put_line-end.ensures.text_after in
    record {
      room = omega arith;
      size = search rules;
      listed = l.invariant.listed ∙ one-listed _ _ l.entry-index (take l.end l.text) (state l.pool l.frames l.store l.directory) c.loop-entry-test.true (record-there _ _ l.entry-index _ _ chunks.front_len chunks.front c.loop-entry-test.true) run;
    }

pub returns-clause-directory_after : goal.returns-clause-directory_after
returns-clause-directory_after c =
    let l = c.loop-entry in
    let n : l.entry-index ≡ length c.args.block.now / 16 = omega arith in
    sym (rw (← c.as_chunks.ensures.front_len) (l.invariant.listed ∙ none-listed _ _ _ _ c.loop-entry-test.false))
