-- What `listing::block::list_records` keeps from record to record: those so far ran one after the other, and their lines stand in the text.
use Rattle.std.specs.Prelude.{◌≡◌, ◌-◌, ◌*◌, ◌≤◌, [], length, take}
use Rattle.machine.specs.Machine.{state}
use Rattle.printing.specs.Printing.{printed, listed_from}
use Rattle.listing.proofs.block.list_records.Given as goal

abbrev pub invariant-loop-entry : goal.invariant-loop-entry
invariant-loop-entry l = record {
  room : l.end ≤ 24 * l.entry-index;
  size : length l.text ≡ length l.initial.text;
  listed : listed_from (length l.records) l.block 0 (printed [] (state l.initial.pool l.initial.frames l.initial.store l.initial.directory)) ≡ listed_from (length l.records - l.entry-index) l.block l.entry-index (printed (take l.end l.text) (state l.pool l.frames l.store l.directory));
}
