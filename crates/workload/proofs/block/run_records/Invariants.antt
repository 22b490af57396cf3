-- What `workload::block::run_records` keeps from record to record: those so far are drawn and run one after the other, and their bytes and lines stand in order.
use Rattle.std.specs.Prelude.{◌≡◌, ◌-◌, ◌*◌, ◌≤◌, length, take}
use Rattle.machine.specs.Machine.{state}
use Rattle.workload.specs.Workload.{worked, begun, worked_from}
use Rattle.workload.proofs.block.run_records.Given as goal

abbrev pub invariant-loop-i : goal.invariant-loop-i
invariant-loop-i l = record {
  lines_fit : l.end ≤ 24 * l.i;
  entries_size : length l.entries ≡ length l.initial.entries;
  text_size : length l.text ≡ length l.initial.text;
  worked : worked_from l.count (begun (state l.initial.pool l.initial.frames l.initial.store l.initial.directory) l.initial.generator) ≡ worked_from (l.count - l.i) (worked (take (16 * l.i) l.entries) (take l.end l.text) (state l.pool l.frames l.store l.directory) l.generator);
}
