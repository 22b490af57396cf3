-- `workload::block::run_records` meets its contract: each record is drawn and run on the state that the one before left, and its bytes and its line stand after those before. Assumes nothing.
use Rattle.std.specs.Prelude.{◌≡◌, ◌*◌, take}
use Rattle.std.proofs.Common.{sym, ◌∙◌, arith, rules}
use Rattle.machine.specs.Machine.{state}
use Rattle.printing.specs.PrintingLaws.{one-printed}
use Rattle.workload.proofs.WorkloadLaws.{all-worked, none-worked, one-worked, next-entry, all-entries}
use Rattle.workload.proofs.block.run_records.Goals as goal

pub loop-i-init : goal.loop-i-init
loop-i-init c = record { lines_fit = omega arith; entries_size = search rules; text_size = search rules; worked = all-worked _ _ }

pub loop-i-preserved : goal.loop-i-preserved
loop-i-preserved c =
    let l = c.loop-i in
    let run = one-printed (take l.end l.text) _ c.list_record-line.ensures c.put_line-end.ensures.text_after in
    record {
      lines_fit = omega arith;
      entries_size = search rules;
      text_size = search rules;
      worked = l.invariant.worked ∙ one-worked _ l.i (take (16 * l.i) l.entries) (take l.end l.text) (state l.pool l.frames l.store l.directory) l.generator _ c.loop-i-test.true c.draw_record-drawn.ensures (next-entry _ l.i c.put_entry.ensures) run;
    }

pub returns-clause-generator_after : goal.returns-clause-generator_after
returns-clause-generator_after c =
    let l = c.loop-i in
    let e : l.i ≡ c.args.count = omega arith in
    sym (l.invariant.worked ∙ none-worked _ l.i _ c.loop-i-test.false ∙ all-entries _ e)
