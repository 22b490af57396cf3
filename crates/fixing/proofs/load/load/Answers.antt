-- `fixing::load::load` meets its contract. Assumes nothing.
use Rattle.std.proofs.Common.{refl, ap}
use Rattle.machine.specs.Answers.{out, handle}
use Rattle.moves.specs.InAndOut.{is-loaded}
use Rattle.machine.specs.Machine.{state}
use Rattle.fixing.proofs.load.load.Goals as goal

pub returns : goal.returns
returns c =
    let h = c.load_page-rec.ensures in
    let s = state c.args.pool.now c.args.frames.now c.args.store.now c.args.directory.now in
    rw (c.from.ensures, h.0) (ap (out (handle c.args.frame.0 c.args.of_store.0 c.args.page.0 c.args.looks)) (is-loaded s c.args.parent.0 c.args.slot c.args.frame.0 c.args.of_store.0 c.args.page.0 refl h.1 h.2))
