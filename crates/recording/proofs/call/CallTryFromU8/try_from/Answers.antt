-- `recording::call`: a number's call, or 17. Assumes nothing.
use Rattle.std.proofs.Common.{ℕ, refl, sym, arith, ◌≤◌, ◌<◌, le-leb}
use Rattle.std.proofs.lemmas.Bool.{lt-leb}
use Rattle.std.proofs.Math.Decide.{dec_lt}
use Rattle.rules.specs.TestLaws.{and_yes, and_no}
use Rattle.recording.proofs.call.CallTryFromU8.try_from.Goals as goal

pub returns-in_default : goal.returns-in_default
returns-in_default c =
    let n : ℕ = c.args.number in (
      refl,
      elim (dec_lt n 1) [
        | yes l ↦ sym (and_no _ (lt-leb 1 n l))
        | no l ↦
            let a : 1 ≤ n = omega arith in
            let b : 9 < n = omega arith in
            sym (and_yes (le-leb 1 n a) (sym (lt-leb n 9 b)))
      ],
    )
