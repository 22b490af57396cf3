use Rattle.std.proofs.Common.{ℕ, ◌+◌, ◌*◌, ◌≡◌, Bool, true, List}
use Rattle.page.specs.Word.{name_at, is_number}
use Rattle.seen.specs.Fold.{fold, every_of}
use Rattle.scan.proofs.look.childless.Given as goal

-- word k of the frame that starts there is a number
abbrev pub number : List ℕ → ℕ → ℕ → Bool
number fs start k = is_number (name_at fs (start + 4 * k))

abbrev pub invariant-loop-k : goal.invariant-loop-k
invariant-loop-k l = l.none ≡ fold (every_of (number l.frames l.start)) true l.k
