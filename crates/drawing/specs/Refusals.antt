-- The refusals that a record can meet that is run on the pool that it was drawn on.
use Rattle.std.specs.Prelude.{ℕ, ◌≡◌, Bool, true, eqb, leb}
use Rattle.rules.specs.Tests.{◌and◌, ◌or◌}
use Rattle.machine.specs.Answers.{Answer, refused}

-- 3, 6 to 11, 13 to 15, 20 to 22, 26 and 27: not 1 or 2, since the record was drawn; not 28, since its calls name store 0, which every pool has; not 4, 5 or 17, since it lies in its ranges; and no other rule is one of its calls'
unfoldable pub can_meet : ℕ → Bool
can_meet n = eqb n 3 or (leb 6 n and leb n 11) or (leb 13 n and leb n 15) or (leb 20 n and leb n 22) or (leb 26 n and leb n 27)

-- an answer that is no refusal, or one by these
abbrev pub MeetsThese : Answer → Type 0
MeetsThese a = (n : ℕ) → a ≡ refused n → can_meet n ≡ true
