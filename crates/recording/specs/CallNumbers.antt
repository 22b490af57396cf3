-- "1 root, 2 fix, 3 unfix, 4 write, 5 link, 6 unlink, 7 evict, 8 settle, 9 find": the calls in code, and rule 17 of a number.
use Rattle.std.specs.Prelude.{ℕ, ◌≡◌, false, Result, Ok, Err, leb}
use Rattle.rules.specs.declared.refusal.Refusal.{Refusal}
use Rattle.rules.specs.declared.refusal.Refusal.TheVariants.{NoCall}
use Rattle.rules.specs.Tests.{◌and◌}
use Rattle.recording.specs.declared.call.Call.{Call}
use Rattle.recording.specs.declared.call.Call.TheVariants.{Root, Fix, Unfix, Write, Link, Unlink, Evict, Settle, Find}

abbrev pub number_of_call : Call → ℕ
number_of_call Root = 1
number_of_call Fix = 2
number_of_call Unfix = 3
number_of_call Write = 4
number_of_call Link = 5
number_of_call Unlink = 6
number_of_call Evict = 7
number_of_call Settle = 8
number_of_call Find = 9

-- what a number gives: its call, or 17 where it is outside 1 to 9
abbrev pub Numbered : ℕ → Result Call Refusal → Type 0
Numbered n (Ok k) = n ≡ number_of_call k
Numbered n (Err r) = (r ≡ NoCall) × ((leb 1 n and leb n 9) ≡ false)
