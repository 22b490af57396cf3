-- `recording::fields::call` meets its contract: rule 17's three tests. Assumes nothing.
use Rattle.std.proofs.Common.{ℕ, ◌≡◌, ◌≤◌, refl, ◌∙◌, Bool, true, false, List, leb, le-leb}
use Rattle.std.proofs.lemmas.Bool.{lt-leb}
use Rattle.std.specs.Prelude.{MatchResult, Result, Ok, Err}
use Rattle.rules.specs.declared.refusal.Refusal.{Refusal}
use Rattle.rules.specs.declared.refusal.Refusal.TheVariants.{NoCall}
use Rattle.rules.specs.Tests.{◌and◌}
use Rattle.recording.specs.declared.call.Call.{Call}
use Rattle.recording.specs.declared.call.Call.TheVariants.{Root, Fix, Unfix, Write, Link, Unlink, Evict, Settle, Find}
use Rattle.recording.specs.CallNumbers.{number_of_call, Numbered}
use Rattle.recording.specs.Listing.{call_in, length_in, rule17}
use Rattle.recording.proofs.fields.call.Goals as goal

last-false : (a b : Bool) → (a and b and false) ≡ false
unfolding ◌and◌
last-false true true = refl
last-false true false = refl
last-false false b = refl

last-true : (a b : Bool) → (a and b and true) ≡ (a and b)
unfolding ◌and◌
last-true true true = refl
last-true true false = refl
last-true false b = refl

in-range : (k : Call) → (leb 1 (number_of_call k) and leb (number_of_call k) 9) ≡ true
unfolding ◌and◌
in-range Root = refl
in-range Fix = refl
in-range Unfix = refl
in-range Write = refl
in-range Link = refl
in-range Unlink = refl
in-range Evict = refl
in-range Settle = refl
in-range Find = refl

-- the length fits, so that rule 17 is the call's
by-call : (b : List ℕ) → length_in b ≤ 9 → (rule17 b).1 ≡ (leb 1 (call_in b) and leb (call_in b) 9)
by-call b l = rw (le-leb (length_in b) 9 l) (last-true (leb 1 (call_in b)) (leb (call_in b) 9))

ruled : (b : List ℕ) (r : Result Call Refusal) → length_in b ≤ 9 → Numbered (call_in b) r → MatchResult r (λ k. ((rule17 b).1 ≡ true) × (call_in b ≡ number_of_call k)) (λ e. (e ≡ NoCall) × ((rule17 b).1 ≡ false))
ruled b (Ok k) l e = (by-call b l ∙ rw e (in-range k), e)
ruled b (Err r) l e = (e.0, by-call b l ∙ e.1)

pub returns-then-entry-gt-MOST_DATA : goal.returns-then-entry-gt-MOST_DATA
returns-then-entry-gt-MOST_DATA c =
    let b = c.args.entry.now in
    (refl, rw (lt-leb (length_in b) 9 c.if-entry-gt-MOST_DATA.true) (last-false (leb 1 (call_in b)) (leb (call_in b) 9)))

pub returns : goal.returns
returns c = ruled c.args.entry.now _ c.if-entry-gt-MOST_DATA.false c.try_from.ensures
