-- The rules as documents 01 and 02 number them. No rule has number 0, which is an accepted call's, and no two have one number.
use Rattle.std.specs.Prelude.{ℕ, ◌≡◌, refl, List, [], ◌∷◌, map, Result, Ok, Err, eqb}
use Rattle.std.proofs.Common.{sym, ◌∙◌, ap, arith}
use Rattle.rules.specs.declared.refusal.Refusal.{Refusal}
use Rattle.rules.specs.declared.refusal.Refusal.TheVariants.{WrongLength, Disagree, BadHandle, BadSlot, BadRange, BadPage, EmptySlot, FullSlot, AlreadyNamed, Resident, NotResident, TooManyPins, BadStoredPage, NoFrame, UnsoundStore, NoCall, IsRoot, IsPinned, IsParent, IsLocked, AtCeiling, BadStore}
use Rattle.rules.specs.Tests.{pick}

abbrev pub number_of : Refusal → ℕ
number_of WrongLength = 1
number_of Disagree = 2
number_of BadHandle = 3
number_of BadSlot = 4
number_of BadRange = 5
number_of BadPage = 6
number_of EmptySlot = 7
number_of FullSlot = 8
number_of AlreadyNamed = 9
number_of Resident = 10
number_of NotResident = 11
number_of TooManyPins = 13
number_of BadStoredPage = 14
number_of NoFrame = 15
number_of UnsoundStore = 16
number_of NoCall = 17
number_of IsRoot = 20
number_of IsPinned = 21
number_of IsParent = 22
number_of IsLocked = 26
number_of AtCeiling = 27
number_of BadStore = 28

-- an answer's number: 0 is accepted
abbrev pub refused_by : {A : Type 0} → Result A Refusal → ℕ
refused_by (Ok x) = 0
refused_by (Err r) = number_of r

-- every rule, and its number
abbrev pub refusals : List Refusal
refusals = WrongLength ∷ Disagree ∷ BadHandle ∷ BadSlot ∷ BadRange ∷ BadPage ∷ EmptySlot ∷ FullSlot ∷ AlreadyNamed ∷ Resident ∷ NotResident ∷ TooManyPins ∷ BadStoredPage ∷ NoFrame ∷ UnsoundStore ∷ NoCall ∷ IsRoot ∷ IsPinned ∷ IsParent ∷ IsLocked ∷ AtCeiling ∷ BadStore ∷ []

pub refusal-numbers : map number_of refusals ≡ 1 ∷ 2 ∷ 3 ∷ 4 ∷ 5 ∷ 6 ∷ 7 ∷ 8 ∷ 9 ∷ 10 ∷ 11 ∷ 13 ∷ 14 ∷ 15 ∷ 16 ∷ 17 ∷ 20 ∷ 21 ∷ 22 ∷ 26 ∷ 27 ∷ 28 ∷ []
refusal-numbers = refl

pub not-accepted : (r : Refusal) → number_of r ≡ 0 → ⊥
not-accepted WrongLength e = absurd (omega arith)
not-accepted Disagree e = absurd (omega arith)
not-accepted BadHandle e = absurd (omega arith)
not-accepted BadSlot e = absurd (omega arith)
not-accepted BadRange e = absurd (omega arith)
not-accepted BadPage e = absurd (omega arith)
not-accepted EmptySlot e = absurd (omega arith)
not-accepted FullSlot e = absurd (omega arith)
not-accepted AlreadyNamed e = absurd (omega arith)
not-accepted Resident e = absurd (omega arith)
not-accepted NotResident e = absurd (omega arith)
not-accepted TooManyPins e = absurd (omega arith)
not-accepted BadStoredPage e = absurd (omega arith)
not-accepted NoFrame e = absurd (omega arith)
not-accepted UnsoundStore e = absurd (omega arith)
not-accepted NoCall e = absurd (omega arith)
not-accepted IsRoot e = absurd (omega arith)
not-accepted IsPinned e = absurd (omega arith)
not-accepted IsParent e = absurd (omega arith)
not-accepted IsLocked e = absurd (omega arith)
not-accepted AtCeiling e = absurd (omega arith)
not-accepted BadStore e = absurd (omega arith)

-- the first rule in a list that has a number
unfoldable pub rule_with : ℕ → List Refusal → Refusal
rule_with n [] = BadStore
rule_with n (r ∷ rs) = pick (eqb (number_of r) n) r (rule_with n rs)

pub found-back : (r : Refusal) → rule_with (number_of r) refusals ≡ r
unfolding rule_with pick
found-back WrongLength = refl
found-back Disagree = refl
found-back BadHandle = refl
found-back BadSlot = refl
found-back BadRange = refl
found-back BadPage = refl
found-back EmptySlot = refl
found-back FullSlot = refl
found-back AlreadyNamed = refl
found-back Resident = refl
found-back NotResident = refl
found-back TooManyPins = refl
found-back BadStoredPage = refl
found-back NoFrame = refl
found-back UnsoundStore = refl
found-back NoCall = refl
found-back IsRoot = refl
found-back IsPinned = refl
found-back IsParent = refl
found-back IsLocked = refl
found-back AtCeiling = refl
found-back BadStore = refl

pub apart : (r q : Refusal) → number_of r ≡ number_of q → r ≡ q
apart r q e = sym (found-back r) ∙ ap (λ (n : ℕ). rule_with n refusals) e ∙ found-back q

-- a refused call's number isn't an accepted one's
pub refused-not : {A : Type 0} {a : Result A Refusal} {r : Refusal} → a ≡ Err r → refused_by a ≡ 0 → ⊥
refused-not {A} {a} {r} e h = not-accepted r (sym (ap refused_by e) ∙ h)
