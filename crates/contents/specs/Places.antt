-- Places of payloads: that show and peek name a place within its buffer. Assumes nothing.
use Rattle.std.specs.Prelude.{ℕ, ◌+◌, ◌*◌, ◌-◌, ◌<◌, ◌≤◌, ◌≡◌, refl, Bool, List, Result, ltb, length, take, drop}
use Rattle.std.proofs.Common.{sym, subst, arith, ltb-true}
use Rattle.std.proofs.Math.Decide.{ℕ_discrete}
use Rattle.page.specs.declared.PageNumber.{PageNumber}
use Rattle.page.specs.Figures.{payload_size}
use Rattle.page.specs.Page.{payload_at, bytes_from}
use Rattle.page.specs.StorePlaces.{store_place}
use Rattle.page.proofs.StorePlaceLaws.{place-lt}
use Rattle.machine.specs.declared.Handle.{Handle}
use Rattle.machine.specs.declared.Payload.{Payload}
use Rattle.rules.specs.declared.refusal.Refusal.{Refusal}
use Rattle.rules.specs.Tests.{Rule, first_broken}
use Rattle.rules.specs.TestLaws.{pick_yes, pick_no, case, on, off}
use Rattle.machine.specs.Machine.{State}
use Rattle.machine.specs.Answers.{Buffer, in_frames, in_store, Answer, refused, done, handle, payload, number, frame, nowhere, payload_answer, out, Lent, cut}
use Rattle.machine.specs.Calls.{decide, handle_rules, page_rules, sought, payload_place, show_call, peek_call}
use Rattle.machine.proofs.Laws.RuleLaws.{handle-kept, page-kept, answer-no, answer-yes}

-- the payload at place p of the store, or of frame p
abbrev pub payload_in : Bool → ℕ → Payload
payload_in b p = record { in_store = b; start = payload_at p; size = payload_size }

-- the bytes that a payload lies in
abbrev pub bytes_of : Buffer → List ℕ → List ℕ → List ℕ
bytes_of in_frames fs st = fs
bytes_of in_store fs st = st

-- a payload lies within its buffer
abbrev pub PartWithin : Answer → List ℕ → List ℕ → Type 0
PartWithin (payload b a n) fs st = a + n ≤ length (bytes_of b fs st)
PartWithin (refused n) fs st = Unit {0}
PartWithin done fs st = Unit {0}
PartWithin (handle f t p n) fs st = Unit {0}
PartWithin (number p l) fs st = Unit {0}
PartWithin (frame f n) fs st = Unit {0}
PartWithin (nowhere n) fs st = Unit {0}

abbrev pub Within : Result Payload Refusal → List ℕ → List ℕ → Type 0
Within r = PartWithin (payload_answer r)

-- ---- a payload lies within where no rule is broken

abbrev PlacedIn : State → Answer → Type 0
PlacedIn s a = PartWithin a s.frames s.store

decided : (s : State) (rules : List Rule) (a : Answer) → (first_broken rules ≡ 0 → PlacedIn s a) → PlacedIn s (decide s rules (out a s)).answer
decided s rules a h = elim (ℕ_discrete (first_broken rules) 0) [
  | yes z ↦ subst (PlacedIn s) (answer-yes s rules s refl z refl) (h z)
  | no z ↦ subst (PlacedIn s) (answer-no s rules (out a s) refl z) tt
]

pub show-within : (s : State) (h : Handle) (r : Result Payload Refusal) → payload_answer r ≡ (show_call s h).answer → Within r s.frames s.store
unfolding show_call
show-within s h r e = subst (PlacedIn s) (sym e) (decided s (handle_rules s h) _ (λ z. let k = handle-kept s h z in omega arith))

pub peek-within : (s : State) (t : ℕ) (q : PageNumber) (r : Result Payload Refusal) → payload_answer r ≡ (peek_call s t q).answer → Within r s.frames s.store
unfolding peek_call payload_place
peek-within s t q r e = subst (PlacedIn s) (sym e) (decided s (page_rules s t q) _ (λ z.
    let k = page-kept s t q z in
    let f = (sought s t q.0).frame in
    let p : store_place s.pool.pages t q.0 < s.pool.pages * s.pool.stores = place-lt s.pool.pages t s.pool.stores q.0 k.store k.below in
    elim (case (ltb f s.pool.count)) [
      | on i ↦ let l : f < s.pool.count = ltb-true f s.pool.count i in subst (PlacedIn s) (pick_yes _ i refl) (omega arith)
      | off i ↦ subst (PlacedIn s) (pick_no _ i refl) (omega arith)
    ]))

-- ---- what is handed back at a place

-- what `&s[a..a + n]` gives is the cut
pub cut-part : (x : Lent) (a n : ℕ) → ◌≡◌ {A = Lent} (record { at = (x.at.0, a + x.at.1); bytes = take (a + n - a) (drop a x.bytes) }) (cut x a n)
unfolding cut bytes_from
cut-part x a n = let k : a + n - a ≡ n = omega arith in rw k
