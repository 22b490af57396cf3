-- What a record lists: refused by rule 17, or by the contract of its call. Assumes nothing.
use Rattle.std.specs.Prelude.{ℕ, ◌+◌, ◌≤◌, ◌≡◌, refl, Bool, true, false, List, [], eqb, leb}
use Rattle.std.proofs.Common.{sym, ◌∙◌, ap, arith, le_antisymm, eqb-true, leb-true}
use Rattle.page.specs.declared.PageNumber.{PageNumber}
use Rattle.rules.specs.Tests.{pick, verdict, first_broken}
use Rattle.rules.specs.TestLaws.{case, on, off, and-true, pick-either, verdict-no, verdict-yes, kept_then, broken-here, none-broken}
use Rattle.machine.specs.Machine.{State}
use Rattle.machine.specs.Answers.{Answer, refused, done, handle, payload, number, frame, nowhere, Out, out}
use Rattle.machine.specs.Calls.{decide, page_rules, find_call}
use Rattle.machine.specs.ByChain.{without_count, find_by_frames}
use Rattle.machine.proofs.Laws.FindByChain.{as-by-frames}
use Rattle.machine.specs.History.{Call, root, fix, unfix, write, link, unlink, evict, settle, find, row}
use Rattle.machine.specs.LockedPages.{without_mark}
use Rattle.recording.specs.declared.lines.Line.{Line}
use Rattle.recording.specs.Listing.{call_in, page_in_record, handle_in, parent_in, slot_in, offset_in, length_in, data_in, call_of, rule17, record_out, line_of, listed}
use Rattle.recording.specs.Lines.{line_with, line_for, lined, listed_out}

-- ---- a line by an answer

-- a call without an answer of its own
pub done-line : (b : List ℕ) (n : ℕ) → line_with b n 0 0 ≡ line_for b (verdict n refused done)
unfolding line_for verdict pick
done-line b n = elim (case (eqb n 0)) [
  | on t ↦ let z : n ≡ 0 = eqb-true n 0 t in rw z
  | off t ↦ rw t
]

-- find, where it gives a frame
pub frame-line : (b : List ℕ) (q : PageNumber) (compared : ℕ) {f : ℕ} {r : Line} → r ≡ line_with b 0 f q.0 → q ≡ page_in_record b → r ≡ line_for b (frame f compared)
unfolding line_for
frame-line b q compared {f} e h = e ∙ ap (λ (y : PageNumber). line_with b 0 f y.0) h

-- from the line of an answer and what the call's contract says
pub line-listed : {r : Line} (b : List ℕ) (a : Answer) {s : State} {o : Out} → r ≡ line_for b a → out a s ≡ o → lined r s ≡ listed_out b o
unfolding line_for
line-listed b a e h = rw (e, ← h)

-- find leaves all as it is
pub find-leaves : (s : State) (t : ℕ) (q : PageNumber) {a : Answer} → a ≡ (find_call s t q).answer → out a s ≡ find_call s t q
unfolding find_call decide verdict pick
find-leaves s t q e = rw e (elim (case (eqb (first_broken (page_rules s t q)) 0)) [
  | on y ↦ rw y
  | off y ↦ rw y
])

-- ---- rule 17

pub record-refused : (s : State) (b : List ℕ) → (rule17 b).1 ≡ false → out (refused 17) s ≡ record_out s b
unfolding record_out
record-refused s b h = verdict-no {n = 17} (λ n. out (refused n) s) _ (sym (broken-here 17 [] h)) (λ e. omega arith)

pub record-runs : (s : State) (b : List ℕ) (c : Call) → (rule17 b).1 ≡ true → call_of b ≡ c → (row c).out s ≡ record_out s b
unfolding record_out
record-runs s b c h e = verdict-yes {n = 0} (λ n. out (refused n) s) (sym (kept_then 17 [] h ∙ none-broken)) refl (rw e)

pub record Fields (b : List ℕ) : Type 0 where
  pub least : 1 ≤ call_in b
  pub most : call_in b ≤ 9
  pub short : length_in b ≤ 9

pub fields-of : (b : List ℕ) → (rule17 b).1 ≡ true → Fields b
fields-of b h =
    let x = and-true (leb 1 (call_in b)) _ h in
    let y = and-true (leb (call_in b) 9) _ x.1 in
    record { least = leb-true _ _ x.0; most = leb-true _ _ y.0; short = leb-true _ _ y.1 }

-- ---- the call by its number

module _ (b : List ℕ) where
  pub is-root : call_in b ≡ 1 → call_of b ≡ root 0
  unfolding call_of pick
  is-root e = rw e

  pub is-fix : call_in b ≡ 2 → call_of b ≡ fix (handle_in b) (slot_in b)
  unfolding call_of pick
  is-fix e = rw e

  pub is-unfix : call_in b ≡ 3 → call_of b ≡ unfix (handle_in b)
  unfolding call_of pick
  is-unfix e = rw e

  pub is-write : call_in b ≡ 4 → call_of b ≡ write (handle_in b) (offset_in b) (data_in b)
  unfolding call_of pick
  is-write e = rw e

  pub is-link : call_in b ≡ 5 → call_of b ≡ link (parent_in b) (slot_in b) (page_in_record b) false
  unfolding call_of pick
  is-link e = rw e

  pub is-unlink : call_in b ≡ 6 → call_of b ≡ unlink (handle_in b) (slot_in b)
  unfolding call_of pick
  is-unlink e = rw e

  pub is-evict : call_in b ≡ 7 → call_of b ≡ evict 0 (page_in_record b)
  unfolding call_of pick
  is-evict e = rw e

  pub is-settle : call_in b ≡ 8 → call_of b ≡ settle
  unfolding call_of pick
  is-settle e = rw e

  pub is-find : call_in b ≡ 9 → call_of b ≡ find 0 (page_in_record b)
  unfolding call_of pick
  is-find e = rw e

-- request A.8: "Link takes the mark, in the listing never."
pub listed-unmarked : (b : List ℕ) → without_mark (call_of b) ≡ true
unfolding call_of
listed-unmarked b =
    either _ _ _ refl (either _ _ _ refl (either _ _ _ refl (either _ _ _ refl (either _ _ _ refl (either _ _ _ refl (either _ _ _ refl (either _ _ _ refl refl)))))))
  where
    either : (t : Bool) (c d : Call) → without_mark c ≡ true → without_mark d ≡ true → without_mark (pick t c d) ≡ true
    either = pick-either (λ (c : Call). without_mark c ≡ true)

-- a call from 1 to 9 that is none of 1 to 8 is 9
abbrev pub NoneOf8 : ℕ → Type 0
NoneOf8 x =
    (((((((Unit {0} × (x ≡ 1 → ⊥)) × (x ≡ 2 → ⊥)) × (x ≡ 3 → ⊥)) × (x ≡ 4 → ⊥)) × (x ≡ 5 → ⊥)) × (x ≡ 6 → ⊥)) × (x ≡ 7 → ⊥)) × (x ≡ 8 → ⊥)

above : (k x : ℕ) → k ≤ x → (x ≡ k → ⊥) → k + 1 ≤ x
above k x h n = omega arith

pub last-call : (b : List ℕ) → Fields b → NoneOf8 (call_in b) → call_in b ≡ 9
last-call b h n =
    let from2 : 2 ≤ call_in b = above 1 _ h.least n.0.0.0.0.0.0.0.1 in
    let from3 : 3 ≤ call_in b = above 2 _ from2 n.0.0.0.0.0.0.1 in
    let from4 : 4 ≤ call_in b = above 3 _ from3 n.0.0.0.0.0.1 in
    let from5 : 5 ≤ call_in b = above 4 _ from4 n.0.0.0.0.1 in
    let from6 : 6 ≤ call_in b = above 5 _ from5 n.0.0.0.1 in
    let from7 : 7 ≤ call_in b = above 6 _ from6 n.0.0.1 in
    let from8 : 8 ≤ call_in b = above 7 _ from7 n.0.1 in
    le_antisymm h.most (above 8 _ from8 n.1)

-- ---- request A.3: "the listing prints as before"

-- a line goes by the answer without its count
line-without-count : (b : List ℕ) (a : Answer) → line_of b a ≡ line_of b (without_count a)
line-without-count b (refused n) = refl
line-without-count b done = refl
line-without-count b (handle f t p looks) = refl
line-without-count b (payload y a n) = refl
line-without-count b (number p l) = refl
line-without-count b (frame f compared) = refl
line-without-count b (nowhere compared) = refl

same-listed : (b : List ℕ) (o p : Out) → line_of b o.answer ≡ line_of b p.answer → o.left ≡ p.left → listed_out b o ≡ listed_out b p
same-listed b o p e h = rw (e, h)

-- a find lists what document 01's lists, by the frames: the same line, and the same state for the next record
pub find-listed-before : (s : State) (b : List ℕ) → (rule17 b).1 ≡ true → call_in b ≡ 9 → listed s b ≡ listed_out b (find_by_frames s 0 (page_in_record b))
find-listed-before s b h e =
    let q : PageNumber = page_in_record b in
    ap (listed_out b) (sym (record-runs s b (find 0 q) h (is-find b e)))
    ∙ same-listed b (find_call s 0 q) (find_by_frames s 0 q) (line-without-count b (find_call s 0 q).answer ∙ ap (line_of b) (as-by-frames s 0 q).finds) (as-by-frames s 0 q).left
