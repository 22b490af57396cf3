-- A number and a line put after a text, or into one digit by digit. Assumes nothing.
use Rattle.std.specs.Prelude.{ℕ, ◌+◌, ◌-◌, ◌^◌, ◌≤◌, ◌<◌, ◌≡◌, List, [], ◌∷◌, ◌++◌, length, set, get_or, take}
use Rattle.std.proofs.Common.{sym, ◌∙◌, ap, subst, append_assoc, append-nil, arith, add-zero, add-suc, le_trans, lt_of_lt_of_le, add-one, lt-ltb, le-ltb, Fits, take-suc}
use Rattle.std.proofs.Math.Decide.{dec_le}
use Rattle.std.proofs.Math.Nat.{pow-le-pow_right}
use Rattle.std.specs.Int.{w16}
use Rattle.std.proofs.Math.Seq.{take-suc-set}
use Rattle.io.specs.Digits.{last_digits, IsDigitCount}
use Rattle.rules.specs.TestLaws.{pick_yes, pick_no}
use Rattle.machine.specs.Machine.{State}
use Rattle.recording.specs.Listing.{Numbers, line_numbers, Listed}
use Rattle.printing.specs.Printing.{places, with_number, with_line, printed, with_listed}

-- ---- the digits of a number

pub small : (n : ℕ) → Fits w16 n → n < 65536
small n h = omega arith

module _ (n k : ℕ) (f : IsDigitCount 10 1 n k) where
  fits : (j : ℕ) → k ≤ j → n < 10 ^ j
  fits j h = lt_of_lt_of_le f.1 (pow-le-pow_right {n = 10} (omega arith) h)

  exceeds : (j : ℕ) → j < k → 0 < j → 10 ^ j ≤ n
  exceeds j h z =
      let l : j ≤ k - 1 = omega arith in
      le_trans (pow-le-pow_right {n = 10} (omega arith) l) (f.2 (omega arith))

  pub few : n < 65536 → k ≤ 5
  few h = elim (dec_le k 5) [
    | yes a ↦ a
    | no a ↦ let l : 100000 ≤ n = exceeds 5 (omega arith) (omega arith) in absurd (omega arith)
  ]

  pub places-are : n < 65536 → k ≡ places n
  unfolding places
  places-are h =
      let one : 1 ≤ k = f.0 in
      let five : k ≤ 5 = few h in
      elim (dec_le k 1) [
        | yes a ↦ let l : n < 10 = fits 1 a in pick_yes _ (lt-ltb n 10 l) (omega arith)
        | no a ↦ let l : 10 ≤ n = exceeds 1 (omega arith) (omega arith) in pick_no _ (le-ltb n 10 l) (elim (dec_le k 2) [
          | yes b ↦ let l : n < 100 = fits 2 b in pick_yes _ (lt-ltb n 100 l) (omega arith)
          | no b ↦ let l : 100 ≤ n = exceeds 2 (omega arith) (omega arith) in pick_no _ (le-ltb n 100 l) (elim (dec_le k 3) [
            | yes c ↦ let l : n < 1000 = fits 3 c in pick_yes _ (lt-ltb n 1000 l) (omega arith)
            | no c ↦ let l : 1000 ≤ n = exceeds 3 (omega arith) (omega arith) in pick_no _ (le-ltb n 1000 l) (elim (dec_le k 4) [
              | yes d ↦ let l : n < 10000 = fits 4 d in pick_yes _ (lt-ltb n 10000 l) (omega arith)
              | no d ↦ let l : 10000 ≤ n = exceeds 4 (omega arith) (omega arith) in pick_no _ (le-ltb n 10000 l) (omega arith)
            ])
          ])
        ])
      ]

-- ---- bytes put one after the other: l is the text so far, t what it began with

pub none-put : (t : List ℕ) (at : ℕ) → take (at + 0) t ≡ take at t ++ []
none-put t at = ap (λ (n : ℕ). take n t) (add-zero at) ∙ sym (append-nil (take at t))

module _ (l t ds : List ℕ) (at : ℕ) where
  pub put-digit : (i m : ℕ) → at + i < length l → i < m → m ≤ length ds → take (at + i) l ≡ take at t ++ take i ds → take (at + (i + 1)) (set l (at + i) (get_or ds i 0)) ≡ take at t ++ take (i + 1) ds
  put-digit i m h j k e =
      let x = get_or ds i 0 in
      ap (λ (n : ℕ). take n (set l (at + i) x)) (ap (λ (n : ℕ). at + n) (add-one i) ∙ add-suc at i)
      ∙ take-suc-set l (at + i) x h
      ∙ ap (λ (r : List ℕ). r ++ (x ∷ [])) e
      ∙ append_assoc (take at t) (take i ds) (x ∷ [])
      ∙ ap (λ (r : List ℕ). take at t ++ r) (sym (take-suc ds i 0 (omega arith)))
      ∙ ap (λ (n : ℕ). take at t ++ take n ds) (sym (add-one i))

  pub put-after : (n k i after : ℕ) → at + k < length l → i ≤ k → k ≤ i → n < 65536 → IsDigitCount 10 1 n k → take k ds ≡ last_digits 10 k n → take (at + i) l ≡ take at t ++ take i ds → take (at + k + 1) (set l (at + k) after) ≡ with_number (take at t) n after
  unfolding with_number
  put-after n k i after h p q b f d e =
      let z : i ≡ k = omega arith in
      let done : take (at + k) l ≡ take at t ++ take k ds = subst (λ (m : ℕ). take (at + m) l ≡ take at t ++ take m ds) z e in
      ap (λ (m : ℕ). take m (set l (at + k) after)) (add-one (at + k))
      ∙ take-suc-set l (at + k) after h
      ∙ ap (λ (r : List ℕ). r ++ (after ∷ [])) (done ∙ ap (λ (r : List ℕ). take at t ++ r) (d ∙ ap (λ (m : ℕ). last_digits 10 m n) (places-are n k f b)))

-- the k digits of a number after a text, and then a byte
pub number-put : (t : List ℕ) (n k after : ℕ) {ds u v : List ℕ} → n < 65536 → IsDigitCount 10 1 n k → ds ≡ last_digits 10 k n → u ≡ t ++ ds → v ≡ u ++ (after ∷ []) → v ≡ with_number t n after
unfolding with_number
number-put t n k after b f d p q = q ∙ ap (λ (r : List ℕ). r ++ (after ∷ [])) (p ∙ ap (λ (r : List ℕ). t ++ r) (d ∙ ap (λ (m : ℕ). last_digits 10 m n) (places-are n k f b)))

-- a line is four numbers
pub line-put : (t t1 t2 t3 : List ℕ) {t4 : List ℕ} (c r f p : ℕ) → t1 ≡ with_number t c 32 → t2 ≡ with_number t1 r 32 → t3 ≡ with_number t2 f 32 → t4 ≡ with_number t3 p 10 → t4 ≡ with_line t (line_numbers c r f p)
line-put t t1 t2 t3 c r f p e1 e2 e3 e4 =
    e4 ∙ ap (λ (x : List ℕ). with_number x p 10) (e3 ∙ ap (λ (x : List ℕ). with_number x f 32) (e2 ∙ ap (λ (x : List ℕ). with_number x r 32) e1))

-- a record's line after the text t
pub one-printed : (t : List ℕ) {u : List ℕ} (n : Numbers) {s : State} {x : Listed} → record { line = n; left = s } ≡ x → u ≡ with_line t n → printed u s ≡ with_listed t x
one-printed t n {s = s} e h = ap (λ (z : List ℕ). printed z s) h ∙ ap (with_listed t) e

-- a line after a text is that text and the line alone
number-after : (t u : List ℕ) (n a : ℕ) → with_number (t ++ u) n a ≡ t ++ with_number u n a
unfolding with_number
number-after t u n a = ap (λ (x : List ℕ). x ++ (a ∷ [])) (append_assoc t u (last_digits 10 (places n) n)) ∙ append_assoc t (u ++ last_digits 10 (places n) n) (a ∷ [])

first-after : (t : List ℕ) (n a : ℕ) → with_number t n a ≡ t ++ with_number [] n a
unfolding with_number
first-after t n a = append_assoc t (last_digits 10 (places n) n) (a ∷ [])

pub line-after : (t : List ℕ) (l : Numbers) → with_line t l ≡ t ++ with_line [] l
line-after t l =
    let w1 = with_number [] l.call 32 in
    let w2 = with_number w1 l.refusal 32 in
    let w3 = with_number w2 l.frame 32 in
    let e2 : with_number (with_number t l.call 32) l.refusal 32 ≡ t ++ w2 = ap (λ (x : List ℕ). with_number x l.refusal 32) (first-after t l.call 32) ∙ number-after t w1 l.refusal 32 in
    let e3 : with_number (with_number (with_number t l.call 32) l.refusal 32) l.frame 32 ≡ t ++ w3 = ap (λ (x : List ℕ). with_number x l.frame 32) e2 ∙ number-after t w2 l.frame 32 in
    ap (λ (x : List ℕ). with_number x l.page 10) e3 ∙ number-after t w3 l.page 10
