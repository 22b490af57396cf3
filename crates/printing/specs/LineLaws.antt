-- A line after a text: what stood there stays, and the line has at most 24 bytes. Assumes nothing.
use Rattle.std.specs.Prelude.{ℕ, zero, suc, ◌+◌, ◌/◌, ◌≤◌, ◌≡◌, refl, List, [], ◌∷◌, ◌++◌, ltb, length}
use Rattle.std.proofs.Common.{◌∙◌, ap, append_assoc, arith, length-append}
use Rattle.io.specs.Digits.{last_digits}
use Rattle.rules.specs.TestLaws.{pick-either}
use Rattle.recording.specs.Listing.{Numbers}
use Rattle.printing.specs.Printing.{places, with_number, with_line}

number-after : (t x : List ℕ) (n a : ℕ) → with_number (t ++ x) n a ≡ t ++ with_number x n a
unfolding with_number
number-after t x n a =
    let d = last_digits 10 (places n) n in
    ap (λ (r : List ℕ). r ++ (a ∷ [])) (append_assoc t x d) ∙ append_assoc t (x ++ d) (a ∷ [])

pub line_after : (t x : List ℕ) (l : Numbers) → with_line (t ++ x) l ≡ t ++ with_line x l
line_after t x l =
    ap (λ (y : List ℕ). with_number (with_number (with_number y l.refusal 32) l.frame 32) l.page 10) (number-after t x l.call 32)
    ∙ ap (λ (y : List ℕ). with_number (with_number y l.frame 32) l.page 10) (number-after t _ l.refusal 32)
    ∙ ap (λ (y : List ℕ). with_number y l.page 10) (number-after t _ l.frame 32)
    ∙ number-after t _ l.page 10

digits-size : (k n : ℕ) → length (last_digits 10 k n) ≡ k
digits-size zero n = refl
digits-size (suc k) n = length-append (last_digits 10 k (n / 10)) _ ∙ rw (digits-size k (n / 10)) (omega arith)

abbrev Few : ℕ → Type 0
Few k = k ≤ 5

few-places : (n : ℕ) → Few (places n)
unfolding places
few-places n =
    pick-either Few (ltb n 10) _ _ (omega arith) (pick-either Few (ltb n 100) _ _ (omega arith) (pick-either Few (ltb n 1000) _ _ (omega arith) (pick-either Few (ltb n 10000) _ _ (omega arith) (omega arith))))

number_size : (t : List ℕ) (n a : ℕ) → length (with_number t n a) ≤ length t + 6
unfolding with_number
number_size t n a =
    let f = few-places n in
    rw (length-append (t ++ last_digits 10 (places n) n) (a ∷ []), length-append t (last_digits 10 (places n) n), digits-size (places n) n) (omega arith)

pub line-size : (t : List ℕ) (l : Numbers) → length (with_line t l) ≤ length t + 24
line-size t l =
    let a = with_number t l.call 32 in
    let b = with_number a l.refusal 32 in
    let c = with_number b l.frame 32 in
    omega (arith, number_size t l.call 32, number_size a l.refusal 32, number_size b l.frame 32, number_size c l.page 10)
