-- The records of a block one by one, and bytes moved to its front. Assumes nothing.
use Rattle.std.specs.Prelude.{◌≡◌, ℕ, zero, suc, ◌+◌, ◌-◌, ◌*◌, ◌<◌, ◌≤◌, List, [], ◌∷◌, ◌++◌, length, take, drop, slice_index, slice_index_or, slice_set}
use Rattle.std.specs.Simd.{first_chunks}
use Rattle.std.proofs.Common.{sym, refl, ◌∙◌, ap, arith, add-one, length-drop, take-suc, take-suc-set, drop-drop, drop-set-lt, get_or-drop}
use Rattle.std.proofs.Math.Nat.{sub-zero}
use Rattle.page.specs.Page.{bytes_from}
use Rattle.machine.specs.Machine.{State}
use Rattle.recording.specs.Listing.{listed}
use Rattle.printing.specs.Printing.{Printed, printed, with_listed, record_in, listed_from}

-- ---- bytes moved to the front: those of l from i on are still t's
module _ (l t : List ℕ) (from i : ℕ) (e : drop i l ≡ drop i t) where
  pub still : drop (i + 1) (slice_set l i (slice_index l (from + i))) ≡ drop (i + 1) t
  still =
      drop-set-lt (i + 1) l i (slice_index l (from + i)) (omega arith)
      ∙ sym (drop-drop 1 i l) ∙ ap (λ (r : List ℕ). drop 1 r) e ∙ drop-drop 1 i t

  there : slice_index_or l (from + i) 0 ≡ slice_index (drop from t) i
  there =
      let c : from + i ≡ i + from = omega arith in
      ap (λ (n : ℕ). slice_index l n) c ∙ sym (get_or-drop i l from 0) ∙ ap (λ (r : List ℕ). slice_index r from) e
      ∙ get_or-drop i t from 0 ∙ ap (λ (n : ℕ). slice_index t n) (sym c) ∙ sym (get_or-drop from t i 0)

  pub moved : i < length l → from + i < length t → take i l ≡ take i (drop from t) → take (i + 1) (slice_set l i (slice_index l (from + i))) ≡ take (i + 1) (drop from t)
  moved h m q =
      let x = slice_index_or l (from + i) 0 in
      let k : i < length (drop from t) = rw (length-drop from t) (omega arith) in
      ap (λ (n : ℕ). take n (slice_set l i x)) (add-one i)
      ∙ take-suc-set l i x h
      ∙ ap (λ (r : List ℕ). r ++ (x ∷ [])) q
      ∙ ap (λ (y : ℕ). take i (drop from t) ++ (y ∷ [])) there
      ∙ sym (take-suc (drop from t) i 0 k)
      ∙ ap (λ (n : ℕ). take n (drop from t)) (sym (add-one i))

-- ---- the records of a block

-- a record of the whole ones
whole : (k i : ℕ) (b d : List ℕ) → i < k → slice_index_or (first_chunks 16 k b) i d ≡ record_in b i
unfolding bytes_from
whole zero i b d h = absurd (omega arith)
whole (suc k) zero b d h = refl
whole (suc k) (suc i) b d h =
    let e : 16 + 16 * i ≡ 16 * suc i = omega arith in
    whole k i (drop 16 b) d (omega arith) ∙ ap (λ (r : List ℕ). take 16 r) (drop-drop (16 * i) 16 b ∙ ap (λ (n : ℕ). drop n b) e)

pub record-there : (n k i : ℕ) (b d : List ℕ) {r : List (List ℕ)} → n ≡ k → r ≡ first_chunks 16 k b → i < n → slice_index_or r i d ≡ record_in b i
record-there n k i b d m e h = rw e (whole k i b d (omega arith))

pub all_listed : (b : List ℕ) (n : ℕ) (p : Printed) → listed_from n b 0 p ≡ listed_from (n - 0) b 0 p
all_listed b n p = ap (λ (m : ℕ). listed_from m b 0 p) (sym (sub-zero n))

pub none-listed : (b : List ℕ) (n i : ℕ) (p : Printed) → n ≤ i → listed_from (n - i) b i p ≡ p
unfolding listed_from
none-listed b n i p h = let e : n - i ≡ 0 = omega arith in rw e

-- a record: what was printed is t, and e are its bytes
pub one-listed : (b : List ℕ) (n i : ℕ) (t : List ℕ) (s : State) {e : List ℕ} {q : Printed} → i < n → e ≡ record_in b i → q ≡ with_listed t (listed s e) → listed_from (n - i) b i (printed t s) ≡ listed_from (n - (i + 1)) b (i + 1) q
unfolding listed_from
one-listed b n i t s h c d =
    let m : n - i ≡ suc (n - (i + 1)) = omega arith in
    rw (m, d, c)
