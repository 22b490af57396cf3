-- Rows of numbers, `w k` being number k of the row w, as the 16 words of a page: which numbers are among them. Assumes nothing.
use Rattle.std.specs.Prelude.{ℕ, ◌+◌, ◌*◌, ◌%◌, ◌<◌, ◌≡◌, ◌≢◌, Bool, true, false, not, List}
use Rattle.std.proofs.Common.{sym, ◌∙◌, ap, add-one, arith}
use borrow.Author.Tests.{eq-eqb, ne_eqb, eqb-true, eqb-false, not-false}
use Rattle.std.proofs.Math.Dec.{eqb}
use Rattle.page.specs.Figures.{slot_count, word_size}
use Rattle.std.proofs.Math.Decide.{ℕ_discrete}
use Rattle.page.specs.Word.{word_at, name_of, half_radix}
use Rattle.page.proofs.NameLaws.{name-half, name-nothing, nothing-named}
use Rattle.page.specs.Page.{words_from}
use Rattle.rules.specs.Tests.{some}
use Rattle.rules.specs.TestLaws.{clash, is-off, some-zero, some-suc, true-some, some-true, some-false}
use Rattle.seen.specs.Fold.{or_same}

-- one of the first m numbers is x
unfoldable pub among : (ℕ → ℕ) → ℕ → ℕ → Bool
among w m x = some m (λ k. eqb (w k) x)

-- one of the first m numbers is not 0
unfoldable pub has_any : (ℕ → ℕ) → ℕ → Bool
has_any w m = some m (λ k. not (eqb (w k) 0))

-- one of the numbers of a page is not 0
unfoldable pub has_word : (ℕ → ℕ) → Bool
has_word w = has_any w slot_count

-- one of the halves of the words from byte a on has the low half of x. Halves are read as low halves, from wherever they start.
abbrev pub half_count : ℕ
half_count = 32

unfoldable pub has_half : List ℕ → ℕ → ℕ → Bool
has_half b a x = some half_count (λ k. eqb (word_at b (a + 2 * k) % half_radix) (x % half_radix))

pub some-keep : (n : ℕ) (t : ℕ → Bool) → t n ≡ false → some (n + 1) t ≡ some n t
some-keep n t e = rw (add-one n, some-suc n t) (or_same (some n t) e)

module _ (w : ℕ → ℕ) (m x : ℕ) where
  pub among_none : (w m ≡ x → ⊥) → among w (m + 1) x ≡ among w m x
  unfolding among
  among_none h = some-keep m (λ k. eqb (w k) x) (ne_eqb (w m) x h)

  pub is_among : (k : ℕ) → k < m → w k ≡ x → among w m x ≡ true
  unfolding among
  is_among k l e = true-some m (λ j. eqb (w j) x) k l (eq-eqb (w k) x e)

  pub among-is : among w m x ≡ true → (k : ℕ) × (k < m) × (w k ≡ x)
  unfolding among
  among-is t = let r = some-true m (λ j. eqb (w j) x) t in (r.0, r.1, eqb-true (w r.0) x r.2)

  pub not-among : ((k : ℕ) → k < m → w k ≢ x) → among w m x ≡ false
  not-among h = is-off (among w m x) (λ t. let r = among-is t in h r.0 r.1 r.2)

  pub none-among : among w m x ≡ false → (k : ℕ) → k < m → w k ≢ x
  none-among t k l e = clash (sym (is_among k l e) ∙ t)

pub among-hit : (w : ℕ → ℕ) (m x : ℕ) → w m ≡ x → among w (m + 1) x ≡ true
among-hit w m x e = is_among w (m + 1) x m (omega arith) e

pub among-zero : (w : ℕ → ℕ) (x : ℕ) → among w 0 x ≡ false
unfolding among
among-zero w x = some-zero (λ k. eqb (w k) x)

-- a word names something where it isn't 0
pub word-any : (w : ℕ) {b : Bool} → b ≡ not (eqb w 0) → b ≡ not (eqb (name_of w) 0)
word-any w e = elim (ℕ_discrete w 0) [
  | yes z ↦ e ∙ ap not (eq-eqb w 0 z ∙ sym (eq-eqb (name_of w) 0 (nothing-named w z)))
  | no n ↦ e ∙ ap not (ne_eqb w 0 n ∙ sym (ne_eqb (name_of w) 0 (λ z. n (name-nothing w z))))
]

-- no number but 0
pub not-any : (w : ℕ → ℕ) (m : ℕ) → has_any w m ≡ false → (k : ℕ) → k < m → w k ≡ 0
unfolding has_any
not-any w m t k l = eqb-true (w k) 0 (not-false _ (some-false m (λ j. not (eqb (w j) 0)) t k l))

-- a page without a number but 0
pub no_word : (w : ℕ → ℕ) → has_word w ≡ false → (k : ℕ) → k < slot_count → w k ≡ 0
unfolding has_word
no_word w = not-any w slot_count

pub no-word-among : (w : ℕ → ℕ) → has_word w ≡ false → (x : ℕ) → 0 < x → among w slot_count x ≡ false
no-word-among w t x p = not-among w slot_count x (λ k l e. let z : w k ≡ 0 = no_word w t k l in omega arith)

-- where none has, no word names x
pub no-half : (b : List ℕ) (a x : ℕ) → has_half b a x ≡ false → among (words_from b a) slot_count x ≡ false
unfolding has_half
no-half b a x t = not-among (words_from b a) slot_count x (λ k l e.
    let q : a + 2 * (2 * k) ≡ a + word_size * k = omega arith in
    eqb-false _ _ (some-false half_count (λ j. eqb (word_at b (a + 2 * j) % half_radix) (x % half_radix)) t (2 * k) (omega arith)) (ap (λ (i : ℕ). word_at b i % half_radix) q ∙ name-half _ x e))
