-- A word in pages of a store that are in no frame: what is asked of the store beside the table of the page in each frame. Assumes nothing.
use Rattle.std.specs.Prelude.{ℕ, ◌+◌, ◌<◌, ◌≡◌, Bool, true, false, List}
use Rattle.std.proofs.Common.{sym, ap}
use Rattle.std.proofs.Math.Bool.{not}
use borrow.Author.Tests.{not-true}
use Rattle.page.specs.Figures.{slot_count}
use Rattle.page.specs.Page.{page_words}
use Rattle.page.specs.StorePlaces.{store_place}
use Rattle.rules.specs.Tests.{◌and◌, some}
use Rattle.rules.specs.TestLaws.{both, and-true, and_no, and-off, some-zero, some-true, true-some}
use Rattle.seen.specs.Among.{among, some-keep, is_among, among-is}
use Rattle.residents.specs.Residents.{in_table}

-- x is a word in one of the first n of the N pages of store t that are in no frame
unfoldable pub in_store : List ℕ → List ℕ → ℕ → ℕ → ℕ → ℕ → Bool
in_store residents st N t n x = some n (λ p. among (page_words st (store_place N t p)) slot_count x and not (in_table residents t p))

-- where it stands
pub record Stored (residents st : List ℕ) (N t n x : ℕ) : Type 0 where
  pub page : ℕ
  pub slot : ℕ
  pub lt : page < n
  pub in_page : slot < slot_count
  pub absent : in_table residents t page ≡ false
  pub word : page_words st (store_place N t page) slot ≡ x

module _ (residents st : List ℕ) (N t x : ℕ) where
  pub in-no-page : in_store residents st N t 0 x ≡ false
  unfolding in_store
  in-no-page = some-zero _

  -- page p has the word and is in no frame
  pub in-page : (n p : ℕ) → p < n → among (page_words st (store_place N t p)) slot_count x ≡ true → in_table residents t p ≡ false → in_store residents st N t n x ≡ true
  unfolding in_store
  in-page n p l h a = true-some n _ p l (both _ _ h (ap not a))

  -- page p hasn't the word, or is in a frame
  pub pass-other : (p : ℕ) → among (page_words st (store_place N t p)) slot_count x ≡ false → in_store residents st N t (p + 1) x ≡ in_store residents st N t p x
  unfolding in_store
  pass-other p h = some-keep p _ (sym (and_no _ h))

  pub pass-resident : (p : ℕ) → in_table residents t p ≡ true → in_store residents st N t (p + 1) x ≡ in_store residents st N t p x
  unfolding in_store
  pass-resident p h = some-keep p _ (rw h (and-off _))

  pub stored_of : (n : ℕ) → in_store residents st N t n x ≡ true → Stored residents st N t n x
  unfolding in_store
  stored_of n e =
      let a = some-true n (λ p. among (page_words st (store_place N t p)) slot_count x and not (in_table residents t p)) e in
      let b = and-true (among (page_words st (store_place N t a.0)) slot_count x) _ a.2 in
      let c = among-is (page_words st (store_place N t a.0)) slot_count x b.0 in
      record { page = a.0; slot = c.0; lt = a.1; in_page = c.1; absent = not-true _ b.1; word = c.2 }

  pub of-stored : (n : ℕ) → Stored residents st N t n x → in_store residents st N t n x ≡ true
  of-stored n h = in-page n h.page h.lt (is_among (page_words st (store_place N t h.page)) slot_count x h.slot h.in_page h.word) h.absent
