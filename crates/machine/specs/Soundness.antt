-- "A store is sound when every word is 0 or a page number from 1 to N − 1 and no number stands in two words." Request A.11: each of the T stores, by itself.
use Rattle.std.specs.Prelude.{ℕ, Bool, not, List, eqb, ltb}
use Rattle.page.specs.Figures.{slot_count}
use Rattle.page.specs.Word.{names_nothing}
use Rattle.page.specs.Page.{name}
use Rattle.page.specs.StorePlaces.{store_place}
use Rattle.rules.specs.Tests.{◌and◌, ◌⇒◌, every}

-- what slot k of page p of store t names
abbrev pub stored_name : List ℕ → ℕ → ℕ → ℕ → ℕ → ℕ
stored_name st N t p k = name st (store_place N t p) k

-- every word of store t is 0 or a page number from 1 to N − 1, by what it names. Request A.8: "Opening accepts bit 30 on a word naming a page and denies it on a word of otherwise 0"
unfoldable pub words_below : List ℕ → ℕ → ℕ → Bool
words_below st N t = every N (λ p. every slot_count (λ k. ltb (stored_name st N t p k) N))

-- no number stands in two words of it
unfoldable pub words_once : List ℕ → ℕ → ℕ → Bool
words_once st N t =
    every N (λ p. every slot_count (λ k. not (names_nothing (stored_name st N t p k)) ⇒ every N (λ q. every slot_count (λ j. eqb (stored_name st N t p k) (stored_name st N t q j) ⇒ (eqb p q and eqb k j)))))

-- store t is sound; and each of the T stores: "16 is for any of them"
unfoldable pub sound_store : List ℕ → ℕ → ℕ → Bool
sound_store st N t = words_below st N t and words_once st N t

unfoldable pub sound : List ℕ → ℕ → ℕ → Bool
sound st N T = every T (sound_store st N)
