-- Which pages name a page: for rules 9 and 14.
use Rattle.std.specs.Prelude.{ℕ, Bool, not, List, eqb, ltb}
use Rattle.page.specs.Figures.{slot_count}
use Rattle.page.specs.Word.{names_nothing}
use Rattle.page.specs.Page.{name}
use Rattle.rules.specs.Tests.{pick, ◌and◌, ◌or◌, every, some}
use Rattle.page.specs.StorePlaces.{store_place}
use Rattle.machine.specs.Machine.{State, page_in, store_in, occupied, found}
use Rattle.machine.specs.Moves.{plain}

-- what slot k of the page at place p names, by its number in that store: "resident pages taken by their images and the others from the store"
unfoldable pub current_word : State → ℕ → ℕ → ℕ
current_word s p k =
    let f = found s.pool p in
    pick (ltb f s.pool.count) (plain (page_in s.pool.records) (name s.frames f k)) (name s.store p k)

-- page q of store t is named by a word of any page, of that store: request A.11, "pages are compared within their store"
unfoldable pub named : State → ℕ → ℕ → Bool
named s t q = some s.pool.pages (λ p. some slot_count (λ k. eqb (current_word s (store_place s.pool.pages t p) k) q))

-- page q of store t is named by a word of the image of a resident page of it
unfoldable pub named_by_resident : State → ℕ → ℕ → Bool
named_by_resident s t q =
    some s.pool.count (λ f. occupied s.pool f and eqb (store_in s.pool.records f) t and some slot_count (λ k. eqb (plain (page_in s.pool.records) (name s.frames f k)) q))

-- what slot k of the stored page at place q names, another slot of it names too
unfoldable pub repeated : List ℕ → ℕ → ℕ → Bool
repeated st q k = some slot_count (λ j. not (eqb j k) and eqb (name st q j) (name st q k))

-- the word in slot k of the stored page q of store t may come in: it names nothing, or a number below N (so bit 31 is clear), once in the page, of a page that no resident page names
unfoldable pub word_loadable : State → ℕ → ℕ → ℕ → Bool
word_loadable s t q k =
    let p = store_place s.pool.pages t q in
    let w = name s.store p k in
    names_nothing w or (ltb w s.pool.pages and not (repeated s.store p k) and not (named_by_resident s t w))

-- the stored page q of store t may be loaded
unfoldable pub loadable : State → ℕ → ℕ → Bool
loadable s t q = every slot_count (word_loadable s t q)
