-- What the two tables tell of rules 9 and 14, and that where records and frames agree it is what the rules say. Assumes nothing.
use Rattle.std.specs.Prelude.{ℕ, ◌<◌, ◌≡◌, refl, Bool, true, false, List, []}
use Rattle.std.proofs.Math.Path.{sym, ap}
use Rattle.std.proofs.Common.{◌∙◌, arith}
use Rattle.page.specs.Figures.{slot_count}
use Rattle.page.specs.Page.{page_words}
use Rattle.page.specs.StorePlaces.{store_place}
use Rattle.rules.specs.Tests.{◌or◌, every}
use Rattle.rules.specs.TestLaws.{true-every, every-ext}
use Rattle.machine.specs.Machine.{State, state}
use Rattle.machine.specs.Naming.{named, named_by_resident, loadable}
use Rattle.machine.proofs.Laws.Ready.{Kept}
use Rattle.seen.specs.Among.{has_word, no_word}
use Rattle.seen.specs.Seen.{Seen, noted, fresh}
use Rattle.seen.specs.SeenLaws.{fresh-zero, fresh-ext}
use Rattle.residents.specs.Handed.{Handed}
use Rattle.naming.specs.Stored.{in_store}
use Rattle.naming.specs.Named.{named-parts}
use Rattle.naming.specs.Loadable.{by-fresh}

-- page x of store t is named by a resident page of it, or by one of its N stored pages that isn't resident
unfoldable pub named_by : List ℕ → Seen → List ℕ → ℕ → ℕ → ℕ → Bool
named_by residents seen st N t x = noted seen t x or in_store residents st N t N x

-- each word of the stored page q of store t is 0, or below N, of no page that a resident page names, and of no word before it
unfoldable pub loadable_by : Seen → List ℕ → ℕ → ℕ → ℕ → Bool
loadable_by seen st N t q = every slot_count (fresh (noted seen t) (page_words st (store_place N t q)) N)

-- a page without a word but 0
pub loadable-empty : (seen : Seen) (st : List ℕ) (N t q : ℕ) → has_word (page_words st (store_place N t q)) ≡ false → true ≡ loadable_by seen st N t q
unfolding loadable_by
loadable-empty seen st N t q e =
    let w : ℕ → ℕ = page_words st (store_place N t q) in
    sym (true-every slot_count _ (λ k l. fresh-zero (noted seen t) w N k (no_word w e k l)))

-- what resident pages name is nothing to the stores
storeless : (s : State) (t x : ℕ) → named_by_resident (state s.pool s.frames [] []) t x ≡ named_by_resident s t x
unfolding named_by_resident
storeless s t x = refl

module _ (s : State) (K : Kept s) {residents : List ℕ} {seen : Seen} (H : Handed s.pool s.frames residents seen) (t : ℕ) (one : t < s.pool.stores) where
  noted-named : (x : ℕ) → 0 < x → x < s.pool.pages → noted seen t x ≡ named_by_resident s t x
  noted-named x p l = (H.named t (omega (arith, K.stores.most))).right x p (omega (arith, K.sized.pages)) ∙ storeless s t x

  pub named-by-tables : (x : ℕ) → 0 < x → x < s.pool.pages → named_by residents seen s.store s.pool.pages t x ≡ named s t x
  unfolding named_by
  named-by-tables x p l = ap (λ (b : Bool). b or in_store residents s.store s.pool.pages t s.pool.pages x) (noted-named x p l) ∙ sym (named-parts s K residents H.held t x)

  pub loadable-by : (q : ℕ) → loadable_by seen s.store s.pool.pages t q ≡ loadable s t q
  unfolding loadable_by
  loadable-by q = every-ext slot_count _ _ (λ k l. fresh-ext (noted seen t) (named_by_resident s t) (page_words s.store (store_place s.pool.pages t q)) s.pool.pages noted-named k) ∙ sym (by-fresh s t q)
