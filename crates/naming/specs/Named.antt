-- Rule 9: a page is named by a resident page of its store, or by a stored page of it that is in no frame. Assumes nothing.
use Rattle.std.specs.Prelude.{ℕ, ◌<◌, ◌≤◌, ◌≡◌, refl, true, false, List}
use Rattle.std.proofs.Math.Path.{sym}
use Rattle.std.proofs.Common.{◌∙◌, ap, arith}
use Rattle.std.proofs.Math.Decide.{dec_lt}
use borrow.Author.Tests.{eq-eqb, eqb-true, lt-ltb, le-ltb}
use Rattle.std.proofs.Math.Dec.{eqb}
use Rattle.page.specs.Figures.{slot_count}
use Rattle.page.specs.Page.{slot, page_words}
use Rattle.page.specs.StorePlaces.{store_place}
use Rattle.page.proofs.StorePlaceLaws.{place-inj}
use Rattle.rules.specs.Tests.{◌or◌}
use Rattle.rules.specs.TestLaws.{case, on, off, same, is-off, or_left, or_right, or-second, some-true, true-some, pick_yes, pick_no}
use Rattle.machine.specs.Machine.{State, page_in, occupied, found, found_in}
use Rattle.machine.proofs.Laws.AgreementFacts.{occupied-lt}
use Rattle.machine.proofs.Laws.FoundLaws.{found-is, found_none, none_found, found-records}
use Rattle.machine.specs.Moves.{plain}
use Rattle.machine.specs.Naming.{current_word, named, named_by_resident}
use Rattle.machine.proofs.Laws.Ready.{Kept}
use Rattle.residents.specs.Residents.{Residents, in_table}
use Rattle.residents.specs.ResidentLaws.{ResidentNames, names_of, of-names, table-in, not-in-table}
use Rattle.naming.specs.Stored.{in_store, Stored, stored_of, of-stored}

module _ (s : State) where
  -- the words of the page at a place that is found, and of one that isn't
  word-found : (q k : ℕ) → found s.pool q < s.pool.count → current_word s q k ≡ plain (page_in s.pool.records) (page_words s.frames (found s.pool q) k)
  unfolding current_word slot
  word-found q k l = sym (pick_yes _ (lt-ltb _ _ l) refl)

  word-stored : (q k : ℕ) → s.pool.count ≤ found s.pool q → current_word s q k ≡ page_words s.store q k
  unfolding current_word slot
  word-stored q k l = sym (pick_no _ (le-ltb _ _ l) refl)

module _ (s : State) (K : Kept s) (residents : List ℕ) (R : Residents s.pool.records residents) (t x : ℕ) where
  abbrev N : ℕ
  N = s.pool.pages

  page-below : (f : ℕ) → occupied s.pool f ≡ true → page_in s.pool.records f < N
  page-below f o = (K.agreed.in_range f (omega (arith, occupied-lt s.pool f o, K.sized.most))).page

  make-named : (p k : ℕ) → p < N → k < slot_count → current_word s (store_place N t p) k ≡ x → named s t x ≡ true
  unfolding named
  make-named p k lp lk e = true-some N _ p lp (true-some slot_count _ k lk (eq-eqb _ x e))

  resident-names : ResidentNames s t x → named s t x ≡ true
  resident-names n =
      let f : ℕ = n.frame in
      let q : ℕ = page_in s.pool.records f in
      let l : f < s.pool.count = occupied-lt s.pool f n.at in
      let e : found_in s.pool t q ≡ f = rw n.store at (found-is s.pool s.frames K.agreed f n.at) in
      make-named q n.slot (page-below f n.at) n.in_page
      (word-found s (store_place N t q) n.slot (omega arith) ∙ ap (λ (g : ℕ). plain (page_in s.pool.records) (page_words s.frames g n.slot)) e ∙ n.word)

  store-names : Stored residents s.store N t N x → named s t x ≡ true
  store-names h =
      let e : found_in s.pool t h.page ≡ s.pool.count = none_found s.pool (store_place N t h.page) (λ f o z.
      let i = place-inj N _ _ t h.page (page-below f o) h.lt z in
      not-in-table s K.sized.most K.stores.some K.agreed residents R t h.page h.absent f o i.0 i.1) in
      make-named h.page h.slot h.lt h.in_page (word-stored s (store_place N t h.page) h.slot (omega arith) ∙ h.word)

  -- a page that isn't found isn't in the table
  absent-found : (q : ℕ) → q < N → s.pool.count ≤ found_in s.pool t q → in_table residents t q ≡ false
  absent-found q l h = is-off _ (λ i.
      let g = table-in s K.sized.most K.stores.some K.agreed residents R t q (omega (arith, K.sized.pages)) i in
      found_none s.pool (store_place N t q) h g.0 g.1 (rw (g.2, g.3)))

  named-where : named s t x ≡ true → (named_by_resident s t x or in_store residents s.store N t N x) ≡ true
  unfolding named
  named-where e =
      let a = some-true N _ e in
      let b = some-true slot_count (λ k. eqb (current_word s (store_place N t a.0) k) x) a.2 in
      let w : current_word s (store_place N t a.0) b.0 ≡ x = eqb-true _ x b.2 in
      elim (dec_lt (found_in s.pool t a.0) s.pool.count) [
        | yes l ↦
            let g = found-records s.pool t a.0 page-below a.1 l in
            or_left _ (of-names s t x (record { frame = found_in s.pool t a.0; slot = b.0; at = g.0; store = g.1; in_page = b.1; word = sym (word-found s (store_place N t a.0) b.0 l) ∙ w }))
        | no l ↦ or_right (named_by_resident s t x) (of-stored residents s.store N t x N (record {
          page = a.0;
          slot = b.0;
          lt = a.1;
          in_page = b.1;
          absent = absent-found a.0 a.1 (omega arith);
          word = sym (word-stored s (store_place N t a.0) b.0 (omega arith)) ∙ w;
        }))
      ]

  pub named-parts : named s t x ≡ (named_by_resident s t x or in_store residents s.store N t N x)
  named-parts = same _ _ named-where (λ e. elim (case (named_by_resident s t x)) [
    | on i ↦ resident-names (names_of s t x i)
    | off i ↦ store-names (stored_of residents s.store N t x N (or-second (named_by_resident s t x) _ e i))
  ])
