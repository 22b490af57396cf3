-- Rule 14: a stored page may come in exactly where its words are fresh beside those that resident pages of its store name. Assumes nothing.
use Rattle.std.specs.Prelude.{ℕ, ◌<◌, ◌≡◌, ◌≢◌, true, false, eqb, ltb}
use Rattle.std.proofs.Common.{sym, ◌∙◌, ap, arith}
use Rattle.std.proofs.Math.Bool.{not}
use Rattle.std.proofs.Math.Decide.{dec_lt, ℕ_discrete}
use borrow.Author.Tests.{eq-eqb, ne_eqb, lt-ltb, eqb-true, eqb-false, ltb-true, not-true}
use Rattle.page.specs.Figures.{slot_count}
use Rattle.page.specs.Page.{slot, page_words}
use Rattle.page.specs.StorePlaces.{store_place}
use Rattle.rules.specs.Tests.{every}
use Rattle.rules.specs.TestLaws.{clash, same, is-off, both, and-true, or_left, or_right, or-second, every_true, true-every, some-true, true-some}
use Rattle.machine.specs.Machine.{State}
use Rattle.machine.specs.Naming.{named_by_resident, repeated, word_loadable, loadable}
use Rattle.seen.specs.Among.{not-among, none-among}
use Rattle.seen.specs.Seen.{fresh}
use Rattle.seen.specs.SeenLaws.{Fresh, fresh-zero, fresh-new, fresh-is}

module _ (s : State) (t q : ℕ) where
  abbrev place : ℕ
  place = store_place s.pool.pages t q

  abbrev w : ℕ → ℕ
  w = page_words s.store place

  -- ---- a number that stands in two slots

  make-repeated : (k j : ℕ) → j < slot_count → j ≢ k → w j ≡ w k → repeated s.store place k ≡ true
  unfolding repeated slot
  make-repeated k j l n e = true-some slot_count _ j l (both _ _ (ap not (ne_eqb j k n)) (eq-eqb _ _ e))

  repeated-is : (k : ℕ) → repeated s.store place k ≡ true → (j : ℕ) × (j < slot_count) × (j ≢ k) × (w j ≡ w k)
  unfolding repeated slot
  repeated-is k e =
      let a = some-true slot_count _ e in
      let b = and-true (not (eqb a.0 k)) _ a.2 in
      (a.0, a.1, eqb-false a.0 k (not-true _ b.0), eqb-true _ _ b.1)

  -- ---- from one reading of a word to the other

  word-fresh : (k : ℕ) → k < slot_count → word_loadable s t q k ≡ true → fresh (named_by_resident s t) w s.pool.pages k ≡ true
  unfolding word_loadable slot
  word-fresh k l e = elim (ℕ_discrete (w k) 0) [
    | yes z ↦ fresh-zero (named_by_resident s t) w s.pool.pages k z
    | no z ↦
        let a = and-true (ltb (w k) s.pool.pages) _ (or-second (eqb (w k) 0) _ e (ne_eqb (w k) 0 z)) in
        let b = and-true (not (repeated s.store place k)) _ a.1 in
        fresh-new (named_by_resident s t) w s.pool.pages k (record {
          below = ltb-true (w k) s.pool.pages a.0;
          unseen = not-true _ b.1;
          first = not-among w k (w k) (λ j h i. clash (sym (make-repeated k j (omega arith) (omega arith) i) ∙ not-true _ b.0));
        })
  ]

  module _ (f : (k : ℕ) → k < slot_count → fresh (named_by_resident s t) w s.pool.pages k ≡ true) where
    is-fresh : (k : ℕ) → k < slot_count → w k ≢ 0 → Fresh (named_by_resident s t) w s.pool.pages k
    is-fresh k l z = fresh-is (named_by_resident s t) w s.pool.pages k (f k l) z

    single : (k : ℕ) → k < slot_count → w k ≢ 0 → repeated s.store place k ≡ false
    single k l z = is-off _ (λ r.
        let a = repeated-is k r in
        let j : ℕ = a.0 in
        let e : w j ≡ w k = a.3 in
        let m : j < slot_count = a.1 in
        let n : j ≢ k = a.2 in
        elim (dec_lt j k) [
          | yes h ↦ none-among w k (w k) (is-fresh k l z).first j h e
          | no h ↦ none-among w j (w j) (is-fresh j m (λ y. z (sym e ∙ y))).first k (omega arith) (sym e)
        ])

    fresh-word : (k : ℕ) → k < slot_count → word_loadable s t q k ≡ true
    unfolding word_loadable slot
    fresh-word k l = elim (ℕ_discrete (w k) 0) [
      | yes z ↦ or_left _ (eq-eqb (w k) 0 z)
      | no z ↦ or_right (eqb (w k) 0) (both _ _ (lt-ltb (w k) s.pool.pages (is-fresh k l z).below) (both _ _ (ap not (single k l z)) (ap not (is-fresh k l z).unseen)))
    ]

  pub by-fresh : loadable s t q ≡ every slot_count (fresh (named_by_resident s t) w s.pool.pages)
  unfolding loadable
  by-fresh = same _ _
      (λ e. true-every slot_count _ (λ k l. word-fresh k l (every_true slot_count _ e k l)))
      (λ e. true-every slot_count _ (fresh-word (every_true slot_count _ e)))
