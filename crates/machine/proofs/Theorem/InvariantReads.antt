-- The invariant makes every test that the calls compute what it should be. Assumes nothing.
use Prim.Native.Nat.{ℕ, ◌*◌, ◌<◌}
use Rattle.std.specs.Prelude.{◌≡◌, refl, ◌≢◌, true, false, List, ◌∷◌, [], eqb, ltb}
use Rattle.std.proofs.Math.Path.{sym, ap}
use Rattle.std.proofs.Common.{◌∙◌}
use Rattle.std.proofs.Math.Bool.{not}
use Rattle.std.proofs.Math.Decide.{ℕ_discrete}
use borrow.Author.Tests.{eqb-true, eqb-false, eq-eqb, lt-ltb, not-true}
use Rattle.page.specs.Figures.{slot_count}
use Rattle.page.specs.Word.{Number}
use Rattle.page.specs.Page.{name}
use Rattle.page.proofs.StorePlaceLaws.{place-lt}
use Rattle.rules.specs.Tests.{Rule, first_broken}
use Rattle.rules.specs.TestLaws.{case, on, off, is-off, and-true, both, or_left, or_right, true-every, some-true, some-false, false-some, pick_yes, pick_no, none-broken}
use Rattle.machine.specs.Machine.{record_at, page_in, store_in, occupied, found, blank}
use Rattle.machine.proofs.Laws.AgreementFacts.{Agreed}
use Rattle.machine.specs.Naming.{current_word, named, named_by_resident, repeated, word_loadable, loadable}
use Rattle.machine.specs.Directory.{chains_agree}
use Rattle.machine.specs.Rules.{rule1, rule2}
use Rattle.machine.specs.Calls.{pool_rules}
use Rattle.machine.proofs.Theorem.View.{view, Occupied, Absent}
use Rattle.machine.specs.History.{Point}
use Rattle.machine.specs.Demand3.{at}
use Rattle.machine.proofs.Theorem.Invariant.{fit_of, Invariant}
use Rattle.machine.proofs.Theorem.StateFit.{fit-blank, fit-agreed, fit-chains, fit-unbroken}
use Rattle.machine.proofs.Theorem.Holders.{occupied-of, of-occupied, holder-found, absent-found}
use Rattle.machine.proofs.Theorem.Reads.{map_below, map-once, held_word, unheld-word}
use Rattle.machine.proofs.Theorem.FrameReads.{paged-below}

module _ (x : Point) (I : Invariant x) where
  -- ---- rules 1 and 2

  -- a record that is no occupied frame's is blank
  pub blank-record : (f : ℕ) → occupied x.now.pool f ≡ false → record_at x.now.pool.records f ≡ blank
  blank-record = fit-blank x.now (fit_of x I)

  pub agreed : Agreed x.now.pool x.now.frames
  agreed = fit-agreed x.now (fit_of x I)

  -- what rule 2 asks of the directory
  pub chains-now : chains_agree x.now.pool x.now.directory ≡ true
  chains-now = fit-chains x.now (fit_of x I)

  -- they are never broken, so that those after them decide
  pub unbroken : (rs : List Rule) → first_broken (rule1 x.now ∷ rule2 x.now ∷ rs) ≡ first_broken rs
  unbroken = fit-unbroken x.now (fit_of x I)

  -- the rules of every call but open are kept
  pub pool-kept : first_broken (pool_rules x.now) ≡ 0
  pool-kept = unbroken [] ∙ none-broken

  -- a number but 0 in frame f is that of a page of its store that isn't resident
  pub number-away : (f k : ℕ) → Occupied (view x.now) f → k < slot_count → Number (name x.now.frames f k) → name x.now.frames f k ≢ 0
      → Absent (view x.now) (at x (store_in x.now.pool.records f) (name x.now.frames f k))
  number-away f k o hk l n g og = agreed.away f k (of-occupied x.now f o) hk l n g (of-occupied x.now g og)

  -- ---- the word in a slot of any page, by its place: rule 9
  pub current-word : (p k : ℕ) → p < x.now.pool.pages * x.now.pool.stores → k < slot_count → current_word x.now p k ≡ name x.map p k
  unfolding current_word
  current-word p k hp hk = elim (case (ltb (found x.now.pool p) x.now.pool.count)) [
    | on t ↦ sym (pick_yes _ t refl) ∙ held_word x I p (found x.now.pool p) k (holder-found x.now p t) hk
    | off t ↦ sym (pick_no _ t refl) ∙ unheld-word x I p k hp (absent-found x.now p t) hk
  ]

  pub unnamed : (t q : ℕ) → t < x.now.pool.stores → not (named x.now t q) ≡ true → (p k : ℕ) → p < x.now.pool.pages → k < slot_count → name x.map (at x t p) k ≢ q
  unfolding named
  unnamed t q ht n p k hp hk e =
      eqb-false _ q (some-false slot_count _ (some-false x.now.pool.pages _ (not-true _ n) p hp) k hk) (current-word (at x t p) k (place-lt _ t _ p ht hp) hk ∙ e)

  -- ---- page q of store t, which a resident page names, may be loaded: rule 14
  module _ (t q : ℕ) (ht : t < x.now.pool.stores) (hq : q < x.now.pool.pages) (away : Absent (view x.now) (at x t q)) where
    abbrev stored : ℕ → ℕ
    stored k = name x.now.store (at x t q) k

    stored-word : (k : ℕ) → k < slot_count → stored k ≡ name x.map (at x t q) k
    stored-word k hk = unheld-word x I (at x t q) k (place-lt _ t _ q ht hq) away hk

    -- the stored word is the map's, and a number that stands in the store's map once
    same_place : (k p j : ℕ) → k < slot_count → stored k ≢ 0 → p < x.now.pool.pages → j < slot_count → name x.map (at x t p) j ≡ stored k → (p ≡ q) × (j ≡ k)
    same_place k p j hk n hp hj e = map-once x I t p j q k ht hp hj hq hk (λ z. n (sym e ∙ z)) (e ∙ stored-word k hk)

    not-repeated : (k : ℕ) → k < slot_count → stored k ≢ 0 → repeated x.now.store (at x t q) k ≡ false
    unfolding repeated
    not-repeated k hk n = false-some slot_count _ (λ j hj. is-off _ (λ e.
        let a = and-true (not (eqb j k)) _ e in
        eqb-false j k (not-true _ a.0) (same_place k q j hk n hq hj (sym (stored-word j hj) ∙ eqb-true _ _ a.1)).1))

    not_named : (k : ℕ) → k < slot_count → stored k ≢ 0 → named_by_resident x.now t (stored k) ≡ false
    unfolding named_by_resident
    not_named k hk n = false-some x.now.pool.count _ (λ f l. is-off _ (λ e.
        let a = and-true (occupied x.now.pool f) _ e in
        let m = and-true (eqb (store_in x.now.pool.records f) t) _ a.1 in
        let o : Occupied (view x.now) f = occupied-of x.now f a.0 in
        let p : ℕ = page_in x.now.pool.records f in
        let place : (view x.now).page f ≡ at x t p = ap (λ (u : ℕ). at x u p) (eqb-true _ t m.0) in
        let b = some-true slot_count _ m.1 in
        let same = same_place k p b.0 hk n (paged-below x.now (fit_of x I) f) b.1 (sym (held_word x I (at x t p) f b.0 (record { at = o; page = place }) b.1) ∙ eqb-true _ _ b.2) in
        away f o (place ∙ ap (at x t) same.0)))

    below : (k : ℕ) → k < slot_count → stored k < x.now.pool.pages
    below k hk = rw (stored-word k hk) (map_below x I (at x t q) k (place-lt _ t _ q ht hq) hk)

    pub may_load : loadable x.now t q ≡ true
    unfolding loadable word_loadable
    may_load = true-every slot_count _ (λ k hk. elim (ℕ_discrete (stored k) 0) [
      | yes z ↦ or_left _ (eq-eqb _ 0 z)
      | no z ↦ or_right _ (both _ _ (lt-ltb _ _ (below k hk)) (both _ _ (ap not (not-repeated k hk z)) (ap not (not_named k hk z))))
    ])
