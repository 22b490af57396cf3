-- A store is sound exactly where each page of it goes on from the pages before it: its numbers are fresh. The stores are looked at one after another, with one table. Assumes nothing.
use Rattle.std.specs.Prelude.{ℕ, ◌+◌, ◌<◌, ◌≤◌, ◌≡◌, refl, ◌≢◌, Bool, true, false, List, eqb}
use Rattle.std.proofs.Math.Path.{sym}
use Rattle.std.proofs.Common.{◌∙◌, ap, add-one, arith}
use Rattle.std.proofs.Math.Bool.{not}
use Rattle.std.proofs.Math.Decide.{dec_lt, ℕ_discrete}
use borrow.Author.Tests.{eq-eqb, ne_eqb, lt-ltb, eqb-true, eqb-false, ltb-true, not-true}
use Rattle.page.specs.Figures.{slot_count, most_pages}
use Rattle.page.specs.Page.{slot, page_words}
use Rattle.page.specs.StorePlaces.{store_place}
use Rattle.rules.specs.Tests.{◌or◌, every, some}
use Rattle.rules.specs.TestLaws.{clash, same, is-off, both, and-true, use⇒, make⇒, every_true, true-every, every-false, every-ext, every-step, every-zero, some-zero, some-suc, some-true, true-some}
use Rattle.machine.specs.Soundness.{words_below, words_once, sound_store, sound}
use Rattle.seen.specs.Fold.{or_same}
use Rattle.seen.specs.Among.{among, has_word, is_among, among-is, not-among, none-among, no_word, no-word-among}
use Rattle.seen.specs.Seen.{Seen, none, noted, Tells, WithinStore, fresh, Marked}
use Rattle.seen.specs.SeenLaws.{Fresh, fresh-zero, fresh-new, fresh-is, fresh-ext, none-noted, tells-ext, tells-elsewhere}

-- what the words of page p of store t name
abbrev stored_words : List ℕ → ℕ → ℕ → ℕ → ℕ → ℕ
stored_words st N t p = page_words st (store_place N t p)

-- x is a word of one of the first p pages of store t
unfoldable pub earlier : List ℕ → ℕ → ℕ → ℕ → ℕ → Bool
earlier st N t p x = some p (λ q. among (stored_words st N t q) slot_count x)

-- each word of page p of store t is 0, or below N and in no word before it
unfoldable pub fresh_page : List ℕ → ℕ → ℕ → ℕ → Bool
fresh_page st N t p = every slot_count (fresh (earlier st N t p) (stored_words st N t p) N)

-- ---- what is said of a sound store, as facts

record Sound (st : List ℕ) (N t : ℕ) : Type 0 where
  below : (p k : ℕ) → p < N → k < slot_count → stored_words st N t p k < N
  once : (p k q j : ℕ) → p < N → k < slot_count → q < N → j < slot_count → stored_words st N t p k ≢ 0 → stored_words st N t p k ≡ stored_words st N t q j → (p ≡ q) × (k ≡ j)

module _ (st : List ℕ) (N t : ℕ) where
  sound-facts : sound_store st N t ≡ true → Sound st N t
  unfolding sound_store words_below words_once slot
  sound-facts e =
      let a = and-true (words_below st N t) (words_once st N t) e in
      record {
        below = λ p k lp lk. ltb-true _ N (every_true slot_count _ (every_true N _ a.0 p lp) k lk);
        once = λ p k q j lp lk lq lj n e.
            let others = use⇒ _ _ (every_true slot_count _ (every_true N _ a.1 p lp) k lk) (ap not (ne_eqb _ 0 n)) in
            let b = and-true (eqb p q) (eqb k j) (use⇒ _ _ (every_true slot_count _ (every_true N _ others q lq) j lj) (eq-eqb _ _ e)) in
            (eqb-true p q b.0, eqb-true k j b.1);
      }

  facts-sound : Sound st N t → sound_store st N t ≡ true
  unfolding sound_store words_below words_once slot
  facts-sound S =
      both _ _ (true-every N _ (λ p lp. true-every slot_count _ (λ k lk. lt-ltb _ N (S.below p k lp lk))))
      (true-every N _ (λ p lp. true-every slot_count _ (λ k lk. make⇒ _ _ (λ n. true-every N _ (λ q lq. true-every slot_count _ (λ j lj. make⇒ _ _ (λ e.
      let b = S.once p k q j lp lk lq lj (eqb-false _ 0 (not-true _ n)) (eqb-true _ _ e) in
      both _ _ (eq-eqb p q b.0) (eq-eqb k j b.1))))))))

  -- ---- the words before a word

  is-earlier : (p q j x : ℕ) → q < p → j < slot_count → stored_words st N t q j ≡ x → earlier st N t p x ≡ true
  unfolding earlier
  is-earlier p q j x lq lj e = true-some p _ q lq (is_among (stored_words st N t q) slot_count x j lj e)

  not_earlier : (p x : ℕ) → ((q j : ℕ) → q < p → j < slot_count → stored_words st N t q j ≢ x) → earlier st N t p x ≡ false
  unfolding earlier
  not_earlier p x h = is-off _ (λ e.
      let a = some-true p (λ q. among (stored_words st N t q) slot_count x) e in
      let b = among-is (stored_words st N t a.0) slot_count x a.2 in
      h a.0 b.0 a.1 b.1 b.2)

  -- ---- from one reading to the other

  sound-pages : Sound st N t → (p : ℕ) → p < N → fresh_page st N t p ≡ true
  unfolding fresh_page
  sound-pages S p lp = true-every slot_count _ (λ k lk. elim (ℕ_discrete (stored_words st N t p k) 0) [
    | yes z ↦ fresh-zero (earlier st N t p) (stored_words st N t p) N k z
    | no z ↦ fresh-new (earlier st N t p) (stored_words st N t p) N k (record {
      below = S.below p k lp lk;
      unseen = not_earlier p (stored_words st N t p k) (λ q j lq lj e. let o : q ≡ p = sym (S.once p k q j lp lk (omega arith) lj z (sym e)).0 in omega arith);
      first = not-among (stored_words st N t p) k (stored_words st N t p k) (λ j lj e. let o : k ≡ j = (S.once p k p j lp lk lp (omega arith) z (sym e)).1 in omega arith);
    })
  ])

  module _ (f : (p : ℕ) → p < N → fresh_page st N t p ≡ true) where
    fresh-word : (p k : ℕ) → p < N → k < slot_count → stored_words st N t p k ≢ 0 → Fresh (earlier st N t p) (stored_words st N t p) N k
    unfolding fresh_page
    fresh-word p k lp lk n = fresh-is (earlier st N t p) (stored_words st N t p) N k (every_true slot_count _ (f p lp) k lk) n

    -- no word equals one of an earlier page, and none an earlier one of its page
    apart : (p k q j : ℕ) → p < q → q < N → k < slot_count → j < slot_count → stored_words st N t q j ≢ 0 → stored_words st N t p k ≢ stored_words st N t q j
    apart p k q j l lq lk lj n e = clash (sym (is-earlier q p k (stored_words st N t q j) l lk e) ∙ (fresh-word q j lq lj n).unseen)

    apart_in : (p k j : ℕ) → p < N → k < j → j < slot_count → stored_words st N t p j ≢ 0 → stored_words st N t p k ≢ stored_words st N t p j
    apart_in p k j lp l lj n = none-among (stored_words st N t p) j (stored_words st N t p j) (fresh-word p j lp lj n).first k l

    once-in : (p k j : ℕ) → p < N → k < slot_count → j < slot_count → stored_words st N t p k ≢ 0 → stored_words st N t p k ≡ stored_words st N t p j → k ≡ j
    once-in p k j lp lk lj n e = elim (dec_lt k j) [
      | yes l ↦ absurd (apart_in p k j lp l lj (λ z. n (e ∙ z)) e)
      | no l ↦ elim (dec_lt j k) [ yes m ↦ absurd (apart_in p j k lp m lk n (sym e)) | no m ↦ omega arith ]
    ]

    same-page : (p k q j : ℕ) → p < N → k < slot_count → q < N → j < slot_count → stored_words st N t p k ≢ 0 → stored_words st N t p k ≡ stored_words st N t q j → p ≡ q
    same-page p k q j lp lk lq lj n e = elim (dec_lt p q) [
      | yes l ↦ absurd (apart p k q j l lq lk lj (λ z. n (e ∙ z)) e)
      | no l ↦ elim (dec_lt q p) [ yes m ↦ absurd (apart q j p k m lp lj lk n (sym e)) | no m ↦ omega arith ]
    ]

    pages-below : (p k : ℕ) → p < N → k < slot_count → stored_words st N t p k < N
    pages-below p k lp lk = elim (ℕ_discrete (stored_words st N t p k) 0) [
      | yes z ↦ rw z (omega arith)
      | no z ↦ (fresh-word p k lp lk z).below
    ]

    pages-sound : Sound st N t
    pages-sound = record {
      below = pages-below;
      once = λ p k q j lp lk lq lj n e.
          let h : p ≡ q = same-page p k q j lp lk lq lj n e in
          (h, once-in p k j lp lk lj n (e ∙ ap (λ (x : ℕ). stored_words st N t x j) (sym h)));
    }

  pub by_pages : sound_store st N t ≡ every N (fresh_page st N t)
  by_pages = same _ _
      (λ e. true-every N (fresh_page st N t) (sound-pages (sound-facts e)))
      (λ e. facts-sound (pages-sound (every_true N (fresh_page st N t) e)))

  -- ---- what the code goes by: the first p pages are fresh, and the table tells of their words

  pub record Passed (p : ℕ) (table : Seen) : Type 0 where
    pub fine : every p (fresh_page st N t) ≡ true
    pub tells : Tells t table (earlier st N t p)

  pub passed_none : (table : Seen) → Tells t table (λ x. false) → Passed 0 table
  unfolding earlier
  passed_none table h = record { fine = every-zero (fresh_page st N t); tells = tells-ext t table _ _ h (λ x a b. sym (some-zero _)) }

  pub passed-all : (table : Seen) → Passed N table → true ≡ sound_store st N t
  passed-all table P = sym (by_pages ∙ P.fine)

  module _ (few : N ≤ most_pages) (p : ℕ) (table : Seen) (P : Passed p table) where
    -- the test of a page by the table is that by the pages before it
    by-table : every slot_count (fresh (noted table t) (stored_words st N t p) N) ≡ fresh_page st N t p
    unfolding fresh_page
    by-table = every-ext slot_count _ _ (λ k l. fresh-ext (noted table t) (earlier st N t p) (stored_words st N t p) N (λ x a b. P.tells.right x a (omega arith)) k)

    earlier-next : (x : ℕ) → earlier st N t (p + 1) x ≡ (earlier st N t p x or among (stored_words st N t p) slot_count x)
    unfolding earlier
    earlier-next x = rw (add-one p, some-suc p (λ q. among (stored_words st N t q) slot_count x))

    pub pass-page : (next : Seen) → Marked t slot_count (stored_words st N t p) N table next true → Passed (p + 1) next
    pass-page next M = record {
      fine = every-step p (fresh_page st N t) P.fine (sym (M.answer ∙ by-table));
      tells = tells-ext t next _ _ (M.tells refl) (λ x a b. ap (λ (c : Bool). c or among (stored_words st N t p) slot_count x) (P.tells.right x a b) ∙ sym (earlier-next x));
    }

    pub fail-page : (next : Seen) → p < N → Marked t slot_count (stored_words st N t p) N table next false → false ≡ sound_store st N t
    fail-page next l M = sym (by_pages ∙ every-false N (fresh_page st N t) p l (sym (M.answer ∙ by-table)))

    -- a page without a number is passed over
    pub pass-over : has_word (stored_words st N t p) ≡ false → Passed (p + 1) table
    pass-over e = record {
      fine = every-step p (fresh_page st N t) P.fine (sym by-table ∙ true-every slot_count _ (λ k l. fresh-zero (noted table t) (stored_words st N t p) N k (no_word (stored_words st N t p) e k l)));
      tells = tells-ext t table _ _ P.tells (λ x a b. sym (earlier-next x ∙ or_same (earlier st N t p x) (no-word-among (stored_words st N t p) e x a)));
    }

-- ---- and of the stores: the first t are sound, and nothing of the others is noted

pub record PassedStores (st : List ℕ) (N t : ℕ) (table : Seen) : Type 0 where
  pub fine : every t (sound_store st N) ≡ true
  pub clear : (u : ℕ) → t ≤ u → Tells u table (λ x. false)

module _ (st : List ℕ) (N : ℕ) where
  pub passed-no-store : PassedStores st N 0 none
  passed-no-store = record { fine = every-zero (sound_store st N); clear = λ u l. none-noted u }

  pub pass-store : (t : ℕ) (table next : Seen) → PassedStores st N t table → true ≡ sound_store st N t → WithinStore t table next → PassedStores st N (t + 1) next
  pass-store t table next P e W = record {
    fine = every-step t (sound_store st N) P.fine (sym e);
    clear = λ u l. tells-elsewhere t u (λ z. omega arith) table next W _ (P.clear u (omega arith));
  }

  pub fail-store : (t T : ℕ) → t < T → false ≡ sound_store st N t → false ≡ sound st N T
  unfolding sound
  fail-store t T l e = sym (every-false T (sound_store st N) t l (sym e))

  pub passed-stores : (T : ℕ) (table : Seen) → PassedStores st N T table → true ≡ sound st N T
  unfolding sound
  passed-stores T table P = sym P.fine
