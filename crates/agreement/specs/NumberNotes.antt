-- How the numbers of a frame are noted: its page, and then its words. Assumes nothing.
use Rattle.std.specs.Prelude.{ℕ, ◌+◌, ◌-◌, ◌/◌, ◌%◌, ◌<◌, ◌≤◌, ◌≡◌, ◌≢◌, Bool, true, false, List}
use Rattle.std.proofs.Common.{refl, sym, ◌∙◌, ap, arith}
use Rattle.std.proofs.Math.Decide.{ℕ_discrete}
use Rattle.page.specs.Figures.{slot_count, most_pages, most_stores}
use Rattle.page.specs.Page.{slot}
use Rattle.machine.specs.declared.FrameRecord.{FrameRecord}
use Rattle.machine.specs.Machine.{is_used}
use Rattle.rules.specs.TestLaws.{clash}
use Rattle.seen.specs.Seen.{Seen, WithinStore, Notes, Marked, row_of}
use Rattle.seen.specs.SeenLaws.{within_same, within-then}
use Rattle.agreement.specs.Counting.{count-le}
use Rattle.agreement.specs.Twice.{keyed, keyed-zero, PassedRow, Progress, twice-more, pass-one, goes_on, RowNoted, noted-none, noted_one, noted-zeros, noted-twice}
use Rattle.agreement.specs.Fit.{number_below, over_from, word_keys, low_sum, BelowOf, over_weight, SumsWords, WordsNoted, NotesNumbers, NumbersNoted, FrameNoted}
use Rattle.agreement.specs.FitLaws.{below-lt, numbers-lt, low-none, low-more, low-within, low-rest}

-- the numbers of the words before slot k are noted one after the other, and the others add up to what is left of the sum
pub record NotedTo (w : ℕ → ℕ) (N t k left : ℕ) (seen now : Seen) : Type 0 where
  pub most : k ≤ slot_count
  pub rest : left + low_sum w N k ≡ low_sum w N slot_count
  pub notes : RowNoted (word_keys w N t) k seen now true
  pub within : WithinStore t seen now

module _ (w : ℕ → ℕ) (N t : ℕ) (store : t < most_stores) (some : 1 ≤ N) (few : N ≤ most_pages) where
  -- ---- the words

  -- noted all at once
  pub words-marked : (numbers : List ℕ) → BelowOf w N numbers → (seen seen' : Seen) (r : Bool) → Marked t slot_count (row_of numbers) most_pages seen seen' r → WordsNoted w N t seen seen' r
  words-marked numbers B seen seen' r M = record {
    notes = record {
      goes = λ row i h P. goes_on row i slot_count t (row_of numbers) (λ k l. h k l ∙ ap (keyed t) (sym (B.right k l))) (λ k l. omega (arith, numbers-lt w N numbers some B k l)) store seen seen' P r M;
    };
    within = M.within;
  }

  -- one after the other
  pub noted-first : (sum : ℕ) → sum ≡ low_sum w N slot_count → (seen : Seen) → NotedTo w N t 0 sum seen seen
  noted-first sum e seen = record { most = omega arith; rest = omega (arith, low-none w N); notes = noted-none (word_keys w N t) seen; within = within_same t seen }

  module _ (k left : ℕ) (seen now : Seen) (R : NotedTo w N t k left seen now) where
    -- there is another slot where something is left
    pub noted-inside : left ≢ 0 → k < slot_count
    noted-inside n = elim (ℕ_discrete k slot_count) [
      | yes e ↦ absurd (n (let q : low_sum w N k ≡ low_sum w N slot_count = ap (low_sum w N) e in omega (arith, R.rest)))
      | no e ↦ omega (arith, R.most)
    ]

    -- all are noted where nothing is
    pub noted-last : left ≡ 0 → WordsNoted w N t seen now true
    noted-last z =
        let e : k + (slot_count - k) ≡ slot_count = omega (arith, R.most) in
        let l : low_sum w N slot_count ≤ low_sum w N k = omega (arith, R.rest) in
        record {
          notes = rw e at (noted-zeros (word_keys w N t) k seen now R.notes (slot_count - k) (λ j h. keyed-zero t _ (low-rest w N k slot_count l (k + j) (omega arith) (omega (arith, R.most)))));
          within = R.within;
        }

    -- the number of slot k
    module _ (inside : k < slot_count) (x : ℕ) (e : x ≡ number_below N (w k)) where
      pub noted-few : x ≤ left
      noted-few = omega (arith, R.rest, low-more w N k, low-within w N (k + 1) slot_count (omega arith))

      pub noted_small : x < most_pages
      noted_small = let b : x < N = rw e (below-lt N _ some) in omega arith

      module _ (next : Seen) (new : Bool) (S : Notes t x now next new) where
        by_one : RowNoted (word_keys w N t) (k + 1) seen next new
        by_one = noted_one (word_keys w N t) k seen now R.notes t x (ap (keyed t) (sym e)) store noted_small next new S

        pub noted-next : new ≡ true → NotedTo w N t (k + 1) (left - x) seen next
        noted-next z = record {
          most = omega arith;
          rest = omega (arith, R.rest, low-more w N k, noted-few);
          notes = rw z at by_one;
          within = within-then t seen now next R.within S.within;
        }

        pub noted-stale : new ≡ false → WordsNoted w N t seen next false
        noted-stale z = record {
          notes = noted-twice (word_keys w N t) (k + 1) slot_count (omega arith) seen next next (rw z at by_one);
          within = within-then t seen now next R.within S.within;
        }

  -- there are none
  pub no-words-noted : low_sum w N slot_count ≡ 0 → (seen : Seen) → WordsNoted w N t seen seen true
  no-words-noted z seen = noted-last 0 0 seen seen (noted-first 0 (sym z) seen) refl

  -- ---- the page, and then the words

  module _ (page : ℕ) (below : page < most_pages) (seen now : Seen) (new : Bool) (S : Notes t page seen now new) where
    by-page : (row : ℕ → ℕ) (i : ℕ) → row i ≡ keyed t page → PassedRow row i seen → Progress row (i + 1) now new
    by-page row i e P = pass-one row i seen now t page e store below new S P

    -- the page was noted before
    pub page-stale : new ≡ false → NumbersNoted w N t page seen now 0 false
    page-stale z = record {
      few = omega arith;
      counts = λ e. absurd (clash (sym e));
      notes = λ row i p h P. twice-more row (i + 1) (i + 17) (omega arith) (rw z at (by-page row i p P));
      within = S.within;
    }

    module _ (fresh-page : new ≡ true) (sum : ℕ) (W : SumsWords w N sum) (seen' : Seen) (fresh : Bool) (D : WordsNoted w N t now seen' fresh) where
      by-words : NotesNumbers w N t page seen seen' fresh
      by-words row i p h P = let q : i + 17 ≡ i + 1 + 16 = omega arith in rw q (D.notes.goes row (i + 1) h (rw fresh-page at (by-page row i p P)))

      -- the words were noted
      pub words-told : NumbersNoted w N t page seen seen' (sum / over_weight) fresh
      words-told = record {
        few = omega (arith, W.counts, count-le slot_count (over_from w N));
        counts = λ e. W.counts;
        notes = by-words;
        within = within-then t seen now seen' S.within D.within;
      }

      -- a word was noted before
      pub words-stale : fresh ≡ false → NumbersNoted w N t page seen seen' 0 false
      words-stale z = record {
        few = omega arith;
        counts = λ e. absurd (clash (sym e));
        notes = rw z at by-words;
        within = within-then t seen now seen' S.within D.within;
      }

      -- all are new
      pub words-noted : fresh ≡ true → NumbersNoted w N t page seen seen' (sum / over_weight) true
      words-noted z = rw z at words-told

    -- no word is a number
    pub no_words : new ≡ true → (sum : ℕ) → SumsWords w N sum → sum % over_weight ≡ 0 → NumbersNoted w N t page seen now (sum / over_weight) true
    no_words z sum W e = words-told z sum W now true (no-words-noted (sym W.low ∙ e) now)

-- ---- frame f, which a page of store t occupies

pub frame-noted : (fs : List ℕ) (N f t : ℕ) (r : FrameRecord) (seen seen' : Seen) (over : ℕ) (fresh : Bool) → r.store.0 ≡ t → is_used r ≡ true → NumbersNoted (slot fs f) N t r.page.0 seen seen' over fresh → FrameNoted fs N f r seen seen' over fresh
frame-noted fs N f t r seen seen' over fresh s used D = record {
  few = D.few;
  counts = λ e u. D.counts e;
  nothing = λ u. absurd (clash (sym used ∙ u));
  notes = λ row i h P. D.notes row i (rw s at (h.page used)) (rw s at (h.words used)) P;
  alone = λ z A. D.within.alone (sym s ∙ z) A;
}
