-- What rules 1 and 2 give to the code: counts, lengths, ranges, places in the stores, where swizzled words lead, and the directory's chains. Assumes nothing.
use Rattle.std.specs.Prelude.{ℕ, ◌+◌, ◌*◌, ◌<◌, ◌≤◌, ◌≡◌, refl, ◌≢◌, true, false, List, [], eqb, ltb, leb, length, get_or}
use Rattle.std.proofs.Common.{sym, ◌∙◌, arith, eqb-true, leb-true, le-leb, eq-eqb, ne_eqb, lt-ltb, le-ltb, ltb-true, ltb-false}
use Rattle.page.specs.Figures.{page_size, slot_count, least_frames, most_frames, most_pages, most_stores}
use Rattle.page.specs.Word.{frame_in, frame_word, high, low, reading}
use Rattle.page.specs.Page.{name}
use Rattle.page.proofs.StorePlaceLaws.{place-lt}
use Rattle.machine.specs.declared.FrameRecord.{FrameRecord}
use Rattle.rules.specs.Tests.{pick, ◌and◌, first_broken}
use Rattle.rules.specs.TestLaws.{clash, and-true, both, first-kept, case, on, off, every_true, true-every, pick_yes, pick_no}
use Rattle.machine.specs.Machine.{State, is_used, is_dirty, record_at, place_in, occupied}
use Rattle.machine.specs.Agreement.{is_blank, agree}
use Rattle.machine.proofs.Laws.AgreementFacts.{InRange, Points, Agreed, facts, make-occupied, occupied-lt, occupied-used}
use Rattle.chains.specs.Chain.{directory_size}
use Rattle.machine.specs.Directory.{chains_agree}
use Rattle.chains.specs.Links.{Chained}
use Rattle.machine.proofs.Laws.DirectoryFacts.{home_of, chains-facts}
use Rattle.machine.specs.Rules.{lengths_fit, ceiling_fits, stores_fit, directory_fits}
use Rattle.machine.specs.Calls.{pool_rules}

-- ---- rule 1

-- F and N are in their ranges, and the buffers have their lengths
pub record Lengths (F N T : ℕ) (fs st : List ℕ) : Type 0 where
  pub least : least_frames ≤ F
  pub most : F ≤ most_frames
  pub some : 1 ≤ N
  pub pages : N ≤ most_pages
  pub frames : length fs ≡ page_size * F
  pub store : length st ≡ page_size * (N * T)

-- T and the stores' ceilings are in their ranges
pub record Stores (F T : ℕ) (ceilings : List ℕ) : Type 0 where
  pub some : 1 ≤ T
  pub most : T ≤ most_stores
  pub below : T < F
  pub ceiling_least : (t : ℕ) → t < T → 1 ≤ get_or ceilings t 0
  pub ceiling_most : (t : ℕ) → t < T → get_or ceilings t 0 ≤ F
  pub no_ceiling : (t : ℕ) → t < most_stores → T ≤ t → get_or ceilings t 0 ≡ 0

pub lengths-of : (F N T : ℕ) (fs st : List ℕ) → lengths_fit F N T fs st ≡ true → Lengths F N T fs st
unfolding lengths_fit
lengths-of F N T fs st t =
    let a = and-true (leb least_frames F) _ t in
    let b = and-true (leb F most_frames) _ a.1 in
    let c = and-true (leb 1 N) _ b.1 in
    let d = and-true (leb N most_pages) _ c.1 in
    let e = and-true (eqb (length fs) (page_size * F)) _ d.1 in
    record { least = leb-true least_frames F a.0; most = leb-true F most_frames b.0; some = leb-true 1 N c.0; pages = leb-true N most_pages d.0; frames = eqb-true _ _ e.0; store = eqb-true _ _ e.1 }

pub of-lengths : (F N T : ℕ) (fs st : List ℕ) → Lengths F N T fs st → lengths_fit F N T fs st ≡ true
unfolding lengths_fit
of-lengths F N T fs st h =
    both _ _ (le-leb least_frames F h.least) (both _ _ (le-leb F most_frames h.most) (both _ _ (le-leb 1 N h.some) (both _ _ (le-leb N most_pages h.pages)
    (both _ _ (eq-eqb _ _ h.frames) (eq-eqb _ _ h.store)))))

abbrev pub Sized : State → Type 0
Sized s = Lengths s.pool.count s.pool.pages s.pool.stores s.frames s.store

pub stores-of : (F T : ℕ) (ceilings : List ℕ) → stores_fit F T ceilings ≡ true → Stores F T ceilings
unfolding stores_fit ceiling_fits
stores-of F T cs t =
    let a = and-true (leb 1 T) _ t in
    let b = and-true (leb T most_stores) _ a.1 in
    let c = and-true (leb (T + 1) F) _ b.1 in
    let few : T ≤ most_stores = leb-true T most_stores b.0 in
    let room : T + 1 ≤ F = leb-true (T + 1) F c.0 in
    let at : (i : ℕ) → i < most_stores → pick (ltb i T) (leb 1 (get_or cs i 0) and leb (get_or cs i 0) F) (eqb (get_or cs i 0) 0) ≡ true = every_true most_stores _ c.1 in
    let own : (i : ℕ) → i < T → (leb 1 (get_or cs i 0) and leb (get_or cs i 0) F) ≡ true = λ i l. pick_yes (eqb (get_or cs i 0) 0) (lt-ltb i T l) refl ∙ at i (omega arith) in
    record {
      some = leb-true 1 T a.0;
      most = few;
      below = omega arith;
      ceiling_least = λ i l. leb-true 1 _ (and-true (leb 1 (get_or cs i 0)) _ (own i l)).0;
      ceiling_most = λ i l. leb-true _ F (and-true (leb 1 (get_or cs i 0)) _ (own i l)).1;
      no_ceiling = λ i l h. eqb-true _ 0 (pick_no (leb 1 (get_or cs i 0) and leb (get_or cs i 0) F) (le-ltb i T h) refl ∙ at i l);
    }

pub of-stores : (F T : ℕ) (ceilings : List ℕ) → Stores F T ceilings → stores_fit F T ceilings ≡ true
unfolding stores_fit ceiling_fits
of-stores F T cs h =
    both _ _ (le-leb 1 T h.some) (both _ _ (le-leb T most_stores h.most) (both _ _ (le-leb (T + 1) F (omega (arith, h.below))) (true-every most_stores _ (λ i l. elim (case (ltb i T)) [
      | on e ↦ let m : i < T = ltb-true i T e in sym (pick_yes _ e refl) ∙ both _ _ (le-leb 1 _ (h.ceiling_least i m)) (le-leb _ F (h.ceiling_most i m))
      | off e ↦ sym (pick_no _ e refl) ∙ eq-eqb _ 0 (h.no_ceiling i l (ltb-false i T e))
    ]))))

abbrev pub Ceiled : State → Type 0
Ceiled s = Stores s.pool.count s.pool.stores s.pool.ceilings

pub directory-of : (d : List ℕ) → directory_fits d ≡ true → length d ≡ directory_size
unfolding directory_fits
directory-of d t = eqb-true _ directory_size t

pub of-directory : (d : List ℕ) → length d ≡ directory_size → directory_fits d ≡ true
unfolding directory_fits
of-directory d e = eq-eqb _ directory_size e

pub not-directory : (d : List ℕ) → length d ≢ directory_size → directory_fits d ≡ false
unfolding directory_fits
not-directory d n = ne_eqb _ directory_size n

-- ---- rules 1 and 2

pub record Kept (s : State) : Type 0 where
  pub sized : Sized s
  pub stores : Ceiled s
  pub agreed : Agreed s.pool s.frames
  pub directory : length s.directory ≡ directory_size
  pub chained : Chained (home_of s.pool) s.directory

pub rules-kept : (s : State) → first_broken (pool_rules s) ≡ 0 → Kept s
rules-kept s e =
    let a = first-kept 0 (lengths_fit s.pool.count s.pool.pages s.pool.stores s.frames s.store and stores_fit s.pool.count s.pool.stores s.pool.ceilings and directory_fits s.directory) _ e in
    let b = first-kept 1 (agree s.pool s.frames and chains_agree s.pool s.directory) [] a.1 in
    let l = and-true (lengths_fit s.pool.count s.pool.pages s.pool.stores s.frames s.store) _ a.0 in
    let t = and-true (stores_fit s.pool.count s.pool.stores s.pool.ceilings) _ l.1 in
    let c = and-true (agree s.pool s.frames) _ b.0 in
    let Z : Sized s = lengths-of _ _ _ _ _ l.0 in
    record {
      sized = Z;
      stores = stores-of _ _ _ t.0;
      agreed = facts s.pool s.frames c.0;
      directory = directory-of _ t.1;
      chained = chains-facts s.pool Z.most s.directory c.1;
    }

-- ---- what the moves need, which a sweep keeps too

pub record Ready (s : State) : Type 0 where
  pub sized : Sized s
  pub stores : Ceiled s
  pub hand : s.pool.hand.0 < s.pool.count
  pub in_range : (f : ℕ) → f < s.pool.count → InRange s.pool (record_at s.pool.records f)
  pub dirty_used : (f : ℕ) → f < s.pool.count → is_dirty (record_at s.pool.records f) ≡ true → is_used (record_at s.pool.records f) ≡ true
  pub words : (f k : ℕ) → f < s.pool.count → is_used (record_at s.pool.records f) ≡ true → k < slot_count → name s.frames f k < frame_word most_frames

-- every record's page has its place among those of all stores
pub place-below : (s : State) → Ready s → (f : ℕ) → f < s.pool.count → place_in s.pool.pages s.pool.records f < s.pool.pages * s.pool.stores
place-below s R f l = place-lt s.pool.pages _ _ _ (R.in_range f l).store (R.in_range f l).page

blank-clean : (r : FrameRecord) → is_blank r ≡ true → is_dirty r ≡ false
unfolding is_blank
blank-clean r t =
    let a = and-true (eqb r.used 0) _ t in
    let b = eqb-true r.dirty 0 (and-true (eqb r.dirty 0) _ a.1).0 in
    ne_eqb r.dirty 1 (λ e. omega arith)

module _ (s : State) (K : Kept s) where
  most : s.pool.count ≤ most_frames
  most = K.sized.most

  dirty-used : (f : ℕ) → f < s.pool.count → is_dirty (record_at s.pool.records f) ≡ true → is_used (record_at s.pool.records f) ≡ true
  dirty-used f l d = elim (case (occupied s.pool f)) [
    | on o ↦ occupied-used s.pool f o
    | off o ↦ absurd (clash (sym d ∙ blank-clean _ (K.agreed.blank f (omega (arith, most)) o)))
  ]

  low-words : (f k : ℕ) → f < s.pool.count → is_used (record_at s.pool.records f) ≡ true → k < slot_count → name s.frames f k < frame_word most_frames
  low-words f k l u h = elim (reading (name s.frames f k)) [
    | low a ↦ omega arith
    | high j a ↦
        let p : Points s.pool (frame_in (name s.frames f k)) f k = K.agreed.back f k (make-occupied s.pool f l u) h (omega arith) in
        let g : frame_in (name s.frames f k) < s.pool.count = occupied-lt s.pool _ p.at in
        omega (arith, most)
  ]

  pub ready : Ready s
  ready = record {
    sized = K.sized;
    stores = K.stores;
    hand = K.agreed.hand;
    in_range = λ f l. K.agreed.in_range f (omega (arith, most));
    dirty_used = dirty-used;
    words = low-words;
  }
