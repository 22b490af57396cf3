-- Request A.8: what bit 30 of a word is to opening, to loading and to rule 2, in any state. Assumes nothing.
use Rattle.std.specs.Prelude.{ℕ, ◌+◌, ◌*◌, ◌/◌, ◌%◌, ◌<◌, ◌≤◌, ◌≡◌, refl, ◌≢◌, Bool, true, false, List, [], ◌∷◌, length}
use Rattle.std.proofs.Common.{sym, ◌∙◌, arith, ne_eqb, le-ltb}
use Rattle.std.proofs.Math.Path.{ap}
use Rattle.std.proofs.Math.Bool.{not}
use Rattle.std.proofs.Math.Dec.{eqb, ltb}
use Rattle.page.specs.Figures.{slot_count, most_pages, word_radix, swizzle_bit, lock_bit}
use Rattle.page.specs.Word.{name_of, is_number, frame_in, names_nothing, plainly, markedly, bit-alone}
use Rattle.page.proofs.NameLaws.{says}
use Rattle.page.specs.Page.{slot, name}
use Rattle.page.specs.StorePlaces.{store_place}
use Rattle.page.proofs.StorePlaceLaws.{place-lt}
use Rattle.machine.specs.declared.Handle.{Handle}
use Rattle.rules.specs.Tests.{pick, ◌and◌, ◌⇒◌, every, Rule, first_broken, verdict}
use Rattle.rules.specs.TestLaws.{clash, is-off, and_left, and_no, or_off, every-false, every-ext, pick_yes, pick_two, kept_then, broken-here, numbered}
use Rattle.machine.specs.Machine.{State, occupied}
use Rattle.machine.specs.Agreement.{agree}
use Rattle.machine.specs.Soundness.{stored_name, words_below, words_once, sound_store, sound}
use Rattle.machine.specs.Naming.{word_loadable, loadable}
use Rattle.machine.specs.Rules.{lengths_fit, word_of, frames_in, pages_of_each, rule1, rule1-open, rule2, rule13, rule15, rule16, rule27}
use Rattle.machine.specs.Answers.{Answer, refused, done, Out, out}
use Rattle.machine.specs.Calls.{decide, open_rules, open_call, fix_entry_rules, fix_rules, root_call, fix_call, unfix_call, show_call, peek_call, word_call, write_call, link_call, unlink_call, evict_call, settle_call, find_call}
use Rattle.machine.specs.History.{Call, reopen, root, fix, unfix, show, peek, word, write, link, unlink, evict, settle, find, row}
use Rattle.machine.proofs.Laws.AgreementFacts.{facts}
use Rattle.machine.proofs.Laws.Ready.{lengths-of}
use Rattle.machine.proofs.Laws.RuleLaws.{slot-parts}
use Rattle.machine.proofs.Laws.Outcomes.{refused-by, answers-as, kept-part, load_rules}

-- "page numbers and frame indices become the low 30 bits": beside bit 31, and but for bit 30 alone
pub low-thirty : (w : ℕ) → w < word_radix → w ≢ lock_bit → name_of w ≡ swizzle_bit * (w / swizzle_bit) + w % lock_bit
low-thirty w h n = elim (says w) [
  | plainly m e b ↦ let c : w / lock_bit % 2 ≢ 1 = b n in e ∙ omega arith
  | markedly m e b z ↦ omega arith
]

-- a word that is bit 30 alone names what isn't below N
alone-above : (b : List ℕ) (p k N : ℕ) → N < lock_bit → slot b p k ≡ lock_bit → ltb (name b p k) N ≡ false
alone-above b p k N h e = le-ltb (name b p k) N (let n : name b p k ≡ lock_bit = ap name_of e ∙ bit-alone.0 in omega arith)

-- ---- "Opening accepts bit 30 on a word naming a page": a store is sound by what its words name

module _ (a b : List ℕ) (N : ℕ) where
  store-by-names : (t : ℕ) → ((p k : ℕ) → p < N → k < slot_count → stored_name a N t p k ≡ stored_name b N t p k) → sound_store a N t ≡ sound_store b N t
  unfolding sound_store words_below words_once
  store-by-names t e = and_same _ _ _ _
      (every-ext N _ _ (λ p hp. every-ext slot_count _ _ (λ k hk. ap (λ (n : ℕ). ltb n N) (e p k hp hk))))
      (every-ext N _ _ (λ p hp. every-ext slot_count _ _ (λ k hk.
      ap (λ (n : ℕ). not (names_nothing n) ⇒ every N (λ q. every slot_count (λ j. eqb n (stored_name a N t q j) ⇒ (eqb p q and eqb k j)))) (e p k hp hk)
      ∙ ap (λ (u : Bool). not (names_nothing (stored_name b N t p k)) ⇒ u) (every-ext N _ _ (λ q hq. every-ext slot_count _ _ (λ j hj.
      ap (λ (n : ℕ). eqb (stored_name b N t p k) n ⇒ (eqb p q and eqb k j)) (e q j hq hj)))))))
    where
      and_same : (a b c d : Bool) → a ≡ b → c ≡ d → (a and c) ≡ (b and d)
      and_same a b c d x y = rw (x, y)

  -- each of T stores
  pub sound-by-names : (T : ℕ) → ((p k : ℕ) → p < N * T → k < slot_count → name a p k ≡ name b p k) → sound a N T ≡ sound b N T
  unfolding sound
  sound-by-names T e = every-ext T _ _ (λ t l. store-by-names t (λ p k hp hk. e (store_place N t p) k (place-lt N t T p l hp) hk))

-- a call's answer by the number of the first broken rule
answer-by : (s : State) (rules : List Rule) (a : Answer) (t : State) → (decide s rules (out a t)).answer ≡ verdict (first_broken rules) refused a
unfolding decide verdict
answer-by s rules a t = pick_two (λ (o : Out) (b : Answer). o.answer ≡ b) (eqb (first_broken rules) 0) (out a t) (out (refused (first_broken rules)) s) a (refused (first_broken rules)) refl refl

open-rules-by-names : (T : ℕ) (ceilings fs a b d : List ℕ) → length a ≡ length b → sound a (pages_of_each T b) T ≡ sound b (pages_of_each T b) T
    → first_broken (open_rules T ceilings fs a d) ≡ first_broken (open_rules T ceilings fs b d)
unfolding lengths_fit
open-rules-by-names T ceilings fs a b d l s = rw (l, s)

pub open-by-names : (T : ℕ) (ceilings fs a b d : List ℕ) → length a ≡ length b → ((p k : ℕ) → p < pages_of_each T b * T → k < slot_count → name a p k ≡ name b p k)
    → (open_call T ceilings fs a d).answer ≡ (open_call T ceilings fs b d).answer
unfolding open_call
open-by-names T ceilings fs a b d l e =
    answer-by _ (open_rules T ceilings fs a d) done _ ∙ ap (λ (n : ℕ). verdict n refused done) (open-rules-by-names T ceilings fs a b d l (sound-by-names a b (pages_of_each T b) T e))
    ∙ sym (answer-by _ (open_rules T ceilings fs b d) done _)

-- ---- "and denies it on a word of otherwise 0 (16; when loading 14, in an occupied frame 2)"

-- the figures and the lengths fit: rule 1 is kept, at open and later
abbrev pub FitOpen : ℕ → List ℕ → List ℕ → List ℕ → List ℕ → Type 0
FitOpen T ceilings fs st d = (rule1-open T ceilings fs st d).1 ≡ true

abbrev pub FitNow : State → Type 0
FitNow s = (rule1 s).1 ≡ true

pub record AloneDenied : Type 0 where
  -- in any of T stores
  pub opening : (T : ℕ) (ceilings fs st d : List ℕ) (t p k : ℕ) → FitOpen T ceilings fs st d → t < T → p < pages_of_each T st → k < slot_count → slot st (store_place (pages_of_each T st) t p) k ≡ lock_bit
      → (open_call T ceilings fs st d).answer ≡ refused 16
  pub loading : (s : State) (h : Handle) (k j : ℕ) → first_broken (fix_entry_rules s h k) ≡ 0 → is_number (word_of s h k) ≡ true → j < slot_count
      → slot s.store (store_place s.pool.pages h.store.0 (word_of s h k)) j ≡ lock_bit → (fix_call s h k).answer ≡ refused 14
  pub in_frame : (s : State) (f k : ℕ) → FitNow s → occupied s.pool f ≡ true → k < slot_count → slot s.frames f k ≡ lock_bit → (c : Call) → (row c).anew ≡ false → ((row c).out s).answer ≡ refused 2

-- the store isn't sound
alone-unsound : (st : List ℕ) (N T t p k : ℕ) → N < lock_bit → t < T → p < N → k < slot_count → slot st (store_place N t p) k ≡ lock_bit → sound st N T ≡ false
unfolding sound sound_store words_below
alone-unsound st N T t p k small ht hp hk e =
    every-false T _ t ht (sym (and_no (words_once st N t) (every-false N _ p hp (every-false slot_count _ k hk (alone-above st (store_place N t p) k N small e)))))

-- the stored page may not come in
alone-unloadable : (s : State) (t q j : ℕ) → s.pool.pages < lock_bit → j < slot_count → slot s.store (store_place s.pool.pages t q) j ≡ lock_bit → loadable s t q ≡ false
unfolding loadable word_loadable
alone-unloadable s t q j small hj e =
    let at = store_place s.pool.pages t q in
    let n : name s.store at j ≢ 0 = λ z. let w : name s.store at j ≡ lock_bit = ap name_of e ∙ bit-alone.0 in omega arith in
    every-false slot_count _ j hj (or_off (ne_eqb (name s.store at j) 0 n) (sym (and_no _ (alone-above s.store at j s.pool.pages small e))))

-- records and frames don't agree
alone-disagrees : (s : State) (f k : ℕ) → s.pool.pages < lock_bit → occupied s.pool f ≡ true → k < slot_count → slot s.frames f k ≡ lock_bit → agree s.pool s.frames ≡ false
alone-disagrees s f k small o hk e =
    let w : name s.frames f k ≡ lock_bit = ap name_of e ∙ bit-alone.0 in
    is-off _ (λ t. let l = (facts s.pool s.frames t).below f k o hk (omega arith) (λ z. omega arith) in omega arith)

-- so the call is refused
open-refused : (T : ℕ) (ceilings fs st d : List ℕ) → FitOpen T ceilings fs st d → sound st (pages_of_each T st) T ≡ false → (open_call T ceilings fs st d).answer ≡ refused 16
unfolding open_call
open-refused T ceilings fs st d fit u =
    answers-as (refused-by _ (open_rules T ceilings fs st d) _ 16 (omega arith) (kept_then 1 (rule16 T (pages_of_each T st) st ∷ []) fit ∙ broken-here 16 [] u))

fix-refused : (s : State) (h : Handle) (k : ℕ) → first_broken (fix_entry_rules s h k) ≡ 0 → is_number (word_of s h k) ≡ true → loadable s h.store.0 (word_of s h k) ≡ false → (fix_call s h k).answer ≡ refused 14
unfolding fix_call numbered ◌and◌
fix-refused s h k b t u =
    let w = word_of s h k in
    let last : List Rule = pick (is_number w) (load_rules s h.store.0 w) (rule13 s (frame_in w) ∷ []) in
    answers-as (refused-by s (fix_rules s h k) _ 14 (omega arith)
    (kept-part (fix_entry_rules s h k) last refl b ∙ ap first_broken (sym (pick_yes (rule13 s (frame_in w) ∷ []) t refl)) ∙ broken-here 14 (rule15 s h.store.0 ∷ rule27 s h.store.0 ∷ []) u))

-- every call but open tests 1 and 2 first
module _ (s : State) (fit : FitNow s) (u : agree s.pool s.frames ≡ false) where
  by_two : (rest : List Rule) (a : Out) → (decide s (rule1 s ∷ rule2 s ∷ rest) a).answer ≡ refused 2
  by_two rest a = answers-as (refused-by s (rule1 s ∷ rule2 s ∷ rest) a 2 (omega arith) (kept_then 1 (rule2 s ∷ rest) fit ∙ broken-here 2 rest (sym (and_no _ u))))

  disagreeing : (c : Call) → (row c).anew ≡ false → ((row c).out s).answer ≡ refused 2
  unfolding root_call fix_call unfix_call show_call peek_call word_call write_call link_call unlink_call evict_call settle_call find_call
  disagreeing (reopen T ceilings) e = absurd (clash e)
  disagreeing (root t) e = by_two _ _
  disagreeing (fix h k) e = by_two _ _
  disagreeing (unfix h) e = by_two _ _
  disagreeing (show h) e = by_two _ _
  disagreeing (peek t q) e = by_two _ _
  disagreeing (word h k) e = by_two _ _
  disagreeing (write h offset d) e = by_two _ _
  disagreeing (link h k q l) e = by_two _ _
  disagreeing (unlink h k) e = by_two _ _
  disagreeing (evict t q) e = by_two _ _
  disagreeing settle e = by_two _ _
  disagreeing (find t q) e = by_two _ _

pub alone-denied : AloneDenied
alone-denied = record { opening = at_open; loading = at_load; in_frame = at-rule2 }
  where
    few : (N : ℕ) → N ≤ most_pages → N < lock_bit
    few N h = omega arith

    at_open : (T : ℕ) (ceilings fs st d : List ℕ) (t p k : ℕ) → FitOpen T ceilings fs st d → t < T → p < pages_of_each T st → k < slot_count → slot st (store_place (pages_of_each T st) t p) k ≡ lock_bit
        → (open_call T ceilings fs st d).answer ≡ refused 16
    at_open T ceilings fs st d t p k fit ht hp hk e =
        let l = lengths-of _ _ T fs st (and_left (lengths_fit (frames_in fs) (pages_of_each T st) T fs st) _ fit) in
        open-refused T ceilings fs st d fit (alone-unsound st (pages_of_each T st) T t p k (few _ l.pages) ht hp hk e)

    at_load : (s : State) (h : Handle) (k j : ℕ) → first_broken (fix_entry_rules s h k) ≡ 0 → is_number (word_of s h k) ≡ true → j < slot_count
        → slot s.store (store_place s.pool.pages h.store.0 (word_of s h k)) j ≡ lock_bit → (fix_call s h k).answer ≡ refused 14
    at_load s h k j b t hj e = fix-refused s h k b t (alone-unloadable s h.store.0 (word_of s h k) j (few _ (slot-parts s h k _ b).0.kept.sized.pages) hj e)

    at-rule2 : (s : State) (f k : ℕ) → FitNow s → occupied s.pool f ≡ true → k < slot_count → slot s.frames f k ≡ lock_bit → (c : Call) → (row c).anew ≡ false → ((row c).out s).answer ≡ refused 2
    at-rule2 s f k fit o hk e =
        let l = lengths-of _ _ _ _ _ (and_left (lengths_fit s.pool.count s.pool.pages s.pool.stores s.frames s.store) _ fit) in
        disagreeing s fit (alone-disagrees s f k (few _ l.pages) o hk e)
