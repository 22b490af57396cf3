-- The cases of each call where the invariant holds: accepted, with what its rules say, or refused by a rule but 1, 2 and 14; and those of open, over any buffers, which 1 may refuse. Assumes nothing.
use Rattle.std.specs.Prelude.{ℕ, ◌+◌, ◌-◌, ◌<◌, ◌≤◌, ◌≡◌, ◌≢◌, Bool, true, false, not, eqb, ltb, leb, length}
use Rattle.std.proofs.Math.Path.{refl}
use Rattle.std.proofs.Common.{◌∙◌, arith}
use mathlib.Core.List.{List, [], ◌∷◌}
use borrow.Author.Tests.{eqb-true, eqb-false, ltb-true, leb-true, not-true}
use Rattle.page.specs.declared.PageNumber.{PageNumber}
use Rattle.page.specs.Figures.{slot_count, payload_size, max_pins}
use Rattle.page.specs.Word.{marked, number_word, Number, number-yes}
use Rattle.page.specs.Page.{name}
use Rattle.page.specs.StorePlaces.{store_place}
use Rattle.machine.specs.declared.Handle.{Handle}
use Rattle.rules.specs.Tests.{◌and◌, Rule, first_broken}
use Rattle.rules.specs.TestLaws.{and-true, first-kept}
use Rattle.machine.specs.Machine.{State, state, zero_pool, page_in, found_in, unpinned}
use Rattle.machine.specs.Moves.{plain, settled, evicted}
use Rattle.machine.specs.Naming.{named}
use Rattle.machine.specs.Soundness.{sound}
use Rattle.machine.specs.Rules.{lengths_fit, stores_fit, handle_fits, range_fits, word_of, mark_of, locked, frames_in, pages_of_each, rule1, rule1-open, rule2, rule3, rule4, rule5, rule6, rule6-link, rule7, rule8, rule9, rule10, rule11, rule13, rule26, rule28}
use Rattle.machine.specs.Answers.{refused, done, number, Out, out}
use Rattle.machine.specs.Calls.{decide, change_record, open_rules, opened, open_call, pinned_out, root_call, unfix_call, payload_place, peek_call, word_call, written, write_call, relinked, link_call, unlink_call, stay_rules, evict_call, settle_call, found_answer, find_call}
use Rattle.machine.proofs.Theorem.View.{view}
use Rattle.machine.specs.History.{Point}
use Rattle.machine.specs.Demand3.{at}
use Rattle.machine.proofs.Theorem.Invariant.{Invariant}
use Rattle.machine.proofs.Laws.RuleLaws.{not-locked}
use Rattle.machine.proofs.Laws.Outcomes.{Outcome, kept, broken, outcome, usual, Cases, cases, lacks, lacking}
use Rattle.machine.proofs.Theorem.Holders.{Holder, holder-found}
use Rattle.machine.proofs.Theorem.TestReads.{Handled, handled, Open, open_kept}
use Rattle.machine.proofs.Theorem.InvariantReads.{unbroken, unnamed}

-- ---- what the rules of a call say where none is broken

-- a slot of a handle's page
pub record AtSlot (s : State) (h : Handle) (k : ℕ) : Type 0 where
  pub handle : Handled s h
  pub store : h.store.0 < s.pool.stores
  pub in_page : k < slot_count

-- a slot of a handle's page that names a page
pub record AtName (s : State) (h : Handle) (k : ℕ) : Type 0 where
  pub handle : Handled s h
  pub store : h.store.0 < s.pool.stores
  pub in_page : k < slot_count
  pub filled : word_of s h k ≢ 0

-- a page that isn't locked
pub record MayWrite (s : State) (h : Handle) (offset n : ℕ) : Type 0 where
  pub handle : Handled s h
  pub free : locked s h.frame.0 ≡ false
  pub fits : offset + n ≤ payload_size

pub record MayLink (x : Point) (h : Handle) (k q : ℕ) : Type 0 where
  pub handle : Handled x.now h
  pub store : h.store.0 < x.now.pool.stores
  pub free : locked x.now h.frame.0 ≡ false
  pub in_page : k < slot_count
  pub vacant : word_of x.now h k ≡ 0
  pub some : q ≢ 0
  pub below : q < x.now.pool.pages
  pub fresh : (p j : ℕ) → p < x.now.pool.pages → j < slot_count → name x.map (at x h.store.0 p) j ≢ q

pub record MayUnlink (s : State) (h : Handle) (k : ℕ) : Type 0 where
  pub handle : Handled s h
  pub free : locked s h.frame.0 ≡ false
  pub in_page : k < slot_count
  pub number : Number (word_of s h k)

pub record MayEvict (s : State) (t q : ℕ) : Type 0 where
  pub holder : Holder (view s) (store_place s.pool.pages t q) (found_in s.pool t q)
  pub isopen : Open s (found_in s.pool t q)

-- a page of a store
pub record OfStore (s : State) (t q : ℕ) : Type 0 where
  pub store : t < s.pool.stores
  pub below : q < s.pool.pages

range-fits : (offset n : ℕ) → range_fits offset n ≡ true → offset + n ≤ payload_size
unfolding range_fits
range-fits offset n t =
    let a = and-true (leb offset payload_size) _ t in
    let l : offset ≤ payload_size = leb-true offset payload_size a.0 in
    let m : n ≤ payload_size - offset = leb-true n (payload_size - offset) a.1 in
    omega arith

module _ (s : State) where
  -- 28; 28 and 3
  store-rules : (t : ℕ) (rs : List Rule) → first_broken (rule28 s t ∷ rs) ≡ 0 → (t < s.pool.stores) × (first_broken rs ≡ 0)
  store-rules t rs e = let a = first-kept 27 (ltb t s.pool.stores) rs e in (ltb-true _ _ a.0, a.1)

  handle-rules : (h : Handle) (rs : List Rule) → first_broken (rule28 s h.store.0 ∷ rule3 s h ∷ rs) ≡ 0 → (h.store.0 < s.pool.stores) × Handled s h × (first_broken rs ≡ 0)
  handle-rules h rs e =
      let a = store-rules h.store.0 (rule3 s h ∷ rs) e in
      let b = first-kept 2 (handle_fits s.pool h) rs a.1 in
      (a.0, handled s h b.0, b.1)

  slot-rules : (h : Handle) (k : ℕ) (rs : List Rule) → first_broken (rule28 s h.store.0 ∷ rule3 s h ∷ rule4 k ∷ rs) ≡ 0 → AtSlot s h k × (first_broken rs ≡ 0)
  slot-rules h k rs e =
      let a = handle-rules h (rule4 k ∷ rs) e in
      let b = first-kept 3 (ltb k slot_count) rs a.2 in
      (record { handle = a.1; store = a.0; in_page = ltb-true k slot_count b.0 }, b.1)

  edit-rules : (h : Handle) (k : ℕ) (rs : List Rule) → first_broken (rule28 s h.store.0 ∷ rule3 s h ∷ rule4 k ∷ rule26 s h ∷ rs) ≡ 0 → AtSlot s h k × (locked s h.frame.0 ≡ false) × (first_broken rs ≡ 0)
  edit-rules h k rs e =
      let a = slot-rules h k (rule26 s h ∷ rs) e in
      let b = not-locked s h rs a.1 in
      (a.0, b.0, b.1)

  pub name-rules : (h : Handle) (k : ℕ) (rs : List Rule) → first_broken (rule28 s h.store.0 ∷ rule3 s h ∷ rule4 k ∷ rule7 (word_of s h k) ∷ rs) ≡ 0 → AtName s h k × (first_broken rs ≡ 0)
  name-rules h k rs e =
      let a = slot-rules h k (rule7 (word_of s h k) ∷ rs) e in
      let b = first-kept 6 (not (eqb (word_of s h k) 0)) rs a.1 in
      (record { handle = a.0.handle; store = a.0.store; in_page = a.0.in_page; filled = eqb-false _ 0 (not-true _ b.0) }, b.1)

  page-rules : (t q : ℕ) (rs : List Rule) → first_broken (rule28 s t ∷ rule6 s q ∷ rs) ≡ 0 → OfStore s t q × (first_broken rs ≡ 0)
  page-rules t q rs e =
      let a = store-rules t (rule6 s q ∷ rs) e in
      let b = first-kept 5 (ltb q s.pool.pages) rs a.1 in
      (record { store = a.0; below = ltb-true _ _ b.0 }, b.1)

module _ (x : Point) (I : Invariant x) where
  -- rules 1 and 2 are kept, so those after them decide
  pub after-pool : (rs : List Rule) (a : Out) → Outcome x.now rs a (decide x.now (rule1 x.now ∷ rule2 x.now ∷ rs) a)
  after-pool rs a = outcome x.now (rule1 x.now ∷ rule2 x.now ∷ rs) rs a (unbroken x I rs)

  by-rules : (rs : List Rule) (Facts : Type 0) (a : Out) → usual rs ≡ true → (first_broken rs ≡ 0 → Facts)
      → Cases x.now Facts a (decide x.now (rule1 x.now ∷ rule2 x.now ∷ rs) a)
  by-rules rs Facts a t facts = cases x.now rs Facts a _ t facts (after-pool rs a)

  -- ---- root, unfix, show, word, write
  pub root-case : (t : ℕ) → Cases x.now ((t < x.now.pool.stores) × ((view x.now).pins t ≢ max_pins)) (pinned_out x.now t) (root_call x.now t)
  unfolding root_call usual lacks ◌and◌
  root-case t = by-rules (rule28 x.now t ∷ rule13 x.now t ∷ []) _ _ refl (λ e.
      let a = store-rules x.now t (rule13 x.now t ∷ []) e in
      (a.0, eqb-false _ max_pins (not-true _ (first-kept 12 _ [] a.1).0)))

  -- show is this one, with the answer that it names
  pub handle-case : (h : Handle) (a : Out) → Cases x.now (Handled x.now h) a (decide x.now (rule1 x.now ∷ rule2 x.now ∷ rule28 x.now h.store.0 ∷ rule3 x.now h ∷ []) a)
  unfolding usual lacks ◌and◌
  handle-case h a = by-rules (rule28 x.now h.store.0 ∷ rule3 x.now h ∷ []) _ a refl (λ e. (handle-rules x.now h [] e).1)

  pub unfix-case : (h : Handle) → Cases x.now (Handled x.now h) (out done (change_record x.now h.frame.0 unpinned)) (unfix_call x.now h)
  unfolding unfix_call
  unfix-case h = handle-case h _

  pub word-case : (h : Handle) (k : ℕ) → Cases x.now (AtSlot x.now h k) (out (number (plain (page_in x.now.pool.records) (word_of x.now h k)) (mark_of x.now h k)) x.now) (word_call x.now h k)
  unfolding word_call usual lacks ◌and◌
  word-case h k = by-rules (rule28 x.now h.store.0 ∷ rule3 x.now h ∷ rule4 k ∷ []) _ _ refl (λ e. (slot-rules x.now h k [] e).0)

  pub write-case : (h : Handle) (offset : ℕ) (d : List ℕ) → Cases x.now (MayWrite x.now h offset (length d)) (out done (written x.now h.frame.0 offset d)) (write_call x.now h offset d)
  unfolding write_call usual lacks ◌and◌
  write-case h offset d = by-rules (rule28 x.now h.store.0 ∷ rule3 x.now h ∷ rule5 offset (length d) ∷ rule26 x.now h ∷ []) _ _ refl (λ e.
      let a = handle-rules x.now h (rule5 offset (length d) ∷ rule26 x.now h ∷ []) e in
      let b = first-kept 4 (range_fits offset (length d)) (rule26 x.now h ∷ []) a.2 in
      record { handle = a.1; free = (not-locked x.now h [] b.1).0; fits = range-fits offset (length d) b.0 })

  -- ---- peek, find
  page-case : (t p : ℕ) (a : Out) → Cases x.now (OfStore x.now t p) a (decide x.now (rule1 x.now ∷ rule2 x.now ∷ rule28 x.now t ∷ rule6 x.now p ∷ []) a)
  unfolding usual lacks ◌and◌
  page-case t p a = by-rules (rule28 x.now t ∷ rule6 x.now p ∷ []) _ a refl (λ e. (page-rules x.now t p [] e).0)

  pub peek-case : (t : ℕ) (q : PageNumber) → Cases x.now (OfStore x.now t q.0) (out (payload_place x.now t q.0) x.now) (peek_call x.now t q)
  unfolding peek_call
  peek-case t q = page-case t q.0 _

  pub find-case : (t : ℕ) (q : PageNumber) → Cases x.now (OfStore x.now t q.0) (out (found_answer x.now t q.0) x.now) (find_call x.now t q)
  unfolding find_call
  find-case t q = page-case t q.0 _

  -- ---- link, unlink, evict, settle
  pub link-case : (h : Handle) (k : ℕ) (q : PageNumber) (l : Bool) → Cases x.now (MayLink x h k q.0) (out done (relinked x.now h.frame.0 k (marked l (number_word q.0)))) (link_call x.now h k q l)
  unfolding link_call usual lacks ◌and◌
  link-case h k q l =
      let t = h.store.0 in
      by-rules (rule28 x.now t ∷ rule3 x.now h ∷ rule4 k ∷ rule26 x.now h ∷ rule6-link x.now q.0 ∷ rule9 x.now t q.0 ∷ rule8 (word_of x.now h k) ∷ []) _ _ refl (λ e.
      let a = edit-rules x.now h k (rule6-link x.now q.0 ∷ rule9 x.now t q.0 ∷ rule8 (word_of x.now h k) ∷ []) e in
      let b = first-kept 5 _ (rule9 x.now t q.0 ∷ rule8 (word_of x.now h k) ∷ []) a.2 in
      let n = and-true (ltb 0 q.0) (ltb q.0 x.now.pool.pages) b.0 in
      let c = first-kept 8 (not (named x.now t q.0)) (rule8 (word_of x.now h k) ∷ []) b.1 in
      let d = first-kept 7 (eqb (word_of x.now h k) 0) [] c.1 in
      record {
        handle = a.0.handle;
        store = a.0.store;
        free = a.1;
        in_page = a.0.in_page;
        vacant = eqb-true _ 0 d.0;
        some = λ z. omega (arith, ltb-true 0 q.0 n.0);
        below = ltb-true _ _ n.1;
        fresh = unnamed x I t q.0 a.0.store c.0;
      })

  pub unlink-case : (h : Handle) (k : ℕ) → Cases x.now (MayUnlink x.now h k) (out done (relinked x.now h.frame.0 k 0)) (unlink_call x.now h k)
  unfolding unlink_call usual lacks ◌and◌
  unlink-case h k = by-rules (rule28 x.now h.store.0 ∷ rule3 x.now h ∷ rule4 k ∷ rule26 x.now h ∷ rule7 (word_of x.now h k) ∷ rule10 (word_of x.now h k) ∷ []) _ _ refl (λ e.
      let a = edit-rules x.now h k (rule7 (word_of x.now h k) ∷ rule10 (word_of x.now h k) ∷ []) e in
      let b = first-kept 6 _ (rule10 (word_of x.now h k) ∷ []) a.2 in
      record { handle = a.0.handle; free = a.1; in_page = a.0.in_page; number = number-yes _ (first-kept 9 _ [] b.1).0 })

  pub evict-case : (t : ℕ) (q : PageNumber) → Cases x.now (MayEvict x.now t q.0) (out done (evicted x.now (found_in x.now.pool t q.0))) (evict_call x.now t q)
  unfolding evict_call usual lacks ◌and◌
  evict-case t q =
      let last : List Rule = stay_rules x.now t q.0 in
      by-rules (rule28 x.now t ∷ rule6 x.now q.0 ∷ rule11 x.now t q.0 ∷ last) _ _ refl (λ e.
      let a = page-rules x.now t q.0 (rule11 x.now t q.0 ∷ last) e in
      let b = first-kept 10 (ltb (found_in x.now.pool t q.0) x.now.pool.count) last a.1 in
      record { holder = holder-found x.now _ b.0; isopen = open_kept x.now t q.0 b.1 })

  pub settle-case : Cases x.now (Unit {0}) (out done (settled x.now)) (settle_call x.now)
  unfolding settle_call usual lacks ◌and◌
  settle-case = by-rules [] _ _ refl (λ e. tt)

-- ---- open

-- what its rules say: the figures and the lengths fit, and every store is sound
pub record MayOpen (T : ℕ) (ceilings fs st : List ℕ) : Type 0 where
  pub lengths : lengths_fit (frames_in fs) (pages_of_each T st) T fs st ≡ true
  pub stores : stores_fit (frames_in fs) T ceilings ≡ true
  pub issound : sound st (pages_of_each T st) T ≡ true

pub data OpenCase (T : ℕ) (ceilings fs st d : List ℕ) (o : Out) : Type 0 where
  opens : MayOpen T ceilings fs st → o ≡ out done (opened T ceilings fs st) → OpenCase T ceilings fs st d o
  declines : (n : ℕ) → n ≢ 2 → n ≢ 14 → o ≡ out (refused n) (state zero_pool fs st d) → OpenCase T ceilings fs st d o

pub open-case : (T : ℕ) (ceilings fs st d : List ℕ) → OpenCase T ceilings fs st d (open_call T ceilings fs st d)
unfolding open_call lacks ◌and◌
open-case T ceilings fs st d = elim (outcome (state zero_pool fs st d) (open_rules T ceilings fs st d) (open_rules T ceilings fs st d) (out done (opened T ceilings fs st)) refl) [
  | kept b q ↦
      let a = first-kept 0 (rule1-open T ceilings fs st d).1 _ b in
      let l = and-true (lengths_fit (frames_in fs) (pages_of_each T st) T fs st) _ a.0 in
      let c = and-true (stores_fit (frames_in fs) T ceilings) _ l.1 in
      opens (record { lengths = l.0; stores = c.0; issound = (first-kept 15 (sound st (pages_of_each T st) T) [] a.1).0 }) q
  | broken n z b q ↦ declines n (λ e. lacking 2 (open_rules T ceilings fs st d) refl (omega arith) (b ∙ e)) (λ e. lacking 14 (open_rules T ceilings fs st d) refl (omega arith) (b ∙ e)) q
]
