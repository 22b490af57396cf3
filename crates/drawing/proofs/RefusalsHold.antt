-- No refusal but these meets a record that is run on the pool that it was drawn on. Assumes nothing.
use Rattle.std.specs.Prelude.{ℕ, ◌-◌, ◌<◌, ◌≤◌, ◌≡◌, ◌≢◌, Bool, true, false, length}
use Rattle.std.proofs.Math.Path.{refl}
use Rattle.std.proofs.Common.{sym, ◌∙◌, subst, arith}
use mathlib.Core.List.{List, [], ◌∷◌, ◌++◌}
use borrow.Author.Tests.{lt-ltb, le-leb}
use Rattle.page.specs.declared.PageNumber.{PageNumber}
use Rattle.page.specs.Figures.{slot_count, payload_size}
use Rattle.page.specs.Word.{is_number, frame_in}
use Rattle.page.specs.Page.{bytes_from}
use Rattle.machine.specs.declared.Handle.{Handle}
use Rattle.rules.specs.Tests.{pick, ◌and◌, ◌or◌, Rule, first_broken}
use Rattle.rules.specs.TestLaws.{and-true, or_off, both, pick-either, first-kept, case, on, off, clash}
use Rattle.machine.specs.Machine.{State}
use Rattle.machine.specs.Answers.{Out}
use Rattle.machine.specs.Rules.{range_fits, word_of, rule3, rule4, rule5, rule6, rule6-link, rule7, rule8, rule9, rule10, rule11, rule13, rule14, rule15, rule26, rule27, rule28}
use Rattle.machine.specs.Calls.{decide, pool_rules, store_rules, handle_rules, word_rules, edit_rules, page_rules, root_rules, fix_entry_rules, fix_rules, write_rules, link_rules, unlink_rules, stay_rules, evict_rules, root_call, fix_call, unfix_call, write_call, link_call, unlink_call, evict_call, settle_call, find_call}
use Rattle.machine.specs.History.{Call, accepted, row}
use Rattle.machine.proofs.Laws.Ready.{rules-kept}
use Rattle.machine.proofs.Laws.Outcomes.{kept, broken, outcome, no-refusal, one-refusal, found-accepted, fix-accepted}
use Rattle.recording.specs.Listing.{call_of, rule17, record_out, call_in, data_in}
use Rattle.recording.proofs.ListingLaws.{record-runs}
use Rattle.generator.specs.declared.Generator.{Generator}
use Rattle.drawing.specs.Drawing.{drawn_out, InRanges}
use Rattle.drawing.specs.Refusals.{can_meet, MeetsThese}
use Rattle.drawing.proofs.Ranges.{in-ranges}

-- ---- each rule of a list has such a number, or is kept

unfoldable meet : List Rule → Bool
meet [] = true
meet (r ∷ rs) = (can_meet r.0 or r.1) and meet rs

meet-first : (rs : List Rule) → meet rs ≡ true → first_broken rs ≢ 0 → can_meet (first_broken rs) ≡ true
unfolding meet first_broken pick
meet-first [] t z = absurd (z refl)
meet-first ((m, true) ∷ rs) t z = meet-first rs (and-true (can_meet m or true) (meet rs) t).1 z
meet-first ((m, false) ∷ rs) t z = elim (case (can_meet m)) [
  | on y ↦ y
  | off y ↦ absurd (clash (sym (and-true (can_meet m or false) (meet rs) t).0 ∙ or_off y refl))
]

meet-both : (xs ys : List Rule) → meet xs ≡ true → meet ys ≡ true → meet (xs ++ ys) ≡ true
unfolding meet
meet-both [] ys h k = k
meet-both (x ∷ xs) ys h k = let a = and-true (can_meet x.0 or x.1) (meet xs) h in both _ _ a.0 (meet-both xs ys a.1 k)

meets-these : (s : State) (rules : List Rule) (a : Out) → accepted a.answer ≡ true → meet rules ≡ true → MeetsThese (decide s rules a).answer
meets-these s rules a t m n e = elim (outcome s rules rules a refl) [
  | kept k q ↦ absurd (no-refusal a _ n q t e)
  | broken j z k q ↦ subst (λ (i : ℕ). can_meet i ≡ true) (k ∙ one-refusal s _ j n q e) (meet-first rules m (λ y. z (sym k ∙ y)))
]

-- ---- the calls of a record, on a pool that keeps rules 1 and 2
module _ (s : State) (z : first_broken (pool_rules s) ≡ 0) where
  pool-meets : meet (pool_rules s) ≡ true
  unfolding meet can_meet ◌or◌ ◌and◌
  pool-meets = let a = first-kept 0 _ _ z in let b = first-kept 1 _ _ a.1 in rw (a.0, b.0) refl

  -- store 0 is one of the pool's
  of-first : 0 < s.pool.stores
  of-first = (rules-kept s z).stores.some

  store-meets : (t : ℕ) → t < s.pool.stores → meet (store_rules s t) ≡ true
  unfolding meet can_meet ◌or◌ ◌and◌
  store-meets t i = meet-both (pool_rules s) (rule28 s t ∷ []) pool-meets (rw (lt-ltb t s.pool.stores i) refl)

  handle-meets : (h : Handle) → h.store.0 < s.pool.stores → meet (handle_rules s h) ≡ true
  unfolding meet can_meet ◌or◌ ◌and◌
  handle-meets h i = meet-both (store_rules s h.store.0) (rule3 s h ∷ []) (store-meets h.store.0 i) refl

  slot-meets : (h : Handle) (k : ℕ) → h.store.0 < s.pool.stores → k < slot_count → meet (word_rules s h k) ≡ true
  unfolding meet can_meet ◌or◌ ◌and◌
  slot-meets h k i l = meet-both (handle_rules s h) (rule4 k ∷ []) (handle-meets h i) (rw (lt-ltb k slot_count l) refl)

  edit-meets : (h : Handle) (k : ℕ) → h.store.0 < s.pool.stores → k < slot_count → meet (edit_rules s h k) ≡ true
  unfolding meet can_meet ◌or◌ ◌and◌
  edit-meets h k i l = meet-both (word_rules s h k) (rule26 s h ∷ []) (slot-meets h k i l) refl

  page-meets : (t : ℕ) (q : PageNumber) → t < s.pool.stores → meet (page_rules s t q) ≡ true
  unfolding meet can_meet ◌or◌ ◌and◌
  page-meets t q i = meet-both (store_rules s t) (rule6 s q.0 ∷ []) (store-meets t i) refl

  root-meets : (t : ℕ) → t < s.pool.stores → MeetsThese (root_call s t).answer
  unfolding root_call meet can_meet ◌or◌ ◌and◌
  root-meets t i = meets-these s (root_rules s t) _ refl (meet-both (store_rules s t) (rule13 s t ∷ []) (store-meets t i) refl)

  fix-meets : (h : Handle) (k : ℕ) → h.store.0 < s.pool.stores → k < slot_count → MeetsThese (fix_call s h k).answer
  unfolding fix_call meet can_meet ◌or◌ ◌and◌
  fix-meets h k i l =
      let t = h.store.0 in
      let w = word_of s h k in
      meets-these s (fix_rules s h k) _ (fix-accepted s h k)
      (meet-both (fix_entry_rules s h k) (pick (is_number w) (rule14 s t w ∷ rule15 s t ∷ rule27 s t ∷ []) (rule13 s (frame_in w) ∷ [])) (meet-both (word_rules s h k) (rule7 w ∷ []) (slot-meets h k i l) refl) (pick-either (λ (rs : List Rule). meet rs ≡ true) (is_number w) _ _ refl refl))

  unfix-meets : (h : Handle) → h.store.0 < s.pool.stores → MeetsThese (unfix_call s h).answer
  unfolding unfix_call
  unfix-meets h i = meets-these s (handle_rules s h) _ refl (handle-meets h i)

  write_meets : (h : Handle) (offset : ℕ) (d : List ℕ) → h.store.0 < s.pool.stores → offset ≤ payload_size → length d ≡ 0 → MeetsThese (write_call s h offset d).answer
  unfolding write_call meet can_meet range_fits ◌or◌ ◌and◌
  write_meets h offset d i l e = meets-these s (write_rules s h offset (length d)) _ refl (meet-both (handle_rules s h) (rule5 offset (length d) ∷ rule26 s h ∷ []) (handle-meets h i) (rw (e, le-leb offset payload_size l, le-leb 0 (payload_size - offset) (omega arith)) refl))

  link-meets : (h : Handle) (k : ℕ) (q : PageNumber) (locked : Bool) → h.store.0 < s.pool.stores → k < slot_count → MeetsThese (link_call s h k q locked).answer
  unfolding link_call meet can_meet ◌or◌ ◌and◌
  link-meets h k q locked i l = meets-these s (link_rules s h k q) _ refl (meet-both (edit_rules s h k) (rule6-link s q.0 ∷ rule9 s h.store.0 q.0 ∷ rule8 (word_of s h k) ∷ []) (edit-meets h k i l) refl)

  unlink-meets : (h : Handle) (k : ℕ) → h.store.0 < s.pool.stores → k < slot_count → MeetsThese (unlink_call s h k).answer
  unfolding unlink_call meet can_meet ◌or◌ ◌and◌
  unlink-meets h k i l = meets-these s (unlink_rules s h k) _ refl (meet-both (edit_rules s h k) (rule7 (word_of s h k) ∷ rule10 (word_of s h k) ∷ []) (edit-meets h k i l) refl)

  evict-meets : (t : ℕ) (q : PageNumber) → t < s.pool.stores → MeetsThese (evict_call s t q).answer
  unfolding evict_call meet can_meet ◌or◌ ◌and◌
  evict-meets t q i = meets-these s (evict_rules s t q) _ refl (meet-both (page_rules s t q) (rule11 s t q.0 ∷ stay_rules s t q.0) (page-meets t q i) refl)

  settle-meets : MeetsThese (settle_call s).answer
  unfolding settle_call
  settle-meets = meets-these s (pool_rules s) _ refl pool-meets

  find-meets : (t : ℕ) (q : PageNumber) → t < s.pool.stores → MeetsThese (find_call s t q).answer
  unfolding find_call
  find-meets t q i = meets-these s (page_rules s t q) _ (found-accepted s t q.0) (page-meets t q i)

  -- a record in its ranges
  module _ (b : List ℕ) (r : InRanges s b) where
    either : (t : Bool) (c d : Call) → MeetsThese ((row c).out s).answer → MeetsThese ((row d).out s).answer → MeetsThese ((row (pick t c d)).out s).answer
    either = pick-either (λ (c : Call). MeetsThese ((row c).out s).answer)

    no-data : length (data_in b) ≡ 0
    unfolding bytes_from
    no-data = rw r.empty refl

    call-meets : MeetsThese ((row (call_of b)).out s).answer
    unfolding call_of
    call-meets =
        let i = of-first in
        either _ _ _ (root-meets 0 i) (either _ _ _ (fix-meets _ _ i r.slot) (either _ _ _ (unfix-meets _ i) (either _ _ _ (write_meets _ _ _ i r.offset no-data)
        (either _ _ _ (link-meets _ _ _ _ i r.slot) (either _ _ _ (unlink-meets _ _ i r.slot) (either _ _ _ (evict-meets 0 _ i) (either _ _ _ settle-meets (find-meets 0 _ i))))))))

    is_call : (rule17 b).1 ≡ true
    unfolding ◌and◌
    is_call = rw (le-leb 1 (call_in b) r.call.0, le-leb (call_in b) 9 r.call.1, r.empty) refl

    -- it is run as its call
    pub record-called : (row (call_of b)).out s ≡ record_out s b
    record-called = record-runs s b (call_of b) is_call refl

    record-meets : MeetsThese (record_out s b).answer
    record-meets = subst (λ (o : Out). MeetsThese o.answer) record-called call-meets

  -- where it is drawn, and run on the same pool
  pub drawn-meets : (g : Generator) → MeetsThese (record_out s (drawn_out s g).entry).answer
  drawn-meets g = record-meets (drawn_out s g).entry (in-ranges s g z)
