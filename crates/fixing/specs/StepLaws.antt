-- How the steps of root and fix make up the two calls. Assumes nothing.
use Rattle.std.specs.Prelude.{ℕ, ◌+◌, ◌%◌, ◌≤◌, ◌<◌, ◌≡◌, ◌≢◌, refl, Bool, true, false, not, List, [], ◌∷◌, ◌++◌, ltb, leb, length, get_or, set, Some, None, is_some}
use Rattle.std.proofs.Common.{sym, ap, subst, ◌∙◌, arith, eq-eqb, ne_eqb, lt-ltb, le-ltb}
use Rattle.std.proofs.Math.Seq.{set-set}
use Rattle.page.specs.declared.FrameIndex.{FrameIndex}
use Rattle.page.specs.Figures.{slot_count, most_frames, max_pins}
use Rattle.page.specs.Word.{is_number, frame_in, Number, Swizzled, number-yes, number-no}
use Rattle.machine.specs.declared.FrameRecord.{FrameRecord}
use Rattle.machine.specs.declared.Pool.{Pool}
use Rattle.machine.specs.declared.Handle.{Handle}
use Rattle.rules.specs.declared.refusal.Refusal.{Refusal}
use Rattle.rules.specs.RefusalNumbers.{number_of, not-accepted}
use Rattle.rules.specs.Tests.{pick, ◌and◌, ◌or◌, Rule, first_broken, verdict}
use Rattle.rules.specs.TestLaws.{clash, case, on, off, both, and_yes, and_no, or_left, or_right, or_off, pick_yes, pick_no, kept_then, broken-here, none-broken}
use Rattle.machine.specs.Machine.{State, state, with_pool, record_at, page_in, store_in, with_records, with_record, with_usage, pinned, ceiling_of, at_ceiling}
use Rattle.machine.specs.Answers.{refused, handle, Out, out}
use Rattle.chains.specs.Chain.{directory_size}
use Rattle.machine.specs.Sweep.{Swept, childless, first_empty, kind_for, sweep, with_swept}
use Rattle.machine.specs.Moves.{vacate, evicted, loaded}
use Rattle.machine.specs.Naming.{loadable}
use Rattle.machine.specs.Rules.{word_of, rule7, rule13, rule14, rule15, rule27}
use Rattle.machine.specs.Calls.{decide, store_rules, word_rules, loaded_out, swept_out, miss_out, root_call, fix_call}
use Rattle.machine.proofs.Laws.Ready.{Kept, Ready, Sized, ready}
use Rattle.machine.proofs.Laws.RuleLaws.{SlotKept, held-occupied, store_kept, decide-no, decide-yes, store-stops, store-passes, slot-stops, slot-passes}
use Rattle.machine.proofs.Laws.SweepLaws.{loose-of, sweep_sound, swept-ready}
use Rattle.machine.proofs.Laws.Standings.{open-childless}
use Rattle.machine.proofs.Laws.MoveLaws.{evicted-sized}
use Rattle.chains.proofs.ChainLaws.{taken-length}
use Rattle.seen.specs.Seen.{Seen}
use Rattle.residents.specs.Residents.{held_by}
use Rattle.residents.specs.ResidentLaws.{held_by_lem}
use Rattle.residents.specs.Handed.{Handed}
use Rattle.naming.specs.NamedByTables.{loadable_by, loadable-by}
use Rattle.scan.specs.declared.Walk.{Walk}
use Rattle.scan.specs.FoundByTable.{empty_by, empty-by}
use Rattle.scan.specs.Walk.{cooled_to, swept_as, Sees, Walked, Few, cools-none, cools-next, same_end, same-sweep}
use Rattle.moves.specs.InAndOut.{Followed, Removable, TakenOut, Fitting, removable, is-evicted, fitting}
use Rattle.fixing.specs.FixSteps.{Cooling, pin_decided, miss_decided, swept_decided}

-- ---- rules

-- another list of rules with the same first broken one
by-rules : (s : State) (xs ys : List Rule) (accepted : Out) {x : Out} → first_broken xs ≡ first_broken ys → x ≡ decide s xs accepted → x ≡ decide s ys accepted
unfolding decide
by-rules s xs ys accepted e h = h ∙ ap (λ (n : ℕ). verdict n (λ k. out (refused k) s) accepted) e

one_kept : (n : ℕ) {t : Bool} → t ≡ true → 0 ≡ first_broken ((n, t) ∷ [])
one_kept n h = sym (kept_then n [] h ∙ none-broken)

one-broken : (n : ℕ) {t : Bool} → t ≡ false → n ≡ first_broken ((n, t) ∷ [])
one-broken n h = sym (broken-here n [] h)

-- ---- a resident page

module _ (s : State) (f : ℕ) where
  pub pin-denied : (record_at s.pool.records f).pins ≡ max_pins → out (refused 13) s ≡ pin_decided s f
  unfolding pin_decided
  pin-denied h = decide-no s _ _ (one-broken 13 (ap not (eq-eqb _ max_pins h))) (λ z. omega arith)

  pub pin-given : {q : FrameRecord} → (record_at s.pool.records f).pins ≢ max_pins → q ≡ pinned (record_at s.pool.records f)
      → out (handle f (store_in s.pool.records f) (page_in s.pool.records f) 0) (with_pool s (with_record s.pool f q)) ≡ pin_decided s f
  unfolding pin_decided
  pin-given h i = rw i (decide-yes s _ (one_kept 13 (ap not (ne_eqb _ max_pins h))) refl refl)

-- ---- a sweep over what it sees of the frames

pub cooling-none : (p : Pool) (vs : List ℕ) → Cooling p p vs 0
cooling-none p vs = record { rest = refl; cools = cools-none p.records vs }

pub cooling-next : {p m : Pool} {vs : List ℕ} {n u : ℕ} → Cooling p m vs n → u ≡ get_or vs n 0 % 4 → Cooling p (with_record m n (with_usage (record_at m.records n) u)) vs (n + 1)
unfolding cooled_to
cooling-next {m = m} {n = n} {u = u} c e =
    record { rest = ap (λ (x : Pool). with_records x (set m.records n (with_usage (record_at m.records n) u))) c.rest; cools = cools-next c.cools (rw e refl) }

pub records-few : (s : State) → Ready s → Few s.pool.records s.pool.count
records-few s R g l = (R.in_range g l).usage

-- a walk's end with frame v taken, and the records that it leaves
abbrev taken_as : Walk → FrameIndex → List FrameRecord → Swept
taken_as r v ts = record { taken = true; frame = v; looks = r.looks; records = ts; hand = r.hand }

-- the sweep for store t ended as r with frame v taken, and m is the pool with the records that it leaves
pub record Took (s : State) (t : ℕ) (r : Walk) (v : FrameIndex) (m : Pool) : Type 0 where
  pub ready : Ready s
  pub chains : Followed s.directory
  pub rest : m ≡ with_records s.pool m.records
  pub swept : taken_as r v m.records ≡ sweep s.pool s.frames t

module _ (s : State) (t : ℕ) (R : Ready s) {us vs : List ℕ} {r : Walk} (S : Sees (kind_for s.pool s.frames t) s.pool.records us s.pool.count) (W : Walked s.pool.count s.pool.hand.0 us vs r) where
  none-taken : r.frame ≡ None → (sweep s.pool s.frames t).taken ≡ false
  none-taken n = ap (λ (x : Swept). x.taken) (same_end s.pool s.frames t us vs r R.sized.most R.hand (records-few s R) S W) ∙ ap is_some n

  -- the store is below its ceiling; it is at it
  pub swept-denied : (f k q : ℕ) → r.frame ≡ None → at_ceiling s.pool t ≡ false → out (refused 15) s ≡ swept_decided s f k t q
  unfolding swept_decided
  swept-denied f k q n c = decide-no s _ _ (sym (broken-here 15 _ (or_off c (none-taken n)))) (λ z. omega arith)

  pub own-denied : (f k q : ℕ) → r.frame ≡ None → at_ceiling s.pool t ≡ true → out (refused 27) s ≡ swept_decided s f k t q
  unfolding swept_decided
  own-denied f k q n c = decide-no s _ _ (sym (kept_then 15 _ (or_left _ c) ∙ broken-here 27 [] (or_off (ap not c) (none-taken n)))) (λ z. omega arith)

  pub took : {v : FrameIndex} {m : Pool} → Followed s.directory → r.frame ≡ Some v → Cooling s.pool m vs s.pool.count → Took s t r v m
  took {v} {m} d o C =
      let e : sweep s.pool s.frames t ≡ swept_as r m.records = same-sweep s.pool s.frames t us vs r R.sized.most R.hand (records-few s R) S W m.records C.cools in
      record { ready = R; chains = d; rest = C.rest; swept = sym (rw o at e) }

-- a page is loaded over the record of another as it is over a blank one
loaded-over : (p : Pool) (fs st d : List ℕ) (f k e t q : ℕ) → loaded (state p fs st d) f k e t q ≡ loaded (state (vacate p e) fs st d) f k e t q
unfolding loaded
loaded-over p fs st d f k e t q = rw set-set

-- the page of the frame taken is taken out, and page q of store t is loaded for slot k of frame f
module _ (s : State) {t : ℕ} {r : Walk} {v : FrameIndex} {m : Pool} (T : Took s t r v m) where
  abbrev ended : Swept
  ended = taken_as r v m.records

  abbrev swept : State
  swept = with_pool s (with_swept s.pool ended)

  ready-still : Ready swept
  ready-still = subst (λ (x : Swept). Ready (with_pool s (with_swept s.pool x))) (sym T.swept) (swept-ready s t T.ready)

  victim-open : (v.0 < s.pool.count) × (childless s.frames v.0 ≡ true)
  victim-open =
      let h = sweep_sound s.pool s.frames t T.ready.hand (ap (λ (x : Swept). x.taken) (sym T.swept)) in
      let e : v ≡ (sweep s.pool s.frames t).frame = ap (λ (x : Swept). x.frame) T.swept in
      rw e (h.0, open-childless _ _ _ _ (loose-of s.pool s.frames t _ _ h.1).evictable)

  pub victim-below : v.0 < most_frames
  victim-below = let l = victim-open.0 in omega (arith, T.ready.sized.most)

  pub victim-removable : Removable m.pages (record_at m.records v.0) s.frames s.store s.directory v.0
  victim-removable = let h = victim-open in rw T.rest (removable swept v.0 ready-still T.chains h.0 h.1)

  module _ {gs ts d : List ℕ} (o : TakenOut m.pages (record_at m.records v.0) s.frames s.store s.directory v.0 gs ts d) where
    same_pages : m.pages ≡ s.pool.pages
    same_pages = ap (λ (p : Pool). p.pages) T.rest

    abbrev left : State
    left = state (vacate (with_swept s.pool ended) v.0) gs ts d

    left_is : left ≡ evicted swept v.0
    left_is = is-evicted swept v.0 refl (rw same_pages at o)

    left-length : length d ≡ directory_size
    left-length = ap length o.entry ∙ taken-length s.directory v.0 most_frames _ ∙ T.chains.size

    pub victim-fitting : {f k q : ℕ} → f < s.pool.count → k < slot_count → t < s.pool.stores → q < s.pool.pages → Fitting m.pages gs ts d f k v.0 t q
    victim-fitting {f} {k} {q} lf lk lt lq =
        rw same_pages (fitting left f k v.0 t q (subst (λ (x : State). Sized x) (sym left_is) (evicted-sized swept v.0 ready-still victim-open.0)) T.ready.stores left-length lf lk victim-open.0 lt lq)

    pub swept-given : (f k q : ℕ) {x : Out} → x ≡ loaded_out (state (with_swept m ended) gs ts d) f k v.0 t q r.looks → x ≡ swept_decided s f k t q
    unfolding swept_decided
    swept-given f k q i =
        let p : with_swept m ended ≡ with_swept s.pool ended = ap (λ (x : Pool). with_swept x ended) T.rest in
        let j = ap (λ (x : Pool). loaded_out (state x gs ts d) f k v.0 t q r.looks) p in
        let l = ap (out (handle v.0 t q r.looks)) (loaded-over (with_swept s.pool ended) gs ts d f k v.0 t q) in
        rw (← T.swept) (decide-yes s _ (one_kept 27 (or_right _ refl) ∙ sym (kept_then 15 _ (or_right _ refl))) refl (i ∙ j ∙ l ∙ rw left_is))

-- what the tables tell
module _ (s : State) (K : Kept s) {residents : List ℕ} {seen : Seen} (H : Handed s.pool s.frames residents seen) where
  pub loadable-told : (t q : ℕ) → t < s.pool.stores → {b : Bool} → b ≡ loadable_by seen s.store s.pool.pages t q → b ≡ loadable s t q
  loadable-told t q l e = e ∙ loadable-by s K H t l q

  pub ceiling-told : (t : ℕ) {b : Bool} → b ≡ leb (ceiling_of s.pool t) (held_by residents s.pool.count t) → b ≡ at_ceiling s.pool t
  unfolding at_ceiling
  ceiling-told t e = e ∙ ap (leb (ceiling_of s.pool t)) (held_by_lem s K.sized.most K.stores.some K.agreed residents H.held t)

  -- b says that the store is at its ceiling
  pub usable-told : (t : ℕ) {b : Bool} → b ≡ at_ceiling s.pool t → pick b s.pool.count (empty_by residents s.pool.count s.pool.count s.pool.hand.0) ≡ pick (at_ceiling s.pool t) s.pool.count (first_empty s.pool)
  usable-told t c = rw (c, empty-by s K H)

-- ---- an empty frame is used without a sweep, where the store is below its ceiling

-- the tests: the store is at its ceiling; a frame is empty; a sweep could take one
usable-15 : (a b c : Bool) → (not a and b) ≡ true → (a or b or c) ≡ true
unfolding ◌and◌ ◌or◌
usable-15 true b c e = refl
usable-15 false b c e = rw e

usable-27 : (a b c : Bool) → (not a and b) ≡ true → (not a or c) ≡ true
unfolding ◌and◌ ◌or◌
usable-27 true b c e = absurd (clash (sym e))
usable-27 false b c e = refl

swept-15 : (a b c : Bool) → (not a and b) ≡ false → (a or b or c) ≡ (a or c)
unfolding ◌and◌ ◌or◌
swept-15 true b c e = refl
swept-15 false b c e = rw e

module _ (s : State) (f k t q : ℕ) where
  pub miss-denied : loadable s t q ≡ false → out (refused 14) s ≡ miss_decided s f k t q
  unfolding miss_decided
  miss-denied l = decide-no s _ _ (sym (broken-here 14 _ l)) (λ z. omega arith)

  -- e is the frame to be used, or F
  module _ (l : loadable s t q ≡ true) {e : ℕ} (i : e ≡ pick (at_ceiling s.pool t) s.pool.count (first_empty s.pool)) where
    abbrev at_top : Bool
    at_top = at_ceiling s.pool t

    abbrev any_empty : Bool
    any_empty = ltb (first_empty s.pool) s.pool.count

    abbrev could_take : Bool
    could_take = (sweep s.pool s.frames t).taken

    abbrev usable : Bool
    usable = not at_top and any_empty

    usable-yes : e < s.pool.count → (usable ≡ true) × (e ≡ first_empty s.pool)
    usable-yes h = elim (case at_top) [
      | on c ↦ let full : e ≡ s.pool.count = i ∙ sym (pick_yes _ c refl) in absurd (omega arith)
      | off c ↦ let first : e ≡ first_empty s.pool = i ∙ sym (pick_no _ c refl) in (both _ _ (ap not c) (rw (← first) (lt-ltb e _ h)), first)
    ]

    usable-no : s.pool.count ≤ e → usable ≡ false
    usable-no h = elim (case at_top) [
      | on c ↦ sym (and_no _ (ap not c))
      | off c ↦ let first : e ≡ first_empty s.pool = i ∙ sym (pick_no _ c refl) in sym (and_yes (ap not c) (sym (rw (← first) (le-ltb e _ h))))
    ]

    pub miss-empty : {x : Out} → e < s.pool.count → x ≡ loaded_out s f k e t q 0 → x ≡ miss_decided s f k t q
    unfolding miss_decided miss_out
    miss-empty h j =
        let u = usable-yes h in
        decide-yes s _ (one_kept 27 (usable-27 at_top any_empty could_take u.0) ∙ sym (kept_then 15 _ (usable-15 at_top any_empty could_take u.0)) ∙ sym (kept_then 14 _ l)) refl (pick_yes (swept_out s f k t q (sweep s.pool s.frames t)) u.0 (j ∙ ap (λ (g : ℕ). loaded_out s f k g t q 0) u.1))

    pub miss-swept : {x : Out} → s.pool.count ≤ e → x ≡ swept_decided s f k t q → x ≡ miss_decided s f k t q
    unfolding miss_decided miss_out swept_decided
    miss-swept h j =
        let u = usable-no h in
        by-rules s _ _ _ (ap (λ (b : Bool). first_broken ((15, b) ∷ rule27 s t ∷ [])) (sym (swept-15 at_top any_empty could_take u)) ∙ sym (kept_then 14 _ l)) (j ∙ ap (decide s _) (pick_no _ u refl))

-- the same by the tables, of page q of store t, for slot k of frame f: x says whether it is loadable, and b whether the store is at its ceiling
module _ (s : State) (K : Kept s) {residents : List ℕ} {seen : Seen} (H : Handed s.pool s.frames residents seen) (f k t q : ℕ) (l : t < s.pool.stores) {x : Bool} (a : x ≡ loadable_by seen s.store s.pool.pages t q) where
  pub denied-told : x ≡ false → out (refused 14) s ≡ miss_decided s f k t q
  denied-told n = miss-denied s f k t q (sym (loadable-told s K H t q l a) ∙ n)

  module _ (y : x ≡ true) {b : Bool} (c : b ≡ leb (ceiling_of s.pool t) (held_by residents s.pool.count t)) where
    abbrev frame_used : ℕ
    frame_used = pick b s.pool.count (empty_by residents s.pool.count s.pool.count s.pool.hand.0)

    pub empty-told : (e : FrameIndex) {o : Out} → (e.0 < s.pool.count) × (frame_used ≡ e.0) → o ≡ loaded_out s f k e.0 t q 0 → o ≡ miss_decided s f k t q
    empty-told e h j = miss-empty s f k t q (sym (loadable-told s K H t q l a) ∙ y) (sym h.1 ∙ usable-told s K H t (ceiling-told s K H t c)) h.0 j

    pub swept-told : {o : Out} → frame_used ≡ s.pool.count → o ≡ swept_decided s f k t q → o ≡ miss_decided s f k t q
    swept-told h j = miss-swept s f k t q (sym (loadable-told s K H t q l a) ∙ y) (sym h ∙ usable-told s K H t (ceiling-told s K H t c)) (omega arith) j

-- ---- the two calls: where the shared rules refuse, and where they are kept

pub root-denied : (s : State) (t : ℕ) (r : Refusal) → number_of r ≡ first_broken (store_rules s t) → out (refused (number_of r)) s ≡ root_call s t
unfolding root_call
root-denied s t r e = decide-no s _ _ (store-stops s t (rule13 s t ∷ []) e (not-accepted r)) (not-accepted r)

module _ (s : State) (t : ℕ) (e : 0 ≡ first_broken (store_rules s t)) where
  -- the root's frame is one of the 64
  pub root_below : t < most_frames
  root_below = let k = store_kept s t (sym e) in omega (arith, k.store, k.kept.stores.most)

  pub root-given : {x : Out} → x ≡ pin_decided s t → x ≡ root_call s t
  unfolding root_call pin_decided
  root-given i = by-rules s _ _ _ (store-passes s t (rule13 s t ∷ []) e refl refl) i

module _ (s : State) (h : Handle) (k : ℕ) where
  -- the rules after those of the slot: 7, and those of a page that isn't resident, or that is
  abbrev last : List Rule
  last = let w = word_of s h k in let t = h.store.0 in pick (is_number w) (rule14 s t w ∷ rule15 s t ∷ rule27 s t ∷ []) (rule13 s (frame_in w) ∷ [])

  rest : List Rule
  rest = rule7 (word_of s h k) ∷ last

  pub fix-denied : (r : Refusal) → number_of r ≡ first_broken (word_rules s h k) → out (refused (number_of r)) s ≡ fix_call s h k
  unfolding fix_call rest
  fix-denied r e = decide-no s _ _ (slot-stops s h k rest e (not-accepted r)) (not-accepted r)

  module _ (e : 0 ≡ first_broken (word_rules s h k)) {w : ℕ} (i : w ≡ word_of s h k) where
    pub fix-nothing : w ≡ 0 → out (refused 7) s ≡ fix_call s h k
    unfolding fix_call rest
    fix-nothing a = decide-no s _ _ (slot-passes s h k rest e refl (sym (broken-here 7 _ (rw (← i) (ap not (eq-eqb w 0 a)))))) (λ y. omega arith)

    module _ (a : w ≢ 0) where
      passed : (ys : List Rule) → ys ≡ last → first_broken ys ≡ first_broken (word_rules s h k ++ rest)
      unfolding rest
      passed ys y = slot-passes s h k rest e refl (ap first_broken y ∙ sym (kept_then 7 _ (rw (← i) (ap not (ne_eqb w 0 a)))))

      pub fix-missed : {x : Out} → is_number w ≡ true → x ≡ miss_decided s h.frame.0 k h.store.0 w → x ≡ fix_call s h k
      unfolding fix_call rest miss_decided
      fix-missed t j =
          let u : is_number (word_of s h k) ≡ true = rw (← i) t in
          by-rules s _ _ _ (passed _ (pick_yes _ u refl)) (j ∙ rw i (ap (decide s _) (pick_yes _ u refl)))

      pub fix-pinned : {x : Out} → is_number w ≡ false → x ≡ pin_decided s (frame_in w) → x ≡ fix_call s h k
      unfolding fix_call rest pin_decided
      fix-pinned t j =
          let u : is_number (word_of s h k) ≡ false = rw (← i) t in
          by-rules s _ _ _ (passed _ (pick_no _ u refl)) (j ∙ rw i (ap (decide s _) (pick_no _ u refl)))

-- ---- the word that fix meets

module _ (s : State) (h : Handle) (k : ℕ) (K : SlotKept s h k) {w : ℕ} (e : w ≡ word_of s h k) where
  -- a number is that of one of the N pages
  pub number-below : is_number w ≡ true → w ≢ 0 → w < s.pool.pages
  number-below t z =
      let l : Number w = number-yes w t in
      let b = K.kept.agreed.below h.frame.0 k (held-occupied s.pool h K.held) K.slot (omega arith) (λ y. z (e ∙ y)) in
      omega arith

  -- a swizzled word's frame is one of the 64
  pub frame_below : is_number w ≡ false → frame_in w < most_frames
  frame_below t =
      let l : Swizzled w = number-no w t in
      let b = (ready s K.kept).words h.frame.0 k K.held.below K.held.used K.slot in
      omega arith
