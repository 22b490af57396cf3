-- Every record of a workload is drawn, lies in its ranges and is run as its call: from an open on, its calls are a list of demand 3, with one store. Assumes nothing.
use Rattle.std.specs.Prelude.{ℕ, zero, suc, ◌<◌, ◌≡◌, refl, Bool, true, false, not, List, [], get_or, replicate}
use Rattle.std.proofs.Common.{sym, ◌∙◌, ap, arith, lt-ltb}
use Rattle.page.specs.Figures.{slot_count}
use Rattle.page.specs.Word.{word_at-bytes, is_marked, name_of, names_nothing}
use Rattle.page.proofs.NameLaws.{low_word}
use Rattle.page.specs.Page.{slot, name, bytes_from}
use Rattle.page.specs.Octets.{Octets}
use Rattle.page.specs.StorePlaces.{store_place}
use Rattle.rules.specs.Tests.{pick, ◌and◌, ◌⇒◌, every, first_broken}
use Rattle.rules.specs.TestLaws.{both, true-every, pick-either, pick_no, verdict-yes, kept_then, none-broken}
use Rattle.machine.specs.Machine.{State}
use Rattle.machine.specs.Answers.{done, Out, out}
use Rattle.machine.specs.Rules.{lengths_fit, ceiling_fits, stores_fit, directory_fits}
use Rattle.machine.specs.Calls.{decide, pool_rules, open_rules, opened, open_call}
use Rattle.machine.specs.Soundness.{words_below, words_once, sound_store, sound}
use Rattle.machine.specs.History.{Call, Point, row, start, next, run, AllBytes}
use Rattle.machine.specs.LockedPages.{Unmarked}
use Rattle.machine.proofs.Laws.Outcomes.{answers-as}
use Rattle.machine.proofs.Theorem.Invariant.{Invariant}
use Rattle.machine.proofs.Theorem.Steps.{step_keeps}
use Rattle.machine.proofs.Theorem.Demand3Holds.{holds, invariant-along}
use Rattle.machine.proofs.Theorem.NeverLockedHolds.{unmarked-locks, step-leaves}
use Rattle.recording.specs.Listing.{listing_ceilings, call_of, record_out, length_in, data_in}
use Rattle.recording.proofs.ListingLaws.{listed-unmarked}
use Rattle.recording.proofs.OneStore.{same-stores, never-15-listed}
use Rattle.generator.specs.Generator.{seed_read}
use Rattle.drawing.specs.Drawing.{drawn_out}
use Rattle.drawing.proofs.Ranges.{in-ranges}
use Rattle.drawing.proofs.RefusalsHold.{record-called, drawn-meets}
use Rattle.drawing.proofs.DrawsInListHolds.{point-kept, drawn-there}
use Rattle.workload.specs.InList.{Works}
use Rattle.workload.specs.Workload.{Worked, begun, with_next, worked_from, listing_pool, workload_of}

-- ---- a record's call is no open, and one without a length hands over no bytes

pub record Plain (c : Call) : Type 0 where
  pub goes_on : (row c).anew ≡ false
  pub bytes : (row c).bytes ≡ []

either : (t : Bool) (c d : Call) → Plain c → Plain d → Plain (pick t c d)
either = pick-either Plain

no-data : (b : List ℕ) → length_in b ≡ 0 → data_in b ≡ []
unfolding bytes_from
no-data b e = rw e refl

plain : (c : Call) → (row c).anew ≡ false → (row c).bytes ≡ [] → Plain c
plain c a b = record { goes_on = a; bytes = b }

plain-call : (b : List ℕ) → length_in b ≡ 0 → Plain (call_of b)
unfolding call_of
plain-call b e =
    either _ _ _ (plain _ refl refl) (either _ _ _ (plain _ refl refl) (either _ _ _ (plain _ refl refl) (either _ _ _ (plain _ refl (no-data b e))
    (either _ _ _ (plain _ refl refl) (either _ _ _ (plain _ refl refl) (either _ _ _ (plain _ refl refl) (either _ _ _ (plain _ refl refl) (plain _ refl refl))))))))

-- ---- so it leads from a point of a list to the next

no-octets : (bs : List ℕ) → bs ≡ [] → Octets bs
no-octets bs e i = rw e (omega arith)

next-now : (c : Call) (x : Point) → (row c).anew ≡ false → (next c x).now ≡ ((row c).out x.now).left
unfolding next
next-now c x e = ap (λ (y : Point). y.now) (sym (pick_no _ e refl))

-- a point that keeps demand 3's invariant, has no mark in its map, and has this state, of one store
pub record AtPoint (s : State) : Type 0 where
  pub point : Point
  pub keeps : Invariant point
  pub unmarked : Unmarked point.map
  pub here : point.now ≡ s
  pub one : s.pool.stores ≡ 1

kept_there : (s : State) → AtPoint s → first_broken (pool_rules s) ≡ 0
kept_there s a = rw (← a.here) (point-kept a.point (holds a.point a.keeps))

-- n records lead from such a point to such a point
point-along : (n : ℕ) (w : Worked) → AtPoint w.left → AtPoint (worked_from n w).left
unfolding worked_from
point-along zero w a = a
point-along (suc n) w a =
    let z = kept_there w.left a in
    let b = (drawn_out w.left w.generator).entry in
    let r = in-ranges w.left w.generator z in
    let p = plain-call b r.empty in
    point-along n (with_next w) (record {
      point = next (call_of b) a.point;
      keeps = step_keeps a.point a.keeps (call_of b) (no-octets _ p.bytes);
      unmarked = step-leaves a.point a.keeps a.unmarked (call_of b) (listed-unmarked b);
      here = next-now (call_of b) a.point p.goes_on ∙ ap (λ (s : State). ((row (call_of b)).out s).left) a.here ∙ ap (λ (o : Out). o.left) (record-called w.left z b r);
      one = same-stores w.left b ∙ a.one;
    })

-- ---- the listing's pool opens

zero-byte : (m i : ℕ) → ◌≡◌ {A = ℕ} (get_or (replicate m 0) i 0) 0
zero-byte zero i = refl
zero-byte (suc m) zero = refl
zero-byte (suc m) (suc i) = zero-byte m i

zero-octets : (m : ℕ) → Octets (replicate m 0)
zero-octets m i = rw (zero-byte m i) (omega arith)

zero_word : (m p k : ℕ) → slot (replicate m 0) p k ≡ 0
unfolding slot
zero_word m p k = let a = zero-byte m in word_at-bytes _ _ ∙ rw (a _, a _, a _, a _) refl

zero-name : (m p k : ℕ) → name (replicate m 0) p k ≡ 0
zero-name m p k = ap name_of (zero_word m p k) ∙ (low_word 0 (omega arith)).0

zeros-unmarked : (m : ℕ) → Unmarked (replicate m 0)
zeros-unmarked m p k h = ap is_marked (zero_word m p k) ∙ (low_word 0 (omega arith)).1

unnamed : (m p k : ℕ) (b : Bool) → (not (names_nothing (name (replicate m 0) p k)) ⇒ b) ≡ true
unfolding ◌⇒◌
unnamed m p k b = rw (zero-name m p k) refl

zeros-sound : (m N T : ℕ) → 0 < N → sound (replicate m 0) N T ≡ true
unfolding sound sound_store words_below words_once
zeros-sound m N T l = true-every T _ (λ t _. both _ _
    (true-every N _ (λ p _. true-every slot_count _ (λ k _. rw (zero-name m (store_place N t p) k) (lt-ltb 0 N l))))
    (true-every N _ (λ p _. true-every slot_count _ (λ k _. unnamed m (store_place N t p) k _))))

listing-kept : first_broken (open_rules 1 listing_ceilings (replicate 1024 0) (replicate 4096 0) (replicate 131 0)) ≡ 0
unfolding lengths_fit ceiling_fits stores_fit directory_fits ◌and◌ every pick
listing-kept = kept_then 1 _ refl ∙ kept_then 16 [] (zeros-sound 4096 16 1 (omega arith)) ∙ none-broken

listing-out : listing_pool ≡ out done (opened 1 listing_ceilings (replicate 1024 0) (replicate 4096 0))
unfolding open_call decide
listing-out = sym (verdict-yes {n = 0} _ (sym listing-kept) refl refl)

pub listing-opens : listing_pool.answer ≡ done
listing-opens = answers-as listing-out

-- ---- the claim

works : (w : Worked) → AtPoint w.left → Works w
works w a =
    let z = kept_there w.left a in
    let b = (drawn_out w.left w.generator).entry in
    let called = record-called w.left z b (in-ranges w.left w.generator z) in
    let answered = ap (λ (s : State). ((row (call_of b)).out s).answer) a.here ∙ answers-as called in
    record {
      drawn = drawn-there w.left w.generator z;
      meets = drawn-meets w.left z w.generator;
      unaltered = λ e. ((holds a.point a.keeps).never_refused (call_of b) 14 (answered ∙ e)).2 refl;
      single = λ e. never-15-listed a.point (holds a.point a.keeps) (ap (λ (s : State). s.pool.stores) a.here ∙ a.one) b (ap (λ (s : State). (record_out s b).answer) a.here ∙ e);
      unlocked = λ e. (unmarked-locks a.point a.keeps a.unmarked).never26 (call_of b) (answered ∙ e);
    }

listing-point : AtPoint listing_pool.left
unfolding AllBytes run
listing-point = record {
  point = start listing_pool.left;
  keeps = invariant-along 1 listing_ceilings (replicate 1024 0) (replicate 4096 0) (replicate 131 0) (zero-octets 1024) (zero-octets 4096) listing-opens [] tt;
  unmarked = rw (ap (λ (o : Out). o.left.store) listing-out) (zeros-unmarked 4096);
  here = refl;
  one = ap (λ (o : Out). o.left.pool.stores) listing-out;
}

pub all-work : (seed n : ℕ) → Works (workload_of seed n)
unfolding workload_of
all-work seed n = works _ (point-along n (begun listing_pool.left (record { number = seed_read seed })) listing-point)
