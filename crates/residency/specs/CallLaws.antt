-- How the tests of open, unfix and evict, in their order, make up the calls. Assumes nothing.
use Rattle.std.specs.Prelude.{ℕ, ◌/◌, ◌≤◌, ◌<◌, ◌≡◌, ◌≢◌, Bool, true, false, List, ◌∷◌, length, Option, Some, None, Ok, Err, ◌++◌}
use Rattle.std.proofs.Common.{refl, sym, ap, ◌∙◌, arith, lt-ltb, le-ltb}
use Rattle.page.specs.declared.PageNumber.{PageNumber}
use Rattle.page.specs.declared.FrameIndex.{FrameIndex}
use Rattle.page.specs.Figures.{page_size, most_frames, most_pages, most_stores}
use Rattle.machine.specs.declared.FrameRecord.{FrameRecord}
use Rattle.machine.specs.declared.Handle.{Handle}
use Rattle.machine.specs.declared.Pool.{Pool}
use Rattle.rules.specs.declared.refusal.Refusal.{Refusal}
use Rattle.rules.specs.declared.refusal.Refusal.TheVariants.{WrongLength, NotResident, UnsoundStore}
use Rattle.rules.specs.RefusalNumbers.{number_of, not-accepted}
use Rattle.rules.specs.Tests.{◌and◌, Rule, first_broken}
use Rattle.rules.specs.TestLaws.{and_yes, and_no, both, kept_then, broken-here, none-broken}
use Rattle.machine.specs.Machine.{State, state, with_pool, blank, unpinned, record_at, with_record, opened_pool, found_in}
use Rattle.chains.specs.Chain.{directory_size, opened_directory}
use Rattle.machine.specs.Soundness.{sound}
use Rattle.machine.specs.Sweep.{standing}
use Rattle.machine.proofs.Laws.Standings.{open-childless, stay_number, none_stays, stays-first}
use Rattle.machine.specs.Moves.{evicted}
use Rattle.machine.specs.Answers.{out, done, refused, opened_out}
use Rattle.machine.specs.Rules.{lengths_fit, stores_fit, directory_fits, frames_in, pages_of_each, rule11}
use Rattle.machine.specs.Calls.{change_record, root_frames, open_rules, open_call, handle_rules, unfix_call, page_rules, stay_rules, evict_call}
use Rattle.machine.proofs.Laws.Ready.{of-directory, not-directory, ready}
use Rattle.machine.proofs.Laws.RuleLaws.{decide-no, accepted-out, HandleKept, handle-kept, page-stops, page-passes}
use Rattle.seen.specs.Seen.{Seen}
use Rattle.residents.specs.Residents.{key_of}
use Rattle.residents.specs.Handed.{Handed}
use Rattle.scan.specs.FoundByTable.{found_by, Told, kept, counted-frames, few-frames, sought-fits, told-found}
use Rattle.moves.specs.InAndOut.{Removable, TakenOut, followed, removable, is-evicted}

-- ---- open

-- rule 1, by T and the ceilings alone
unfit : (a b c : Bool) → b ≡ false → (a and b and c) ≡ false
unfolding ◌and◌
unfit true b c e = rw e
unfit false b c e = refl

module _ (T : ℕ) (ceilings fs st d : List ℕ) where
  abbrev lengths : Bool
  lengths = lengths_fit (frames_in fs) (pages_of_each T st) T fs st

  abbrev figures : Bool
  figures = stores_fit (frames_in fs) T ceilings

  open-refused : (r : Refusal) → number_of r ≡ first_broken (open_rules T ceilings fs st d) → opened_out (Err r) fs st d ≡ open_call T ceilings fs st d
  unfolding open_call
  open-refused r e = decide-no _ _ _ e (not-accepted r)

  pub open-no-stores : figures ≡ false → opened_out (Err WrongLength) fs st d ≡ open_call T ceilings fs st d
  open-no-stores h = open-refused WrongLength (sym (broken-here 1 _ (unfit lengths figures (directory_fits d) h)))

  module _ (fits : figures ≡ true) where
    pub open-unfit : lengths ≡ false → opened_out (Err WrongLength) fs st d ≡ open_call T ceilings fs st d
    open-unfit h = open-refused WrongLength (sym (broken-here 1 _ (sym (and_no _ h))))

    module _ (fit : lengths ≡ true) where
      pub open-no-directory : length d ≢ directory_size → opened_out (Err WrongLength) fs st d ≡ open_call T ceilings fs st d
      open-no-directory h = open-refused WrongLength (sym (broken-here 1 _ (sym (and_yes fit (and_yes fits (sym (not-directory d h)))))))

      module _ (size : length d ≡ directory_size) where
        first : (lengths and figures and directory_fits d) ≡ true
        first = both _ _ fit (both _ _ fits (of-directory d size))

        pub open-unsound : sound st (pages_of_each T st) T ≡ false → opened_out (Err UnsoundStore) fs st d ≡ open_call T ceilings fs st d
        open-unsound h = open-refused UnsoundStore (sym (kept_then 1 _ first ∙ broken-here 16 _ h))

        pub open_done : {p : Pool} {gs e : List ℕ} → sound st (pages_of_each T st) T ≡ true → p ≡ opened_pool (frames_in fs) (pages_of_each T st) T ceilings → gs ≡ root_frames (pages_of_each T st) fs st T → e ≡ opened_directory T
            → opened_out (Ok p) gs st e ≡ open_call T ceilings fs st d
        unfolding open_call
        open_done h i g j = accepted-out _ _ (sym (kept_then 1 _ first ∙ kept_then 16 _ h ∙ none-broken)) (rw (i, g, j))

-- ---- unfix, where the rules of the handle refuse, and where they are kept

pub unfix-denied : (s : State) (h : Handle) (r : Refusal) → number_of r ≡ first_broken (handle_rules s h) → out (refused (number_of r)) s ≡ unfix_call s h
unfolding unfix_call
unfix-denied s h r e = decide-no s _ _ e (not-accepted r)

module _ (s : State) (h : Handle) (e : 0 ≡ first_broken (handle_rules s h)) where
  held : HandleKept s h
  held = handle-kept s h (sym e)

  module _ {a : ℕ} (i : a ≡ h.frame.0) where
    pub unfix-within : a < most_frames
    unfix-within = omega (arith, i, held.held.below, held.kept.sized.most)

    pub unfix-pinned : 0 < (record_at s.pool.records a).pins
    unfix-pinned = rw i held.held.pins

    pub unfix-done : {r : FrameRecord} → r ≡ unpinned (record_at s.pool.records a) → out done (with_pool s (with_record s.pool a r)) ≡ unfix_call s h
    unfolding unfix_call
    unfix-done d = accepted-out s _ e (ap (λ (t : FrameRecord). out done (with_pool s (with_record s.pool a t))) d ∙ ap (λ (f : ℕ). out done (change_record s f unpinned)) i)

-- ---- evict: where the rules of a page refuse, and where they are kept, F is the count that the frames' length gives, and r the frame that the code found

module _ (s : State) (t : ℕ) (q : PageNumber) where
  rest : List Rule
  rest = rule11 s t q.0 ∷ stay_rules s t q.0

  evict-refused : (r : Refusal) → number_of r ≡ first_broken (page_rules s t q ++ rest) → out (refused (number_of r)) s ≡ evict_call s t q
  unfolding evict_call rest
  evict-refused r e = decide-no s _ _ e (not-accepted r)

  pub evict-denied : (r : Refusal) → number_of r ≡ first_broken (page_rules s t q) → out (refused (number_of r)) s ≡ evict_call s t q
  evict-denied r e = evict-refused r (page-stops s t q rest e (not-accepted r))

  module _ {residents : List ℕ} {seen : Seen} {F : ℕ} (e : 0 ≡ first_broken (page_rules s t q)) (H : Handed s.pool s.frames residents seen) (c : F ≡ length s.frames / page_size) where
    told : (r : Option FrameIndex) → Told F (found_by residents (key_of t q.0) F 0) r → Told s.pool.count (found_in s.pool t q.0) r
    told = told-found s t q (e, λ z. H) refl c

    pub evict-sought : (F ≤ most_frames) × (t < most_stores) × (q.0 < most_pages)
    evict-sought = sought-fits s t q (e, λ z. H) refl c

    pub evict-absent : Told F (found_by residents (key_of t q.0) F 0) None → out (refused 11) s ≡ evict_call s t q
    unfolding rest
    evict-absent i = evict-refused NotResident (page-passes s t q rest e refl (sym (broken-here 11 _ (le-ltb (found_in s.pool t q.0) s.pool.count (omega (arith, told None i))))))

    module _ {f : FrameIndex} (i : Told F (found_by residents (key_of t q.0) F 0) (Some f)) where
      here : (f.0 < s.pool.count) × (found_in s.pool t q.0 ≡ f.0)
      here = told (Some f) i

      pub evict-within : f.0 < most_frames
      evict-within = omega (arith, here.0, few-frames s t q (e, λ z. H) refl c, counted-frames s t q (e, λ z. H) refl c)

      -- m is the number of the rule that the code found that the page stays by
      module _ {m : ℕ} (j : m ≡ stay_number (standing s.pool.stores (record_at s.pool.records f.0) s.frames f.0)) where
        by-rest : m ≡ first_broken rest
        unfolding rest
        by-rest = j ∙ ap (λ (g : ℕ). stay_number (standing s.pool.stores (record_at s.pool.records g) s.frames g)) (sym here.1)
            ∙ sym (kept_then 11 _ (rw here.1 (lt-ltb f.0 _ here.0)) ∙ stays-first s t q.0)

      pub evict-stays : (r : Refusal) → number_of r ≡ stay_number (standing s.pool.stores (record_at s.pool.records f.0) s.frames f.0) → out (refused (number_of r)) s ≡ evict_call s t q
      evict-stays r j = evict-refused r (page-passes s t q rest e refl (by-rest j))

      module _ (j : 0 ≡ stay_number (standing s.pool.stores (record_at s.pool.records f.0) s.frames f.0)) where
        pub evict-removable : Removable s.pool.pages (record_at s.pool.records f.0) s.frames s.store s.directory f.0
        evict-removable = let K = kept s t q (e, λ z. H) refl c in removable s f.0 (ready s K) (followed s K) here.0 (open-childless _ _ _ _ (none_stays _ _ _ f.0 (sym j)))

        pub evict-done : {r : FrameRecord} {gs ts d : List ℕ} → r ≡ blank → TakenOut s.pool.pages (record_at s.pool.records f.0) s.frames s.store s.directory f.0 gs ts d → out done (state (with_record s.pool f.0 r) gs ts d) ≡ evict_call s t q
        unfolding evict_call rest
        evict-done b o = accepted-out s _ (page-passes s t q rest e refl (by-rest j)) (ap (out done) (is-evicted s f.0 (ap (with_record s.pool f.0) b) o ∙ ap (evicted s) (sym here.1)))
