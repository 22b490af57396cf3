-- The struct made of the pool and a call's answer is the one for what the call answers and leaves, and structs as they are computed. Assumes nothing.
use Rattle.std.specs.Prelude.{ℕ, ◌≡◌, refl, true, false, List, [], ◌∷◌, Result, Ok, Err}
use Rattle.rules.specs.declared.refusal.Refusal.{Refusal}
use Rattle.rules.specs.RefusalNumbers.{number_of, refused_by, not-accepted}
use Rattle.rules.specs.TestLaws.{verdict-no, verdict-yes}
use Rattle.std.proofs.Common.{sym}
use Rattle.machine.specs.declared.Pool.{Pool}
use Rattle.machine.specs.declared.Pinned.{Pinned}
use Rattle.machine.specs.Machine.{state}
use Rattle.machine.specs.Answers.{refused, done, payload, in_frames, in_store, Out, out, done_answer, fix_answer, opened_out}
use Rattle.pagepool.specs.declared.answers.Done.{Done}
use Rattle.pagepool.specs.declared.answers.Fixed.{Fixed}
use Rattle.pagepool.specs.Structs.{done_by, done_of, opened_of, fixed_of, fixed_out, place_of}

refused-by : (r : Refusal) → done_by (number_of r) ≡ refused (number_of r)
unfolding done_by
refused-by r = sym (verdict-no refused done refl (not-accepted r))

accepted-by : done_by 0 ≡ done
unfolding done_by
accepted-by = sym (verdict-yes refused refl refl refl)

answered-by : (a : Result (Unit {0}) Refusal) → done_by (refused_by a) ≡ done_answer a
answered-by (Ok x) = accepted-by
answered-by (Err r) = refused-by r

pub done-out : (x : Pool) (a : Result (Unit {0}) Refusal) (fs st d : List ℕ) {r : Done} {o : Out} → r ≡ done_of x a → out (done_answer a) (state x fs st d) ≡ o → out (done_by r.refusal) (state r.pool fs st d) ≡ o
done-out x a fs st d e i = rw (e, answered-by a) i

pub opened-out : (a : Result Pool Refusal) (fs st d : List ℕ) {r : Done} {o : Out} → r ≡ opened_of a → opened_out a fs st d ≡ o → out (done_by r.refusal) (state r.pool fs st d) ≡ o
opened-out (Ok x) fs st d e i = rw (e, accepted-by) i
opened-out (Err x) fs st d e i = rw (e, refused-by x) i

pub fixed_out_lem : (x : Pool) (a : Result Pinned Refusal) (fs st d : List ℕ) {r : Fixed} {o : Out} → r ≡ fixed_of (fix_answer a) x → out (fix_answer a) (state x fs st d) ≡ o → record { fixed = r; frames = fs; store = st; directory = d } ≡ fixed_out o
fixed_out_lem x a fs st d e i = rw (e, ← i)

-- a place's fields: in the frames, in the store, and beside a refusal
pub place-rows :
    (place_of (payload in_frames 320 192) ∷ place_of (payload in_store 576 192) ∷ place_of (refused 3) ∷ [])
    ≡ (record { refusal = 0; in_store = false; start = 320; size = 192 } ∷ record { refusal = 0; in_store = true; start = 576; size = 192 } ∷ record { refusal = 3; in_store = false; start = 0; size = 0 } ∷ [])
place-rows = refl
