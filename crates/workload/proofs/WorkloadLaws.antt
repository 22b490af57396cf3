-- The records of a workload one by one, in a block, and from a seed, in code. Assumes nothing.
use Rattle.std.specs.Prelude.{ℕ, suc, ◌+◌, ◌-◌, ◌*◌, ◌≤◌, ◌<◌, ◌≡◌, List, ◌++◌, length, take, drop, Result, Ok, Err}
use Rattle.std.specs.Result.{result_unwrap_or}
use Rattle.std.proofs.Common.{sym, ◌∙◌, ap, arith, length-take-le}
use Rattle.std.proofs.Math.Nat.{sub-zero}
use Rattle.std.proofs.Math.Seq.{take-append_seam, take-append-add}
use borrow.Rule.Slice.PartMut.{put_mid}
use Rattle.rules.specs.declared.refusal.Refusal.{Refusal}
use Rattle.machine.specs.declared.Pool.{Pool}
use Rattle.machine.specs.Machine.{State, state, zero_pool}
use Rattle.machine.specs.Answers.{Out, opened_out}
use Rattle.recording.specs.Listing.{listed}
use Rattle.printing.specs.Printing.{Printed, printed, with_listed}
use Rattle.generator.specs.declared.Generator.{Generator}
use Rattle.generator.specs.Generator.{seed_read}
use Rattle.drawing.specs.declared.Drawn.{Drawn}
use Rattle.drawing.specs.Drawing.{drawn_out}
use Rattle.checksum.specs.declared.Sum.{Sum}
use Rattle.checksum.specs.Parts.{added, Over}
use Rattle.workload.specs.Workload.{Worked, worked, begun, with_drawn, worked_from, listing_pool, workload_of, summed, summed_by}

-- a record put among others, from `at` on
pub entry-put : (l : List ℕ) (at : ℕ) (ys b : List ℕ) → at + 16 ≤ length l → length b ≡ 16 → ys ≡ b → take (at + 16) (put_mid at (at + 16 - at) l ys) ≡ take at l ++ b
entry-put l at ys b h s e =
    let k : at + 16 - at ≡ 16 = omega arith in
    let after = drop 16 (drop at l) in
    rw (e, k) (ap (λ (n : ℕ). take n (take at l ++ (b ++ after))) (ap (λ (n : ℕ). n + 16) (sym (length-take-le at l (omega arith))))
    ∙ take-append-add (take at l) (b ++ after) 16
    ∙ ap (λ (r : List ℕ). take at l ++ r) (ap (λ (n : ℕ). take n (b ++ after)) (sym s) ∙ take-append_seam b after))

-- the records with the one that was put at their end, and all of them
pub next-entry : (l : List ℕ) (i : ℕ) {b : List ℕ} → take (16 * i + 16) l ≡ b → take (16 * (i + 1)) l ≡ b
next-entry l i e = let k : 16 * (i + 1) ≡ 16 * i + 16 = omega arith in ap (λ (n : ℕ). take n l) k ∙ e

pub all-entries : (l : List ℕ) {t : List ℕ} {s : State} {g : Generator} {i n : ℕ} → i ≡ n → worked (take (16 * i) l) t s g ≡ worked (take (16 * n) l) t s g
all-entries l {t} {s} {g} e = ap (λ (k : ℕ). worked (take (16 * k) l) t s g) e

-- ---- the records so far

pub all-worked : (n : ℕ) (w : Worked) → worked_from n w ≡ worked_from (n - 0) w
all-worked n w = ap (λ (m : ℕ). worked_from m w) (sym (sub-zero n))

pub none-worked : (n i : ℕ) (w : Worked) → n ≤ i → worked_from (n - i) w ≡ w
unfolding worked_from
none-worked n i w h = let e : n - i ≡ 0 = omega arith in rw e

-- a record: b and t are the records and lines before it, d what was drawn, x and u what they are with it, y the state after it
pub one-worked : (n i : ℕ) (b t : List ℕ) (s : State) (g : Generator) (d : Drawn) {x u : List ℕ} {y : State} → i < n → d ≡ drawn_out s g → x ≡ b ++ d.entry → printed u y ≡ with_listed t (listed s d.entry) → worked_from (n - i) (worked b t s g) ≡ worked_from (n - (i + 1)) (worked x u y d.generator)
unfolding worked_from
one-worked n i b t s g d {x} {u} {y} h e q p =
    let m : n - i ≡ suc (n - (i + 1)) = omega arith in
    rw m (ap (λ (z : Drawn). worked_from (n - (i + 1)) (with_drawn (worked b t s g) z)) (sym e)
    ∙ ap (λ (z : Printed). worked_from (n - (i + 1)) (worked (b ++ d.entry) z.text z.left d.generator)) (sym p)
    ∙ ap (λ (z : List ℕ). worked_from (n - (i + 1)) (worked z u y d.generator)) (sym q))

-- a block, with the sum that its lines were added to
pub block-summed : (n : ℕ) {b t : List ℕ} (s : State) {x : State} (g : Generator) {h : Generator} (c : Sum) {d : Sum} → worked b t x h ≡ worked_from n (begun s g) → d ≡ added c t → summed x h d ≡ summed_by n s g c
unfolding summed_by
block-summed n s {x} g {h} c e q = ap (summed x h) q ∙ ap (λ (w : Worked). summed w.left w.generator (added c w.text)) e

-- records from the pool that open gave, and from the generator of the seed
pub from-seed : (seed n : ℕ) (g : Generator) (o : Out) {c : Sum} → o ≡ listing_pool → g.number ≡ seed_read seed → Over c (worked_from n (begun o.left g)).text → Over c (workload_of seed n).text
unfolding workload_of
from-seed seed n g o {c} q e h =
    let k : g ≡ record { number = seed_read seed } = ap (λ (m : ℕ). record { number = m }) e in
    rw (k, q) at h

-- the same where open gave the result r, and x is its pool
pub from-opened : (seed n : ℕ) (g : Generator) (r : Result Pool Refusal) (fs st d : List ℕ) (x : Pool) {c : Sum} → opened_out r fs st d ≡ listing_pool → x ≡ result_unwrap_or r zero_pool → g.number ≡ seed_read seed → Over c (worked_from n (begun (state x fs st d) g)).text → Over c (workload_of seed n).text
from-opened seed n g r fs st d x q i e h = from-seed seed n g (opened_out r fs st d) q e (rw (left-by r i) at h)
  where
    left-by : (r : Result Pool Refusal) → x ≡ result_unwrap_or r zero_pool → state x fs st d ≡ (opened_out r fs st d).left
    left-by (Ok p) i = ap (λ (y : Pool). state y fs st d) i
    left-by (Err f) i = ap (λ (y : Pool). state y fs st d) i
