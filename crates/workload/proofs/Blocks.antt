-- A workload block by block: what a block gives stands after what was there, and the sum over the blocks' lines is that over all lines. Assumes nothing.
use Rattle.std.specs.Prelude.{ℕ, zero, suc, ◌+◌, ◌*◌, ◌-◌, ◌^◌, ◌≤◌, ◌<◌, ◌≡◌, refl, List, ◌++◌, length}
use Rattle.std.proofs.Common.{sym, ◌∙◌, ap₂, append_assoc, append-nil, suc-add, zero-add}
use Rattle.std.proofs.Math.Path.{ap}
use native.Mathlib.Omega.{arith}
use Rattle.machine.specs.Machine.{State}
use Rattle.recording.specs.Listing.{listed}
use Rattle.printing.specs.LineLaws.{line_after, line-size}
use Rattle.generator.specs.declared.Generator.{Generator}
use Rattle.drawing.specs.declared.Drawn.{Drawn}
use Rattle.drawing.specs.Drawing.{drawn_out}
use Rattle.checksum.specs.declared.Sum.{Sum}
use Rattle.checksum.specs.Parts.{empty_sum, Over, empty-over, added-over}
use Rattle.workload.specs.Workload.{Worked, worked, begun, with_drawn, with_next, worked_from, Summed, summed, summed_by}

-- ---- records after records

-- what was there, and then w
abbrev following : Worked → Worked → Worked
following a w = worked (a.entries ++ w.entries) (a.text ++ w.text) w.left w.generator

drawn-after : (a w : Worked) (d : Drawn) → with_drawn (following a w) d ≡ following a (with_drawn w d)
drawn-after a w d =
    let x = listed w.left d.entry in
    ap₂ (λ (b t : List ℕ). worked b t x.left d.generator) (append_assoc a.entries w.entries d.entry) (line_after a.text w.text x.line)

worked-after : (n : ℕ) (a w : Worked) → worked_from n (following a w) ≡ following a (worked_from n w)
unfolding worked_from
worked-after zero a w = refl
worked-after (suc n) a w = let d = drawn_out w.left w.generator in ap (worked_from n) (drawn-after a w d) ∙ worked-after n a (with_drawn w d)

block-after : (n : ℕ) (a : Worked) → worked_from n a ≡ following a (worked_from n (begun a.left a.generator))
block-after n a =
    ap (worked_from n) (ap₂ (λ (b t : List ℕ). worked b t a.left a.generator) (sym (append-nil a.entries)) (sym (append-nil a.text)))
    ∙ worked-after n a (begun a.left a.generator)

worked-more : (m n : ℕ) (w : Worked) → worked_from (m + n) w ≡ worked_from n (worked_from m w)
unfolding worked_from
worked-more zero n w = ap (λ (k : ℕ). worked_from k w) (zero-add n)
worked-more (suc m) n w = ap (λ (k : ℕ). worked_from k w) (suc-add m n) ∙ worked-more m n (with_next w)

-- ---- the lines of n records have at most 24 bytes each

text-size : (n : ℕ) (w : Worked) → length (worked_from n w).text ≤ length w.text + 24 * n
unfolding worked_from
text-size zero w = omega arith
text-size (suc n) w =
    let d = drawn_out w.left w.generator in
    let h = text-size n (with_next w) in
    let k = line-size w.text (listed w.left d.entry).line in
    omega (arith, h, k)

-- ---- the sum over blocks

module _ (s : State) (g : Generator) where
  -- what k records from s and g on leave, the sum over all of their lines
  pub record Reached (k : ℕ) (x : Summed) : Type 0 where
    pub left : x.left ≡ (worked_from k (begun s g)).left
    pub generator : x.generator ≡ (worked_from k (begun s g)).generator
    pub over : Over x.sum (worked_from k (begun s g)).text

  pub none-reached : (count : ℕ) {c : Sum} → c ≡ empty_sum → Reached (count - count) (summed s g c)
  unfolding worked_from
  none-reached count e = let k : count - count ≡ 0 = omega arith in rw (k, e) (record { left = refl; generator = refl; over = empty-over })

  -- n more, as a block of its own
  module _ (k n : ℕ) (h : 24 * (k + n) < 2 ^ 64) (t : State) (f : Generator) (c : Sum) (r : Reached k (summed t f c)) where
    abbrev sofar : Worked
    sofar = worked_from k (begun s g)

    abbrev block : Worked
    block = worked_from n (begun sofar.left sofar.generator)

    joined : worked_from (k + n) (begun s g) ≡ following sofar block
    joined = worked-more k n (begun s g) ∙ block-after n sofar

    room : length sofar.text + length block.text < 2 ^ 64
    room = let a = text-size k (begun s g) in let b = text-size n (begun sofar.left sofar.generator) in omega arith

    more-reached : Reached (k + n) (summed_by n t f c)
    unfolding summed_by
    more-reached = rw (r.left, r.generator) (record {
      left = ap (λ (w : Worked). w.left) (sym joined);
      generator = ap (λ (w : Worked). w.generator) (sym joined);
      over = rw joined (added-over block.text r.over room);
    })

  -- n of the records that are left, of so many in all; and where none is left
  pub block-reached : (count left n : ℕ) → n ≤ left → left ≤ count → count < 2 ^ 32 → (t : State) (f : Generator) (c : Sum) {x : Summed} → Reached (count - left) (summed t f c) → x ≡ summed_by n t f c → Reached (count - (left - n)) x
  block-reached count left n a b m t f c r e =
      let k : count - (left - n) ≡ count - left + n = omega arith in
      rw (e, k) (more-reached (count - left) n (omega arith) t f c r)

  pub all-reached : (count left : ℕ) {x : Summed} → left ≤ 0 → Reached (count - left) x → Over x.sum (worked_from count (begun s g)).text
  all-reached count left l r = let k : count - left ≡ count = omega arith in (rw k at r).over
