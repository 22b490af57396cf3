-- A record drawn in code: its parent page by the table of the page in each frame. Assumes nothing.
use Rattle.std.specs.Prelude.{ℕ, ◌+◌, ◌%◌, ◌<◌, ◌≤◌, ◌≡◌, ◌≢◌, false, List, eqb}
use Rattle.std.proofs.Math.Path.{refl, ap}
use Rattle.std.proofs.Common.{sym, ◌∙◌, arith, mod-lt, eq-eqb, ne_eqb, eqb-true}
use Rattle.std.proofs.lemmas.Bool.{not-false}
use Rattle.page.specs.declared.PageNumber.{PageNumber}
use Rattle.page.specs.Figures.{most_frames, most_pages}
use Rattle.rules.specs.Tests.{pick, first_broken}
use Rattle.rules.specs.TestLaws.{case, on, off, or-none, pick_yes, pick_no, verdict-yes, verdict-no}
use Rattle.machine.specs.Machine.{State, frame_index, page_number, occupied}
use Rattle.machine.specs.Calls.{pool_rules}
use Rattle.machine.proofs.Laws.Ready.{Kept, rules-kept}
use Rattle.seen.specs.Seen.{Seen}
use Rattle.residents.specs.Residents.{Residents, page_by, holds_page}
use Rattle.residents.specs.ResidentLaws.{page-by, holds-page}
use Rattle.residents.specs.Handed.{Handed}
use Rattle.generator.specs.declared.Generator.{Generator}
use Rattle.generator.specs.Generator.{number_after}
use Rattle.drawing.specs.declared.Drawn.{Drawn}
use Rattle.drawing.specs.declared.fields.Fields.{Fields}
use Rattle.drawing.specs.ParentByTable.{parent_by}
use Rattle.drawing.specs.Drawing.{fields_from, parent_page, entry_from, refused_draw, drawn_out}

-- ---- five draws

pub below-most : (n m k : ℕ) → 1 ≤ m → m ≤ k → n % m < k
below-most n m k p l = let a : n % m < m = mod-lt n p in omega arith

-- the fields by the number of each draw
pub fields_made : (F N x a b c d : ℕ) (g : Generator) → a ≡ number_after x → b ≡ number_after a → c ≡ number_after b → d ≡ number_after c → g.number ≡ number_after d
    → ◌≡◌ {A = Fields} (record { call = a % 9 + 1; frame = frame_index (b % F); page = page_number (c % N); slot = d % 16; offset = g.number % 193; generator = g }) (fields_from F N x)
unfolding fields_from
fields_made F N x a b c d g ea eb ec ed eg =
    let fb = eb ∙ ap number_after ea in
    let fc = ec ∙ ap number_after fb in
    let fd = ed ∙ ap number_after fc in
    let fg = eg ∙ ap number_after fd in
    λ i. record { call = ea i % 9 + 1; frame = frame_index (fb i % F); page = page_number (fc i % N); slot = fd i % 16; offset = fg i % 193; generator = record { number = fg i } }

-- ---- link's parent page by the table

module _ (residents : List ℕ) (call f : ℕ) where
  pub no-parent : call ≢ 5 → 0 ≡ parent_by residents call f
  unfolding parent_by
  no-parent n = pick_no _ (ne_eqb call 5 n) refl

  pub parent-there : call ≡ 5 → page_by residents f ≡ parent_by residents call f
  unfolding parent_by
  parent-there e = pick_yes _ (eq-eqb call 5 e) refl

-- ---- refused

pub draw-refused : (s : State) (g : Generator) {n : ℕ} → n ≡ first_broken (pool_rules s) → n ≢ 0 → refused_draw g n ≡ drawn_out s g
unfolding drawn_out
draw-refused s g e h = verdict-no (refused_draw g) _ e h

-- ---- accepted: n is the refusal by rules 1 and 2
module _ (s : State) {residents : List ℕ} {seen : Seen} {n : ℕ} (e : (n ≡ first_broken (pool_rules s)) × (n ≡ 0 → Handed s.pool s.frames residents seen)) (z : n ≡ 0) where
  kept : Kept s
  kept = rules-kept s (sym e.0 ∙ z)

  held : Residents s.pool.records residents
  held = (e.1 z).held

  pub counts-fit : (1 ≤ s.pool.count) × (s.pool.count ≤ most_frames) × (1 ≤ s.pool.pages) × (s.pool.pages ≤ most_pages)
  counts-fit = let k = kept.sized in (omega arith, k.most, k.some, k.pages)

  module _ (g : Generator) (r : Fields) (d : r ≡ fields_from s.pool.count s.pool.pages g.number) where
    frame_below : r.frame.0 < s.pool.count
    unfolding fields_from
    frame_below = let l = counts-fit.0 in rw d (mod-lt _ (omega arith))

    pub frame-fits : r.frame.0 < most_frames
    frame-fits = let l = frame_below in let m = counts-fit.1 in omega arith

    -- an empty frame's entry in the table is 0
    empty-none : occupied s.pool r.frame.0 ≡ false → page_by residents r.frame.0 ≡ 0
    unfolding holds_page
    empty-none o = ap (λ (k : ℕ). k % most_pages) (eqb-true _ 0 (not-false _ (or-none (eqb r.frame.0 0) _ (holds-page s kept.sized.most kept.stores.some kept.agreed residents held r.frame.0 frame-fits ∙ o)).1))

    parent-same : parent_by residents r.call r.frame.0 ≡ parent_page s r.call r.frame.0
    unfolding parent_by parent_page
    parent-same = ap (λ (p : ℕ). pick (eqb r.call 5) p 0) (elim (case (occupied s.pool r.frame.0)) [
      | on o ↦ page-by held r.frame.0 frame-fits ∙ pick_yes _ o refl
      | off o ↦ empty-none o ∙ pick_no _ o refl
    ])

    pub draw-made : (p : PageNumber) {b : List ℕ} → p ≡ page_number (parent_by residents r.call r.frame.0) → b ≡ entry_from r p.0
        → ◌≡◌ {A = Drawn} (record { refusal = 0; entry = b; generator = r.generator }) (drawn_out s g)
    unfolding drawn_out
    draw-made p q h = verdict-yes (refused_draw g) e.0 z (rw (h, q, parent-same, d))
