-- A drawn record lies in its ranges, and what the call listing reads in it is what was drawn. Assumes nothing.
use Rattle.std.specs.Prelude.{ℕ, ◌+◌, ◌*◌, ◌/◌, ◌%◌, ◌<◌, ◌≡◌, ◌≢◌, ◌∷◌, length}
use Rattle.std.proofs.Math.Path.{refl, sym, ap}
use Rattle.std.proofs.Common.{subst, ne_eqb}
use native.Mathlib.Omega.{arith}
use Rattle.std.proofs.Math.Decide.{ℕ_discrete}
use Rattle.std.proofs.Math.Nat.{mod-lt}
use Rattle.std.proofs.Math.ListN.{replicate}
use Rattle.page.specs.Figures.{byte_radix}
use Rattle.page.specs.Page.{bytes_from}
use Rattle.rules.specs.Tests.{first_broken}
use Rattle.rules.specs.TestLaws.{pick-either, pick_no, verdict-yes, verdict-no}
use Rattle.machine.specs.Machine.{State, store_number, page_number}
use Rattle.machine.specs.Calls.{pool_rules}
use Rattle.machine.proofs.Laws.Ready.{Kept, rules-kept}
use Rattle.generator.specs.declared.Generator.{Generator}
use Rattle.generator.specs.Generator.{number_after}
use Rattle.drawing.specs.declared.Drawn.{Drawn}
use Rattle.drawing.specs.Drawing.{fields_from, parent_page, drawn_fields, drawn_entry, refused_draw, drawn_out, InRanges, ReadBack}

two_bytes : (p : ℕ) → p % byte_radix + byte_radix * (p / byte_radix) ≡ p
two_bytes p = omega arith

fields_read : (s : State) (g : Generator) → ReadBack s g (drawn_entry s g)
fields_read s g =
    let r = drawn_fields s g in
    let p = parent_page s r.call r.frame.0 in
    record {
      call = refl;
      handle = ap (λ (n : ℕ). record { frame = r.frame; store = store_number 0; page = page_number n }) (two_bytes r.page.0);
      slot = refl;
      offset = refl;
      parent = ap (λ (n : ℕ). record { frame = r.frame; store = store_number 0; page = page_number n }) (two_bytes p);
    }

module _ (s : State) (g : Generator) (z : first_broken (pool_rules s) ≡ 0) where
  kept : Kept s
  kept = rules-kept s z

  -- rules 1 and 2 are kept: the record is made
  pub accepted-record : drawn_out s g ≡ record { refusal = 0; entry = drawn_entry s g; generator = (drawn_fields s g).generator }
  unfolding drawn_out
  accepted-record = sym (verdict-yes (refused_draw g) (sym z) refl refl)

  parent-below : (call f : ℕ) → f < s.pool.count → parent_page s call f < s.pool.pages
  unfolding parent_page
  parent-below call f l =
      let n : 0 < s.pool.pages = omega (arith, kept.sized.some) in
      pick-either (λ (p : ℕ). p < s.pool.pages) _ _ _ (pick-either (λ (p : ℕ). p < s.pool.pages) _ _ _ (kept.agreed.in_range f (omega (arith, kept.sized.most))).page n) n

  no-parent-page : (call f : ℕ) → call ≢ 5 → parent_page s call f ≡ 0
  unfolding parent_page
  no-parent-page call f n = sym (pick_no _ (ne_eqb call 5 n) refl)

  ranges : InRanges s (drawn_entry s g)
  unfolding fields_from bytes_from
  ranges =
      let l = kept.sized in
      record {
        size = refl;
        call = (let m : number_after g.number % 9 < 9 = mod-lt (number_after g.number) (omega arith) in (omega arith, omega arith));
        frame = mod-lt _ (omega (arith, l.least));
        page = rw (two_bytes (drawn_fields s g).page.0) (mod-lt _ (omega (arith, l.some)));
        slot = mod-lt _ (omega arith);
        offset = (let n = (drawn_fields s g).generator.number in let m : n % 193 < 193 = mod-lt n (omega arith) in omega arith);
        empty = refl;
        parent = rw (two_bytes (parent_page s (drawn_fields s g).call (drawn_fields s g).frame.0)) (parent-below _ _ (mod-lt _ (omega (arith, l.least))));
        rest = refl;
        others = λ n. ap (λ (p : ℕ). p % byte_radix ∷ p / byte_radix ∷ replicate 7 0) (no-parent-page (drawn_fields s g).call (drawn_fields s g).frame.0 n);
      }

  pub in-ranges : InRanges s (drawn_out s g).entry
  in-ranges = subst (λ (d : Drawn). InRanges s d.entry) (sym accepted-record) ranges

  pub read_back : ReadBack s g (drawn_out s g).entry
  read_back = subst (λ (d : Drawn). ReadBack s g d.entry) (sym accepted-record) (fields_read s g)

-- refused or not, a record has 16 bytes
pub entry-size : (s : State) (g : Generator) → length (drawn_out s g).entry ≡ 16
unfolding drawn_out refused_draw
entry-size s g = elim (ℕ_discrete (first_broken (pool_rules s)) 0) [
  | yes z ↦ (in-ranges s g z).size
  | no z ↦ sym (ap (λ (d : Drawn). length d.entry) (verdict-no (refused_draw g) _ refl z))
]
