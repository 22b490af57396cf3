-- Chains followed one by one, and rows of them. Assumes nothing.
use Rattle.std.specs.Prelude.{ℕ, zero, suc, ◌+◌, ◌<◌, ◌≤◌, ◌≡◌, refl, Bool, true, false, List, length, get_or, set}
use Rattle.std.proofs.Common.{sym, ◌∙◌, arith, length-set}
use Rattle.std.proofs.Math.Decide.{ℕ_discrete}
use Rattle.page.specs.Figures.{most_frames}
use Rattle.rules.specs.TestLaws.{clash}
use Rattle.chains.specs.Chain.{directory_size, buckets, link_at}
use Rattle.chains.specs.Links.{Chained}
use Rattle.directory.specs.Pass.{met, Follows, follows-end, no-frame, stray, follows-step, awaited_count, awaited-met}

abbrev pub row_size : ℕ
row_size = 8

-- ---- chains b to c, the last one not among them: rule 2 asks before them what it asks after them, or isn't kept, and no more frames are awaited after them
pub record Passes (d w v : List ℕ) (b c : ℕ) (r : Bool) : Type 0 where
  pub size : length v ≡ length w
  pub fewer : awaited_count v ≤ awaited_count w
  pub on : r ≡ true → (home : ℕ → ℕ) → Follows home d w b b → Follows home d v c c
  pub off : r ≡ false → (home : ℕ → ℕ) → Follows home d w b b → Chained home d → ⊥

-- ---- along one chain, from its head to byte a, where x is

pub record Along (d w v : List ℕ) (b a x : ℕ) : Type 0 where
  pub inside : a < directory_size
  pub byte : x ≡ get_or d a 0
  pub size : length v ≡ length w
  pub fewer : awaited_count v ≤ awaited_count w
  pub keeps : (home : ℕ → ℕ) → Follows home d w b b → Follows home d v b a

pub along-start : (d w : List ℕ) (b x : ℕ) → b < buckets → x ≡ get_or d b 0 → Along d w w b b x
along-start d w b x l e = record { inside = omega arith; byte = e; size = refl; fewer = omega arith; keeps = λ home F. F }

module _ (d w v : List ℕ) (b a x : ℕ) (h : b < buckets) (A : Along d w v b a x) where
  pub along-end : x ≡ 0 → Passes d w v b (b + 1) true
  along-end z = record {
    size = A.size;
    fewer = A.fewer;
    on = λ e home F. follows-end home d v b a (A.keeps home F) h (sym A.byte ∙ z);
    off = λ e home F C. clash e;
  }

  module _ (f : ℕ) (s : x ≡ suc f) where
    leads : get_or d a 0 ≡ suc f
    leads = sym A.byte ∙ s

    pub along-beyond : most_frames ≤ f → Passes d w v b (b + 1) false
    along-beyond l = record {
      size = A.size;
      fewer = A.fewer;
      on = λ e home F. absurd (clash (sym e));
      off = λ e home F C. no-frame home d v b a (A.keeps home F) f h leads l C;
    }

    module _ (l : f < most_frames) (r : ℕ) (q : r ≡ get_or v f 0) where
      pub along-stray : (r ≡ b → ⊥) → Passes d w v b (b + 1) false
      along-stray n = record {
        size = A.size;
        fewer = A.fewer;
        on = λ e home F. absurd (clash (sym e));
        off = λ e home F C. stray home d v b a (A.keeps home F) f h leads l r q n C;
      }

      module _ (o : r ≡ b) (k : length w ≡ most_frames) where
        one_less : awaited_count v ≡ awaited_count (set v f met) + 1
        one_less = awaited-met v f (let n : length v ≡ length w = A.size in omega arith) (omega arith)

        pub along-step : (y : ℕ) → y ≡ get_or d (link_at f) 0 → Along d w (set v f met) b (link_at f) y
        along-step y e = record {
          inside = omega arith;
          byte = e;
          size = length-set v f met ∙ A.size;
          fewer = omega (arith, one_less, A.fewer);
          keeps = λ home F. follows-step home d v b a (A.keeps home F) f h leads l r q o;
        }

        pub along-fewer : awaited_count (set v f met) < awaited_count v
        along-fewer = omega (arith, one_less)

-- ---- chains without a frame

pub record Headless (d : List ℕ) (first n : ℕ) : Type 0 where
  pub each : (i : ℕ) → i < n → get_or d (first + i) 0 ≡ 0

pub record HeadlessTo (d : List ℕ) (first n : ℕ) (none : Bool) : Type 0 where
  pub most : n ≤ row_size
  pub zero : none ≡ true → Headless d first n

pub headless-none : (d : List ℕ) (first : ℕ) → HeadlessTo d first 0 true
headless-none d first = record { most = omega arith; zero = λ e. record { each = λ i l. absurd (omega arith) } }

module _ (d : List ℕ) (first n : ℕ) (none : Bool) (l : n < row_size) (H : HeadlessTo d first n none) where
  pub headless-more : (now : Bool) → get_or d (first + n) 0 ≡ 0 → now ≡ none → HeadlessTo d first (n + 1) now
  headless-more now z t = record {
    most = omega arith;
    zero = λ e. record { each = λ i k. elim (ℕ_discrete i n) [ yes y ↦ rw y z | no y ↦ (H.zero (sym t ∙ e)).each i (omega arith) ] };
  }

  pub headed : (now : Bool) → now ≡ false → HeadlessTo d first (n + 1) now
  headed now t = record { most = omega arith; zero = λ e. absurd (clash (sym e ∙ t)) }

pub headless-row : (d : List ℕ) (first n : ℕ) (none : Bool) → row_size ≤ n → HeadlessTo d first n none → none ≡ true → Headless d first row_size
headless-row d first n none l H e = record { each = λ i k. (H.zero e).each i (omega arith) }

follows-headless : (home : ℕ → ℕ) (d w : List ℕ) (first n : ℕ) → first + n ≤ buckets → Headless d first n → Follows home d w first first → Follows home d w (first + n) (first + n)
follows-headless home d w first zero l H F = let e : first + 0 ≡ first = omega arith in rw e F
follows-headless home d w first (suc n) l H F =
    let G : Follows home d w (first + n) (first + n) = follows-headless home d w first n (omega arith) (record { each = λ i k. H.each i (omega arith) }) F in
    let e : first + n + 1 ≡ first + suc n = omega arith in
    rw (← e) (follows-end home d w (first + n) (first + n) G (omega arith) (H.each n (omega arith)))

pub headless-passes : (d w : List ℕ) (first : ℕ) → first + row_size ≤ buckets → Headless d first row_size → Passes d w w first (first + row_size) true
headless-passes d w first l H = record {
  size = refl;
  fewer = omega arith;
  on = λ e home F. follows-headless home d w first row_size l H F;
  off = λ e home F C. clash e;
}

-- ---- one after the other

pub passes_none : (d w : List ℕ) (b : ℕ) → Passes d w w b b true
passes_none d w b = record { size = refl; fewer = omega arith; on = λ e home F. F; off = λ e home F C. clash e }

pub passes_at : (d w v : List ℕ) (b c e : ℕ) → c ≡ e → Passes d w v b c true → Passes d w v b e true
passes_at d w v b c e q P = rw (← q) P

module _ (d w v u : List ℕ) (b c e : ℕ) (r : Bool) (P : Passes d w v b c true) (Q : Passes d v u c e r) where
  pub passes-more : r ≡ true → Passes d w u b e true
  passes-more t = record {
    size = Q.size ∙ P.size;
    fewer = omega (arith, Q.fewer, P.fewer);
    on = λ q home F. Q.on t home (P.on refl home F);
    off = λ q home F C. clash q;
  }

  -- wherever the last chain is
  pub passes-no-more : r ≡ false → (g : ℕ) → Passes d w u b g false
  passes-no-more t g = record {
    size = Q.size ∙ P.size;
    fewer = omega (arith, Q.fewer, P.fewer);
    on = λ q home F. absurd (clash (sym q));
    off = λ q home F C. Q.off t home (P.on refl home F) C;
  }

-- ---- all rows, then the chains after them

module _ (home : ℕ → ℕ) (d w v : List ℕ) (b c : ℕ) (r : Bool) (F : Follows home d w b b) (P : Passes d w v b c r) where
  pub passes_kept : r ≡ true → Follows home d v c c
  passes_kept t = P.on t home F

  pub passes-refused : r ≡ false → Chained home d → ⊥
  passes-refused t C = P.off t home F C
