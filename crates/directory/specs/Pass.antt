-- One pass over the chains, by a table of the chain that each frame is still awaited in: 67 for a frame that belongs in none, `met` once it was met. What rule 2 asks is, at each turn, what it still asks from here. Assumes nothing.
use Rattle.std.specs.Prelude.{ℕ, zero, suc, ◌+◌, ◌<◌, ◌≤◌, ◌≡◌, refl, ◌≢◌, Bool, true, false, not, List, [], ◌∷◌, ltb, length, get_or, set}
use Rattle.std.proofs.Common.{sym, ◌∙◌, ap, arith, lt-ltb, le-ltb, length-set, get_or-set_same, get_or-set_other}
use Rattle.std.proofs.Math.Decide.{ℕ_discrete, dec_lt}
use Rattle.std.proofs.Math.ListN.{get_or-eq_default}
use Rattle.page.specs.Figures.{most_frames}
use Rattle.rules.specs.Tests.{pick}
use Rattle.rules.specs.TestLaws.{clash, pick_yes, pick_no, pick-either}
use Rattle.rules.specs.Deciding.{Decides}
use Rattle.chains.specs.Chain.{directory_size, buckets, link_at}
use Rattle.chains.proofs.ChainLaws.{in-none, in_head, in_tail, in_rest, in-apart, single-head, single-tail, single_more, chain-none, chain_more, chain-end, chain-step}
use Rattle.chains.specs.Links.{In, Single, Chain, Section, Chained}
use Rattle.chains.proofs.ChainFacts.{chained-ext}

-- more than 67 and a byte together
abbrev pub met : ℕ
met = 323

abbrev awaited_in : List ℕ → ℕ → ℕ
awaited_in w f = get_or w f buckets

-- ---- what is asked

-- from byte a of chain b on
pub record Asked (home : ℕ → ℕ) (d : List ℕ) (b a : ℕ) : Type 0 where
  pub here : b < buckets → Section home d b a
  pub later : (c : ℕ) → b < c → c < buckets → Section home d c c
  pub before : (f : ℕ) → b ≤ home f
  pub rest : (f : ℕ) → f < most_frames → home f ≡ buckets → get_or d (link_at f) 0 ≡ 0

module _ (home : ℕ → ℕ) (d : List ℕ) where
  -- ---- the start

  start_of : Chained home d → Asked home d 0 0
  start_of C = record {
    here = λ h. C.at 0 h;
    later = λ c l h. C.at c h;
    before = λ f. omega arith;
    rest = λ f l h. C.rest f l (omega arith);
  }

  of-start : ((f : ℕ) → home f ≤ buckets) → Asked home d 0 0 → Chained home d
  of-start most P = record {
    at = λ b h. elim (ℕ_discrete b 0) [ yes z ↦ rw z (P.here (omega arith)) | no z ↦ P.later b (omega arith) h ];
    rest = λ f l h. P.rest f l (let m : home f ≤ buckets = most f in omega arith);
  }

  -- ---- a chain ends: on to the next

  module _ (b a : ℕ) (hb : b < buckets) (ends : get_or d a 0 ≡ 0) where
    nothing : (S : Section home d b a) → (f : ℕ) → In f S.chain → ⊥
    nothing S f i = go S.chain S.links i
      where
        go : (l : List ℕ) → Chain d a l → In f l → ⊥
        go [] c i = in-none f i
        go (g ∷ l) c i = let e : get_or d a 0 ≡ suc g = (chain-step d a g l c).0 in omega arith

    end_of : Asked home d b a → Asked home d (b + 1) (b + 1)
    end_of P = record {
      here = λ h. P.later (b + 1) (omega arith) h;
      later = λ c l h. P.later c (omega arith) h;
      before = λ f. elim (ℕ_discrete (home f) b) [
        | yes e ↦ absurd (nothing (P.here hb) f ((P.here hb).all f e))
        | no e ↦ let l : b ≤ home f = P.before f in omega arith
      ];
      rest = P.rest;
    }

    of_end : Asked home d (b + 1) (b + 1) → Asked home d b a
    unfolding Single
    of_end P = record {
      here = λ h. record {
        chain = [];
        links = chain-none d a ends;
        single = tt;
        only = λ f i. absurd (in-none f i);
        all = λ f e. absurd (let l : b + 1 ≤ home f = P.before f in omega arith);
      };
      later = λ c l h. elim (ℕ_discrete c (b + 1)) [ yes z ↦ rw z (P.here (omega arith)) | no z ↦ P.later c (omega arith) h ];
      before = λ f. let l : b + 1 ≤ home f = P.before f in omega arith;
      rest = P.rest;
    }

  -- ---- a frame is met

  module _ (b a f : ℕ) (hb : b < buckets) (leads : get_or d a 0 ≡ suc f) where
    -- the first of the section is f
    first : (S : Section home d b a) → (l : List ℕ) × (S.chain ≡ f ∷ l)
    first S = go S.chain S.links
      where
        go : (l : List ℕ) → Chain d a l → (m : List ℕ) × (l ≡ f ∷ m)
        go [] c = absurd (let e : get_or d a 0 ≡ 0 = chain-end d a c in omega arith)
        go (g ∷ l) c = let e : get_or d a 0 ≡ suc g = (chain-step d a g l c).0 in let q : g ≡ f = omega arith in (l, rw q)

    -- it is awaited there
    step-home : Asked home d b a → home f ≡ b
    step-home P = let t = first (P.here hb) in (P.here hb).only f (rw t.1 (in_head f t.0))

    module _ (new : ℕ → ℕ) (awaited : home f ≡ b) (gone : new f ≡ met) (others : (g : ℕ) → g ≢ f → new g ≡ home g) where
      not-gone : (g c : ℕ) → new g ≡ c → c ≤ buckets → g ≢ f
      not-gone g c e l z = let q : new f ≡ c = rw z at e in omega arith

      other-chain : (g c : ℕ) → home g ≡ c → c ≢ b → g ≢ f
      other-chain g c e n z = n (sym e ∙ ap home z ∙ awaited)

      step_of : Asked home d b a → Asked new d b (link_at f)
      step_of P = record {
        here = λ h. rest_of (P.here h) (first (P.here h));
        later = λ c l h. let S = P.later c l h in record {
          chain = S.chain;
          links = S.links;
          single = S.single;
          only = λ g i. others g (other-chain g c (S.only g i) (λ z. omega arith)) ∙ S.only g i;
          all = λ g e. S.all g (sym (others g (not-gone g c e (omega arith))) ∙ e);
        };
        before = λ g. elim (ℕ_discrete g f) [ yes z ↦ rw (z, gone) (omega arith) | no z ↦ rw (others g z) (P.before g) ];
        rest = λ g l e. P.rest g l (sym (others g (not-gone g buckets e (omega arith))) ∙ e);
      }
        where
          rest_of : (S : Section home d b a) → (l : List ℕ) × (S.chain ≡ f ∷ l) → Section new d b (link_at f)
          rest_of S t =
              let l : List ℕ = t.0 in
              let s : Single (f ∷ l) = rw t.1 at S.single in
              record {
                chain = l;
                links = (chain-step d a f l (rw t.1 at S.links)).1;
                single = single-tail f l s;
                only = λ g i. others g (λ z. in-apart f l (rw z at i) (single-head f l s)) ∙ S.only g (rw t.1 (in_tail g f l i));
                all = λ g e. let n : g ≢ f = not-gone g b e (omega arith) in in_rest g f l (λ z. n (sym z)) (rw t.1 at (S.all g (sym (others g n) ∙ e)));
              }

      of-step : Asked new d b (link_at f) → Asked home d b a
      of-step P = record {
        here = λ h. let S = P.here h in record {
          chain = f ∷ S.chain;
          links = chain_more d a f S.chain leads S.links;
          single = single_more f S.chain (λ i. let e : new f ≡ b = S.only f i in omega arith) S.single;
          only = λ g i. elim (ℕ_discrete g f) [ yes z ↦ ap home z ∙ awaited | no z ↦ sym (others g z) ∙ S.only g (in_rest g f S.chain (λ y. z (sym y)) i) ];
          all = λ g e. elim (ℕ_discrete g f) [ yes z ↦ rw z (in_head f S.chain) | no z ↦ in_tail g f S.chain (S.all g (others g z ∙ e)) ];
        };
        later = λ c l h. let S = P.later c l h in record {
          chain = S.chain;
          links = S.links;
          single = S.single;
          only = λ g i. sym (others g (not-gone g c (S.only g i) (omega arith))) ∙ S.only g i;
          all = λ g e. S.all g (others g (other-chain g c e (λ z. omega arith)) ∙ e);
        };
        before = λ g. elim (ℕ_discrete g f) [ yes z ↦ rw (z, awaited) (omega arith) | no z ↦ rw (← others g z) (P.before g) ];
        rest = λ g l e. P.rest g l (others g (other-chain g buckets e (λ z. omega arith)) ∙ e);
      }

-- ---- the loop

-- each entry is a chain, 67, or `met`
abbrev pub Kinds : List ℕ → Type 0
Kinds w = (f : ℕ) → buckets < get_or w f 0 → get_or w f 0 ≡ met

pub record Follows (home : ℕ → ℕ) (d w : List ℕ) (b a : ℕ) : Type 0 where
  pub chains : b ≤ buckets
  pub inside : a < directory_size
  pub size : length w ≡ most_frames
  pub kinds : Kinds w
  pub ahead : Chained home d → Asked (awaited_in w) d b a
  pub back : Asked (awaited_in w) d b a → Chained home d

-- 1 for the entry of a frame that is awaited
abbrev awaited_one : ℕ → ℕ
awaited_one x = pick (ltb x buckets) 1 0

-- How many frames are awaited. Each turn along a chain takes one off, so that all chains together take no more turns than this, and no more than there are frames.
unfoldable pub awaited_count : List ℕ → ℕ
awaited_count [] = 0
awaited_count (x ∷ w) = awaited_one x + awaited_count w

pub awaited-most : (w : List ℕ) → awaited_count w ≤ length w
unfolding awaited_count
awaited-most [] = omega arith
awaited-most (x ∷ w) =
    let one : awaited_one x ≤ 1 = pick-either (λ (n : ℕ). n ≤ 1) (ltb x buckets) 1 0 (omega arith) (omega arith) in
    let more : awaited_count w ≤ length w = awaited-most w in
    omega arith

pub awaited-met : (w : List ℕ) (f : ℕ) → f < length w → get_or w f 0 < buckets → awaited_count w ≡ awaited_count (set w f met) + 1
unfolding awaited_count
awaited-met [] f l h = absurd (omega arith)
awaited-met (x ∷ w) zero l h =
    let one : awaited_one x ≡ 1 = sym (pick_yes 0 (lt-ltb x buckets h) refl) in
    let none : awaited_one met ≡ 0 = sym (pick_no 1 (le-ltb met buckets (omega arith)) refl) in
    omega arith
awaited-met (x ∷ w) (suc f) l h = let q : awaited_count w ≡ awaited_count (set w f met) + 1 = awaited-met w f (omega arith) h in omega arith

-- an entry, whatever is said of those outside
entry-any : (w : List ℕ) (f x y : ℕ) → f < length w → get_or w f x ≡ get_or w f y
entry-any [] f x y l = absurd (omega arith)
entry-any (z ∷ w) zero x y l = refl
entry-any (z ∷ w) (suc f) x y l = entry-any w f x y (omega arith)

-- the table at the start: the chain of each frame
pub record HomeTable (home : ℕ → ℕ) (w : List ℕ) : Type 0 where
  pub size : length w ≡ most_frames
  pub right : (f : ℕ) → f < most_frames → get_or w f 0 ≡ home f

module _ (home : ℕ → ℕ) (most : (f : ℕ) → home f ≤ buckets) (beyond : (f : ℕ) → most_frames ≤ f → home f ≡ buckets) (d w : List ℕ) (H : HomeTable home w) where
  homes-are : (f : ℕ) → awaited_in w f ≡ home f
  homes-are f = elim (dec_lt f most_frames) [
    | yes l ↦ entry-any w f buckets 0 (let s : length w ≡ most_frames = H.size in omega arith) ∙ H.right f l
    | no l ↦ get_or-eq_default w buckets (let s : length w ≡ most_frames = H.size in omega arith) ∙ sym (beyond f (omega arith))
  ]

  pub follows-start : Follows home d w 0 0
  follows-start = record {
    chains = omega arith;
    inside = omega arith;
    size = H.size;
    kinds = λ f l. elim (dec_lt f most_frames) [
      | yes h ↦ absurd (let e : get_or w f 0 ≡ home f = H.right f h in let m : home f ≤ buckets = most f in omega arith)
      | no h ↦ absurd (let e : get_or w f 0 ≡ 0 = get_or-eq_default w 0 (let s : length w ≡ most_frames = H.size in omega arith) in omega arith)
    ];
    ahead = λ C. start_of (awaited_in w) d (chained-ext home (awaited_in w) d homes-are C);
    back = λ P. chained-ext (awaited_in w) home d (λ f. sym (homes-are f)) (of-start (awaited_in w) d (λ f. rw (homes-are f) (most f)) P);
  }

module _ (home : ℕ → ℕ) (d w : List ℕ) (b a : ℕ) (G : Follows home d w b a) where
  pub follows-end : b < buckets → get_or d a 0 ≡ 0 → Follows home d w (b + 1) (b + 1)
  follows-end h e = record {
    chains = omega arith;
    inside = omega arith;
    size = G.size;
    kinds = G.kinds;
    ahead = λ C. end_of (awaited_in w) d b a h e (G.ahead C);
    back = λ P. G.back (of_end (awaited_in w) d b a h e P);
  }

  in-table : (f : ℕ) → f < most_frames → f < length w
  in-table f l = let s : length w ≡ most_frames = G.size in omega arith

  module _ (f : ℕ) (h : b < buckets) (e : get_or d a 0 ≡ suc f) where
    -- a byte above 64
    pub no-frame : most_frames ≤ f → Chained home d → ⊥
    no-frame l C =
        let o : awaited_in w f ≡ b = step-home (awaited_in w) d b a f h e (G.ahead C) in
        let n : awaited_in w f ≡ buckets = get_or-eq_default w buckets (let s : length w ≡ most_frames = G.size in omega arith) in
        omega arith

    module _ (l : f < most_frames) where
      same-entry : awaited_in w f ≡ get_or w f 0
      same-entry = entry-any w f buckets 0 (in-table f l)

      -- the frame isn't awaited there: it belongs elsewhere, or was met before
      pub stray : (r : ℕ) → r ≡ get_or w f 0 → r ≢ b → Chained home d → ⊥
      stray r q n C = n (q ∙ sym same-entry ∙ step-home (awaited_in w) d b a f h e (G.ahead C))

      module _ (r : ℕ) (q : r ≡ get_or w f 0) (o : r ≡ b) where
        pub follows-step : Follows home d (set w f met) b (link_at f)
        follows-step = record {
          chains = G.chains;
          inside = omega arith;
          size = length-set w f met ∙ G.size;
          kinds = λ g k. elim (ℕ_discrete g f) [
            | yes z ↦ rw z (get_or-set_same w f met 0 (in-table f l))
            | no z ↦ get_or-set_other w f g met 0 z ∙ G.kinds g (rw (get_or-set_other w f g met 0 z) at k)
          ];
          ahead = λ C. step_of (awaited_in w) d b a f h e (awaited_in (set w f met)) awaited gone others (G.ahead C);
          back = λ P. G.back (of-step (awaited_in w) d b a f h e (awaited_in (set w f met)) awaited gone others P);
        }
          where
            awaited : awaited_in w f ≡ b
            awaited = same-entry ∙ sym q ∙ o

            gone : awaited_in (set w f met) f ≡ met
            gone = get_or-set_same w f met buckets (in-table f l)

            others : (g : ℕ) → g ≢ f → awaited_in (set w f met) g ≡ awaited_in w g
            others g n = get_or-set_other w f g met buckets n

-- ---- all chains are passed: no frame is awaited, and one that belongs in none has 0

pub record Unawaited (w d : List ℕ) (f : ℕ) : Type 0 where
  pub none : buckets ≤ get_or w f 0
  pub zero : get_or w f 0 ≡ buckets → get_or d (link_at f) 0 ≡ 0

pub record NoneAwaited (w d : List ℕ) : Type 0 where
  pub each : (f : ℕ) → f < most_frames → Unawaited w d f

module _ (home : ℕ → ℕ) (d w : List ℕ) (b a : ℕ) (G : Follows home d w b a) (z : buckets ≤ b) where
  last-chain : b ≡ buckets
  last-chain = let l : b ≤ buckets = G.chains in omega arith

  entry_in : (f : ℕ) → f < most_frames → awaited_in w f ≡ get_or w f 0
  entry_in f l = entry-any w f buckets 0 (let s : length w ≡ most_frames = G.size in omega arith)

  pub follows-left : Chained home d → NoneAwaited w d
  follows-left C = let P = G.ahead C in record {
    each = λ f l. record {
      none = let k : b ≤ awaited_in w f = P.before f in let e : awaited_in w f ≡ get_or w f 0 = entry_in f l in omega arith;
      zero = λ q. P.rest f l (entry_in f l ∙ q);
    };
  }

  pub follows-done : NoneAwaited w d → Chained home d
  follows-done N = G.back (record {
    here = λ h. absurd (omega arith);
    later = λ c l h. absurd (omega arith);
    before = λ f. elim (dec_lt f most_frames) [
      | yes l ↦ let k : buckets ≤ get_or w f 0 = (N.each f l).none in let e : awaited_in w f ≡ get_or w f 0 = entry_in f l in let t : b ≡ buckets = last-chain in omega arith
      | no l ↦ let e : awaited_in w f ≡ buckets = get_or-eq_default w buckets (let s : length w ≡ most_frames = G.size in omega arith) in let t : b ≡ buckets = last-chain in omega arith
    ];
    rest = λ f l e. (N.each f l).zero (sym (entry_in f l) ∙ e);
  })

-- ---- the frames one after the other, side by side

pub record LeftTo (w d : List ℕ) (n : ℕ) (hit : Bool) : Type 0 where
  pub clear : hit ≡ false → (f : ℕ) → f < n → Unawaited w d f
  pub amiss : hit ≡ true → NoneAwaited w d → ⊥

pub left-start : (w d : List ℕ) → LeftTo w d 0 false
left-start w d = record { clear = λ e f l. absurd (omega arith); amiss = λ e N. clash (sym e) }

-- x is the least that a frame's entry may be beside its link
module _ (w d : List ℕ) (n : ℕ) (hit : Bool) (L : LeftTo w d n hit) (l : n < most_frames) (kinds : Kinds w) (x : ℕ) (is : x ≡ buckets + get_or d (link_at n) 0) (small : x < met) where
  pub left-amiss : (now : Bool) → get_or w n 0 < x → now ≡ true → LeftTo w d (n + 1) now
  left-amiss now h t = record {
    clear = λ e f k. absurd (clash (sym t ∙ e));
    amiss = λ e N.
        let S = N.each n l in
        let a : buckets ≤ get_or w n 0 = S.none in
        elim (ℕ_discrete (get_or w n 0) buckets) [
          | yes q ↦ let y : get_or d (link_at n) 0 ≡ 0 = S.zero q in omega arith
          | no q ↦ let m : get_or w n 0 ≡ met = kinds n (omega arith) in omega arith
        ];
  }

  pub left-unawaited : (now : Bool) → x ≤ get_or w n 0 → now ≡ hit → LeftTo w d (n + 1) now
  left-unawaited now h t = record {
    clear = λ e f k. elim (ℕ_discrete f n) [
      | yes z ↦ rw z (record { none = omega arith; zero = λ q. omega arith })
      | no z ↦ L.clear (sym t ∙ e) f (omega arith)
    ];
    amiss = λ e. L.amiss (sym t ∙ e);
  }

pub left-all : (w d : List ℕ) (n : ℕ) (hit : Bool) → most_frames ≤ n → LeftTo w d n hit → Decides (not hit) (NoneAwaited w d)
left-all w d n true l L = L.amiss refl
left-all w d n false l L = record { each = λ f h. L.clear refl f (omega arith) }
