-- Laws of lists of frames, and of the links of the directory that lead through one. Assumes nothing.
use Prim.Native.Nat.{ℕ, zero, suc, ◌+◌, ◌≤◌, ◌<◌}
use Rattle.std.specs.Prelude.{◌≡◌, ◌≢◌, ◌⊎◌, Bool, true, not, eqb, set}
use Rattle.std.proofs.Math.Path.{refl, sym, ap, subst}
use Rattle.std.proofs.Common.{◌∙◌, inl, inr, eq-eqb, ne_eqb, length-set}
use mathlib.Core.List.{List, ◌∷◌, ◌++◌, []}
use native.Mathlib.Omega.{arith}
use Rattle.std.proofs.Math.Decide.{ℕ_discrete}
use Rattle.std.proofs.lemmas.Bool.{not-true}
use Rattle.std.proofs.Math.ListN.{length, get_or}
use Rattle.std.proofs.Math.Seq.{get_or-set_same, get_or-set_other}
use Rattle.page.specs.Figures.{most_frames}
use Rattle.rules.specs.TestLaws.{clash, case, on, off, is-off, both, and-true, or_left, or_right, or-second, pick_yes, pick_no, pick-either}
use Rattle.chains.specs.Chain.{directory_size, buckets, link_at, entry_of, chain_from, has, each_of, once, entered, taken_from, Sought, seek_in, tally}
use Rattle.chains.specs.Links.{In, Apart, Single, dropped, Chain}
use Rattle.chains.proofs.FrameTally.{tally-le, tally-on, tally-more}

-- ---- lists of frames

pub in-apart : (e : ℕ) (l : List ℕ) → In e l → Apart e l → ⊥
unfolding In Apart
in-apart e [] i p = i
in-apart e (f ∷ l) (inl z) p = p.0 (sym z)
in-apart e (f ∷ l) (inr i) p = in-apart e l i p.1

pub apart_of : (e : ℕ) (l : List ℕ) → (In e l → ⊥) → Apart e l
unfolding In Apart
apart_of e [] n = tt
apart_of e (f ∷ l) n = (λ z. n (inl (sym z)), apart_of e l (λ i. n (inr i)))

pub in_head : (f : ℕ) (l : List ℕ) → In f (f ∷ l)
unfolding In
in_head f l = inl refl

pub in_tail : (e f : ℕ) (l : List ℕ) → In e l → In e (f ∷ l)
unfolding In
in_tail e f l i = inr i

pub in-none : (e : ℕ) → In e [] → ⊥
unfolding In
in-none e i = i

pub in_rest : (e f : ℕ) (l : List ℕ) → f ≢ e → In e (f ∷ l) → In e l
unfolding In
in_rest e f l n (inl z) = absurd (n z)
in_rest e f l n (inr i) = i

pub single-head : (f : ℕ) (l : List ℕ) → Single (f ∷ l) → Apart f l
unfolding Single
single-head f l s = s.0

pub single-tail : (f : ℕ) (l : List ℕ) → Single (f ∷ l) → Single l
unfolding Single
single-tail f l s = s.1

pub single_more : (f : ℕ) (l : List ℕ) → (In f l → ⊥) → Single l → Single (f ∷ l)
unfolding Single
single_more f l n s = (apart_of f l n, s)

-- ---- as tests

pub has_in : (e : ℕ) (l : List ℕ) → has e l ≡ true → In e l
unfolding has In
has_in e [] t = absurd (clash (sym t))
has_in e (f ∷ l) t = elim (ℕ_discrete f e) [ yes z ↦ inl z | no z ↦ inr (has_in e l (or-second (eqb f e) _ t (ne_eqb f e z))) ]

pub in-has : (e : ℕ) (l : List ℕ) → In e l → has e l ≡ true
unfolding has In
in-has e [] i = absurd i
in-has e (f ∷ l) (inl z) = or_left _ (eq-eqb f e z)
in-has e (f ∷ l) (inr i) = or_right (eqb f e) (in-has e l i)

pub each_in : (t : ℕ → Bool) (l : List ℕ) → each_of t l ≡ true → (f : ℕ) → In f l → t f ≡ true
unfolding each_of In
each_in t [] e f i = absurd i
each_in t (g ∷ l) e f (inl z) = rw z at (and-true (t g) _ e).0
each_in t (g ∷ l) e f (inr i) = each_in t l (and-true (t g) _ e).1 f i

pub in-each : (t : ℕ → Bool) (l : List ℕ) → ((f : ℕ) → In f l → t f ≡ true) → each_of t l ≡ true
unfolding each_of In
in-each t [] h = refl
in-each t (g ∷ l) h = both (t g) _ (h g (inl refl)) (in-each t l (λ f i. h f (inr i)))

pub once-single : (l : List ℕ) → once l ≡ true → Single l
unfolding once Single
once-single [] e = tt
once-single (f ∷ l) e =
    let a = and-true (not (has f l)) (once l) e in
    (apart_of f l (λ i. clash (sym (in-has f l i) ∙ not-true _ a.0)), once-single l a.1)

pub single-once : (l : List ℕ) → Single l → once l ≡ true
unfolding once Single
single-once [] s = refl
single-once (f ∷ l) s = both (not (has f l)) (once l) (ap not (is-off (has f l) (λ e. in-apart f l (has_in f l e) s.0))) (single-once l s.1)

-- ---- a list without one of its frames

dropped-none : (e : ℕ) → dropped e [] ≡ []
unfolding dropped
dropped-none e = refl

dropped-here : (e f : ℕ) (l : List ℕ) → f ≡ e → dropped e (f ∷ l) ≡ l
unfolding dropped
dropped-here e f l z = sym (pick_yes _ (eq-eqb f e z) refl)

dropped-on : (e f : ℕ) (l : List ℕ) → f ≢ e → dropped e (f ∷ l) ≡ f ∷ dropped e l
unfolding dropped
dropped-on e f l z = sym (pick_no _ (ne_eqb f e z) refl)

pub in-dropped : (e : ℕ) (l : List ℕ) → Single l → (g : ℕ) → In g (dropped e l) → In g l × (g ≢ e)
unfolding In Single
in-dropped e [] s g i = absurd (none i)
  where
    none : In g (dropped e []) → ⊥
    none j = in-none g (rw (dropped-none e) at j)
in-dropped e (f ∷ l) s g i = elim (ℕ_discrete f e) [
  | yes z ↦
      let j : In g l = rw (dropped-here e f l z) at i in
      (inr j, λ y. in-apart f l (let q : g ≡ f = y ∙ sym z in rw q at j) s.0)
  | no z ↦ other z (λ j. in-dropped e l s.1 g j) (rw (dropped-on e f l z) at i)
]
  where
    other : f ≢ e → (In g (dropped e l) → In g l × (g ≢ e)) → (f ≡ g) ⊎ In g (dropped e l) → ((f ≡ g) ⊎ In g l) × (g ≢ e)
    other z r (inl y) = (inl y, λ x. z (y ∙ x))
    other z r (inr j) = (inr (r j).0, (r j).1)

pub dropped-in : (e : ℕ) (l : List ℕ) (g : ℕ) → g ≢ e → In g l → In g (dropped e l)
unfolding In
dropped-in e [] g n i = absurd i
dropped-in e (f ∷ l) g n i = elim (ℕ_discrete f e) [
  | yes z ↦ rw (dropped-here e f l z) (in_rest g f l (λ y. n (sym y ∙ z)) i)
  | no z ↦ rw (dropped-on e f l z) (other (λ j. dropped-in e l g n j) i)
]
  where
    other : (In g l → In g (dropped e l)) → (f ≡ g) ⊎ In g l → (f ≡ g) ⊎ In g (dropped e l)
    other r (inl y) = inl y
    other r (inr j) = inr (r j)

pub single-dropped : (e : ℕ) (l : List ℕ) → Single l → Single (dropped e l)
unfolding Single
single-dropped e [] s = rw (dropped-none e) s
single-dropped e (f ∷ l) s = elim (ℕ_discrete f e) [
  | yes z ↦ rw (dropped-here e f l z) s.1
  | no z ↦ rw (dropped-on e f l z) (apart_of f (dropped e l) (λ i. in-apart f l (in-dropped e l s.1 f i).0 s.0), single-dropped e l s.1)
]

length-dropped : (e : ℕ) (l : List ℕ) → In e l → length l ≡ suc (length (dropped e l))
unfolding In
length-dropped e [] i = absurd i
length-dropped e (f ∷ l) i = elim (ℕ_discrete f e) [
  | yes z ↦ rw (dropped-here e f l z)
  | no z ↦ rw (dropped-on e f l z) (ap suc (length-dropped e l (in_rest e f l z i)))
]

-- ---- how many there are: no more than pass the test that all of them pass

pub single-few : (n : ℕ) (t : ℕ → Bool) (l : List ℕ) → Single l → ((f : ℕ) → In f l → (f < n) × (t f ≡ true)) → length l ≤ tally n t
single-few zero t [] s h = omega arith
single-few zero t (f ∷ l) s h = absurd (let q : f < 0 = (h f (in_head f l)).0 in omega arith)
single-few (suc n) t l s h = elim (case (has n l)) [
  | on e ↦
      let i : In n l = has_in n l e in
      let r : length (dropped n l) ≤ tally n t = single-few n t (dropped n l) (single-dropped n l s)
      (λ f j. let w = in-dropped n l s f j in let a = h f w.0 in let q : f < suc n = a.0 in let m : f ≢ n = w.1 in (omega arith, a.1)) in
      let x : length l ≡ suc (length (dropped n l)) = length-dropped n l i in
      let y : tally (suc n) t ≡ suc (tally n t) = tally-on n t (h n i).1 in
      omega arith
  | off e ↦
      let r : length l ≤ tally n t = single-few n t l s
      (λ f j. let a = h f j in let q : f < suc n = a.0 in let m : f ≢ n = λ z. clash (sym (in-has n l (rw z at j)) ∙ e) in (omega arith, a.1)) in
      let y : tally n t ≤ tally (suc n) t = tally-more n t in
      omega arith
]

pub single-most : (n : ℕ) (l : List ℕ) → Single l → ((f : ℕ) → In f l → f < n) → length l ≤ n
single-most n l s h =
    let a : length l ≤ tally n (λ f. true) = single-few n (λ f. true) l s (λ f i. (h f i, refl)) in
    let b : tally n (λ f. true) ≤ n = tally-le n (λ f. true) in
    omega arith

-- ---- chains

pub chain-none : (d : List ℕ) (a : ℕ) → get_or d a 0 ≡ 0 → Chain d a []
unfolding Chain
chain-none d a e = e

pub chain_more : (d : List ℕ) (a f : ℕ) (l : List ℕ) → get_or d a 0 ≡ suc f → Chain d (link_at f) l → Chain d a (f ∷ l)
unfolding Chain
chain_more d a f l e c = (e, c)

pub chain-end : (d : List ℕ) (a : ℕ) → Chain d a [] → get_or d a 0 ≡ 0
unfolding Chain
chain-end d a c = c

pub chain-step : (d : List ℕ) (a f : ℕ) (l : List ℕ) → Chain d a (f ∷ l) → (get_or d a 0 ≡ suc f) × Chain d (link_at f) l
unfolding Chain
chain-step d a f l c = c

-- the walk is through that list, and a walk that ends is through a chain
pub chain-list : (d : List ℕ) (n a : ℕ) (l : List ℕ) → length l ≤ n → Chain d a l → chain_from d n a ≡ l
unfolding chain_from Chain
chain-list d zero a [] h c = refl
chain-list d zero a (f ∷ l) h c = absurd (omega arith)
chain-list d (suc n) a [] h c = sym (pick_yes _ (eq-eqb _ 0 c) refl)
chain-list d (suc n) a (f ∷ l) h c =
    let e : entry_of (get_or d a 0) ≡ f = omega (arith, c.0) in
    let some : get_or d a 0 ≢ 0 = λ z. omega (arith, c.0) in
    sym (pick_no _ (ne_eqb (get_or d a 0) 0 some) (rw (e, chain-list d n (link_at f) l (omega arith) c.1) refl))

pub list-chain : (d : List ℕ) (n a : ℕ) → length (chain_from d n a) < n → Chain d a (chain_from d n a)
unfolding chain_from Chain
list-chain d zero a h = absurd (omega arith)
list-chain d (suc n) a h = elim (ℕ_discrete (get_or d a 0) 0) [
  | yes z ↦ rw (← here z) z
  | no z ↦
      let l : length (entry_of (get_or d a 0) ∷ chain_from d n (link_at (entry_of (get_or d a 0)))) < suc n = rw (← on-it z) at h in
      rw (← on-it z) (omega arith, list-chain d n (link_at (entry_of (get_or d a 0))) (omega arith))
]
  where
    here : get_or d a 0 ≡ 0 → [] ≡ chain_from d (suc n) a
    here z = pick_yes _ (eq-eqb _ 0 z) refl

    on-it : get_or d a 0 ≢ 0 → (entry_of (get_or d a 0) ∷ chain_from d n (link_at (entry_of (get_or d a 0)))) ≡ chain_from d (suc n) a
    on-it z = pick_no _ (ne_eqb _ 0 z) refl

-- the bytes of its links decide
pub chain-kept : (d x : List ℕ) (a : ℕ) (l : List ℕ) → get_or x a 0 ≡ get_or d a 0 → ((f : ℕ) → In f l → get_or x (link_at f) 0 ≡ get_or d (link_at f) 0) → Chain d a l → Chain x a l
unfolding Chain In
chain-kept d x a [] e h c = e ∙ c
chain-kept d x a (f ∷ l) e h c = (e ∙ c.0, chain-kept d x (link_at f) l (h f (inl refl)) (λ g i. h g (inr i)) c.1)

-- a byte that is no link of the chain may be set
chain-other : (d : List ℕ) (x y a : ℕ) (l : List ℕ) → a ≢ x → ((f : ℕ) → x ≡ link_at f → Apart f l) → Chain d a l → Chain (set d x y) a l
unfolding Chain Apart
chain-other d x y a [] n p c = get_or-set_other d x a y 0 n ∙ c
chain-other d x y a (f ∷ l) n p c = (get_or-set_other d x a y 0 n ∙ c.0, chain-other d x y (link_at f) l (λ z. (p f (sym z)).0 refl) (λ g e. (p g e).1) c.1)

-- the same links from another byte that holds the same
chain-from : (d : List ℕ) (a b : ℕ) (l : List ℕ) → get_or d b 0 ≡ get_or d a 0 → Chain d a l → Chain d b l
unfolding Chain
chain-from d a b [] e c = e ∙ c
chain-from d a b (f ∷ l) e c = (e ∙ c.0, c.1)

-- ---- a load: frame e, in no chain, comes to the head of chain b

module _ (d : List ℕ) (size : length d ≡ directory_size) (b e : ℕ) (hb : b < buckets) (he : e < most_frames) where
  abbrev between : List ℕ
  between = set d (link_at e) (get_or d b 0)

  lifted : (a : ℕ) (l : List ℕ) → a ≢ link_at e → a ≢ b → Apart e l → Chain d a l → Chain (entered d b e) a l
  unfolding entered
  lifted a l n m p c = chain-other between b (suc e) a l m (λ f z. absurd (omega arith)) (chain-other d (link_at e) (get_or d b 0) a l n (λ f z. let q : f ≡ e = omega arith in rw q p) c)

  pub enter-head : (l : List ℕ) → Apart e l → Chain d b l → Chain (entered d b e) b (e ∷ l)
  unfolding entered Chain Apart
  enter-head l p c = (
    get_or-set_same between b (suc e) 0 (rw (length-set d (link_at e) (get_or d b 0)) (omega arith)),
    chain-other between b (suc e) (link_at e) l (λ z. omega arith) (λ f z. absurd (omega arith)) (linked l p c),
  )
    where
      link : get_or between (link_at e) 0 ≡ get_or d b 0
      link = get_or-set_same d (link_at e) (get_or d b 0) 0 (omega arith)

      linked : (l : List ℕ) → Apart e l → Chain d b l → Chain between (link_at e) l
      linked [] p c = link ∙ c
      linked (f ∷ l) p c = (link ∙ c.0, chain-other d (link_at e) (get_or d b 0) (link_at f) l (λ z. p.0 (omega arith)) (λ g z. let q : g ≡ e = omega arith in rw q p.1) c.1)

  -- every other chain stays
  pub enter-other : (a : ℕ) (l : List ℕ) → a < buckets → a ≢ b → Apart e l → Chain d a l → Chain (entered d b e) a l
  enter-other a l h n p c = lifted a l (λ z. omega arith) n p c

-- ---- an eviction: frame e leaves the chain that it stands in

-- what a chain is after the link at its start was set past e
module _ (d : List ℕ) (size : length d ≡ directory_size) (e : ℕ) (he : e < most_frames) where
  abbrev past : ℕ → List ℕ
  past a = set (set d a (get_or d (link_at e) 0)) (link_at e) 0

  past-here : (a : ℕ) (l : List ℕ) → a < directory_size → a ≢ link_at e → ((f : ℕ) → a ≡ link_at f → Apart f l) → Apart e l → Chain d (link_at e) l → Chain (past a) a l
  past-here a l ha n p q c = chain-other (set d a (get_or d (link_at e) 0)) (link_at e) 0 a l n (λ f z. let y : f ≡ e = omega arith in rw y q) (same l p c)
    where
      here : get_or (set d a (get_or d (link_at e) 0)) a 0 ≡ get_or d (link_at e) 0
      here = get_or-set_same d a (get_or d (link_at e) 0) 0 (omega arith)

      same : (l : List ℕ) → ((f : ℕ) → a ≡ link_at f → Apart f l) → Chain d (link_at e) l → Chain (set d a (get_or d (link_at e) 0)) a l
      same l p c = chain-from (set d a (get_or d (link_at e) 0)) (link_at e) a l (here ∙ sym (get_or-set_other d a (link_at e) (get_or d (link_at e) 0) 0 (λ z. n (sym z))))
          (chain-other d a (get_or d (link_at e) 0) (link_at e) l (λ z. n (sym z)) p c)

module _ (d : List ℕ) (size : length d ≡ directory_size) (e : ℕ) (he : e < most_frames) where
  taken_here : (n a : ℕ) → get_or d a 0 ≡ suc e → taken_from d e (suc n) a ≡ past d size e he a
  unfolding taken_from
  taken_here n a g = sym (pick_no _ (ne_eqb (get_or d a 0) 0 (λ z. omega arith)) (pick_yes _ (eq-eqb _ (suc e) g) refl))

  taken-on : (n a f : ℕ) → get_or d a 0 ≡ suc f → f ≢ e → taken_from d e (suc n) a ≡ taken_from d e n (link_at f)
  unfolding taken_from
  taken-on n a f g x =
      let h : link_at (entry_of (get_or d a 0)) ≡ link_at f = omega arith in
      sym (pick_no _ (ne_eqb (get_or d a 0) 0 (λ z. omega arith)) (pick_no _ (ne_eqb _ (suc e) (λ z. x (omega arith))) (ap (taken_from d e n) (sym h))))

  -- a byte that is no link of this chain is kept
  pub taken-keeps : (n a x : ℕ) (l : List ℕ) → length l ≤ n → Chain d a l → In e l → x ≢ a → x ≢ link_at e → ((f : ℕ) → x ≡ link_at f → Apart f l) → get_or (taken_from d e n a) x 0 ≡ get_or d x 0
  unfolding Chain In Apart
  taken-keeps n a x [] h c i p q r = absurd i
  taken-keeps zero a x (f ∷ l) h c i p q r = absurd (omega arith)
  taken-keeps (suc n) a x (f ∷ l) h c i p q r = elim (ℕ_discrete f e) [
    | yes z ↦ ap (λ (t : List ℕ). get_or t x 0) (taken_here n a (c.0 ∙ ap suc z)) ∙ get_or-set_other (set d a (get_or d (link_at e) 0)) (link_at e) x 0 0 q ∙ get_or-set_other d a x (get_or d (link_at e) 0) 0 p
    | no z ↦ ap (λ (t : List ℕ). get_or t x 0) (taken-on n a f c.0 z) ∙ taken-keeps n (link_at f) x l (omega arith) c.1 (rest z i) (λ y. (r f y).0 refl) q (λ g y. (r g y).1)
  ]
    where
      rest : f ≢ e → (f ≡ e) ⊎ In e l → In e l
      rest z (inl y) = absurd (z y)
      rest z (inr y) = y

  -- afterwards the links lead through the chain without e
  pub taken-chain : (n a : ℕ) (l : List ℕ) → length l ≤ n → a < directory_size → ((f : ℕ) → In f l → f < most_frames) → ((f : ℕ) → a ≡ link_at f → Apart f l) → Single l → In e l → Chain d a l
      → Chain (taken_from d e n a) a (dropped e l)
  unfolding Chain In Apart Single
  taken-chain n a [] h ha b p t i c = absurd i
  taken-chain zero a (f ∷ l) h ha b p t i c = absurd (omega arith)
  taken-chain (suc n) a (f ∷ l) h ha b p t i c = elim (ℕ_discrete f e) [
    | yes z ↦ rw (dropped-here e f l z, taken_here n a (c.0 ∙ ap suc z))
        (past-here d size e he a l ha (λ y. (p e y).0 (sym z)) (λ g y. (p g y).1) (rw z at t.0) (rw z at c.1))
    | no z ↦
        let hf : f < most_frames = b f (inl refl) in
        let r = taken-chain n (link_at f) l (omega arith) (omega arith) (λ g y. b g (inr y)) (λ g y. let q : g ≡ f = omega arith in rw q t.0) t.1 (rest z i) c.1 in
        let k = taken-keeps n (link_at f) a l (omega arith) c.1 (rest z i) (λ y. (p f y).0 refl) (λ y. alone z i y) (λ g y. (p g y).1) ∙ c.0 in
        rw (dropped-on e f l z) (subst (λ (u : List ℕ). Chain u a (f ∷ dropped e l)) (sym (taken-on n a f c.0 z)) (k, r))
  ]
    where
      rest : f ≢ e → (f ≡ e) ⊎ In e l → In e l
      rest z (inl y) = absurd (z y)
      rest z (inr y) = y

      -- a is no link of e, which stands in l
      alone : f ≢ e → (f ≡ e) ⊎ In e l → a ≡ link_at e → ⊥
      alone z i y = in-apart e l (rest z i) (p e y).1

  -- the link of e is 0 afterwards
  pub taken-cleared : (n a : ℕ) (l : List ℕ) → length l ≤ n → Chain d a l → In e l → get_or (taken_from d e n a) (link_at e) 0 ≡ 0
  unfolding Chain In
  taken-cleared n a [] h c i = absurd i
  taken-cleared zero a (f ∷ l) h c i = absurd (omega arith)
  taken-cleared (suc n) a (f ∷ l) h c i = elim (ℕ_discrete f e) [
    | yes z ↦ ap (λ (t : List ℕ). get_or t (link_at e) 0) (taken_here n a (c.0 ∙ ap suc z))
        ∙ get_or-set_same (set d a (get_or d (link_at e) 0)) (link_at e) 0 0 (rw (length-set d a (get_or d (link_at e) 0)) (omega arith))
    | no z ↦ ap (λ (t : List ℕ). get_or t (link_at e) 0) (taken-on n a f c.0 z) ∙ taken-cleared n (link_at f) l (omega arith) c.1 (rest z i)
  ]
    where
      rest : f ≢ e → (f ≡ e) ⊎ In e l → In e l
      rest z (inl y) = absurd (z y)
      rest z (inr y) = y

pub taken-length : (d : List ℕ) (e n a : ℕ) → length (taken_from d e n a) ≡ length d
unfolding taken_from
taken-length d e zero a = refl
taken-length d e (suc n) a = pick-either (λ (t : List ℕ). length t ≡ length d) (eqb (get_or d a 0) 0) _ _ refl (pick-either (λ (t : List ℕ). length t ≡ length d) (eqb (get_or d a 0) (suc e)) _ _
    (length-set (set d a (get_or d (link_at e) 0)) (link_at e) 0 ∙ length-set d a (get_or d (link_at e) 0)) (taken-length d e n (link_at (entry_of (get_or d a 0)))))

pub entered-length : (d : List ℕ) (b e : ℕ) → length (entered d b e) ≡ length d
unfolding entered
entered-length d b e = length-set (set d (link_at e) (get_or d b 0)) b (suc e) ∙ length-set d (link_at e) (get_or d b 0)

-- ---- a search: the frame that has the page, where one of the chain has it and no other; F where none has it

module _ (page : ℕ → ℕ) (F q : ℕ) where
  seek_hit : (c f : ℕ) (l : List ℕ) → page f ≡ q → seek_in page F q c (f ∷ l) ≡ record { frame = f; compared = c + 1 }
  unfolding seek_in
  seek_hit c f l e = sym (pick_yes _ (eq-eqb (page f) q e) refl)

  seek-on : (c f : ℕ) (l : List ℕ) → page f ≢ q → seek_in page F q c (f ∷ l) ≡ seek_in page F q (c + 1) l
  unfolding seek_in
  seek-on c f l e = sym (pick_no _ (ne_eqb (page f) q e) refl)

  pub seek_found : (c f : ℕ) (l : List ℕ) → In f l → page f ≡ q → ((g : ℕ) → In g l → page g ≡ q → g ≡ f) → (seek_in page F q c l).frame ≡ f
  unfolding In
  seek_found c f [] i e u = absurd i
  seek_found c f (g ∷ l) i e u = elim (ℕ_discrete (page g) q) [
    | yes z ↦ ap (λ (t : Sought). t.frame) (seek_hit c g l z) ∙ u g (inl refl) z
    | no z ↦ ap (λ (t : Sought). t.frame) (seek-on c g l z) ∙ seek_found (c + 1) f l (in_rest f g l (λ y. z (ap page y ∙ e)) i) e (λ h j. u h (inr j))
  ]

  pub seek-none : (c : ℕ) (l : List ℕ) → ((g : ℕ) → In g l → page g ≢ q) → (seek_in page F q c l).frame ≡ F
  unfolding In seek_in
  seek-none c [] n = refl
  seek-none c (g ∷ l) n = ap (λ (t : Sought). t.frame) (seek-on c g l (n g (inl refl))) ∙ seek-none (c + 1) l (λ h j. n h (inr j))

  pub seek-compared : (c : ℕ) (l : List ℕ) → (seek_in page F q c l).compared ≤ c + length l
  unfolding seek_in
  seek-compared c [] = omega arith
  seek-compared c (f ∷ l) = elim (ℕ_discrete (page f) q) [
    | yes z ↦ let e : (seek_in page F q c (f ∷ l)).compared ≡ c + 1 = ap (λ (t : Sought). t.compared) (seek_hit c f l z) in omega arith
    | no z ↦
        let e : (seek_in page F q c (f ∷ l)).compared ≡ (seek_in page F q (c + 1) l).compared = ap (λ (t : Sought). t.compared) (seek-on c f l z) in
        let h : (seek_in page F q (c + 1) l).compared ≤ c + 1 + length l = seek-compared (c + 1) l in
        omega arith
  ]

  -- where a frame below F is found, it stands in the list after as many as were compared before it
  pub seek-place : (c : ℕ) (l : List ℕ) → (seek_in page F q c l).frame < F
      → (before after : List ℕ) × (l ≡ before ++ ((seek_in page F q c l).frame ∷ after)) × ((seek_in page F q c l).compared ≡ c + length before + 1)
  unfolding seek_in
  seek-place c [] h = absurd (omega arith)
  seek-place c (f ∷ l) h = elim (ℕ_discrete (page f) q) [
    | yes z ↦ rw (seek_hit c f l z) ([], l, refl, omega arith)
    | no z ↦
        let r = seek-place (c + 1) l (rw (seek-on c f l z) at h) in
        rw (seek-on c f l z) (f ∷ r.0, r.1, ap (λ (t : List ℕ). f ∷ t) r.2, omega (arith, r.3))
  ]

  -- where none has the page, all are compared
  pub seek-whole : (c : ℕ) (l : List ℕ) → ((g : ℕ) → In g l → page g ≢ q) → (seek_in page F q c l).compared ≡ c + length l
  unfolding In seek_in
  seek-whole c [] n = omega arith
  seek-whole c (f ∷ l) n =
      let e : (seek_in page F q c (f ∷ l)).compared ≡ (seek_in page F q (c + 1) l).compared = ap (λ (t : Sought). t.compared) (seek-on c f l (n f (inl refl))) in
      let h : (seek_in page F q (c + 1) l).compared ≡ c + 1 + length l = seek-whole (c + 1) l (λ g j. n g (inr j)) in
      omega arith
