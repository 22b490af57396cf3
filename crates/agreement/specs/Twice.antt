-- Numbers in a row, `row i` the number at i, each as one of its store, and what the table of the numbers seen tells of them. Assumes nothing.
use Rattle.std.specs.Prelude.{ℕ, ◌+◌, ◌-◌, ◌<◌, ◌≤◌, ◌≡◌, refl, ◌≢◌, Bool, true, false, eqb}
use Rattle.std.proofs.Common.{sym, ◌∙◌, ap, arith, add-zero, le_refl, eq-eqb, ne_eqb}
use Rattle.std.proofs.Math.Decide.{ℕ_discrete, dec_lt}
use Rattle.page.specs.Figures.{most_pages, most_stores}
use Rattle.rules.specs.Tests.{pick, ◌or◌, every}
use Rattle.rules.specs.TestLaws.{clash, case, on, off, same, or_left, or_right, or-second, and_yes, pick_yes, pick_no, every_true, true-every, false-every}
use Rattle.seen.specs.Fold.{or_same}
use Rattle.seen.specs.Among.{among, among-zero, is_among, among-is, not-among}
use Rattle.seen.specs.Seen.{Seen, none, noted, Tells, Notes, fresh, Marked}
use Rattle.seen.specs.SeenLaws.{none-noted, within_same, tells-ext, tells-elsewhere, marked-none, marked_more, fresh-zero, fresh-new, fresh-is}
use Rattle.residents.specs.Residents.{key_of}

-- ---- numbers of stores

-- number x as one of store t: its key; 0, which names no page, stays 0
unfoldable pub keyed : ℕ → ℕ → ℕ
keyed t x = pick (eqb x 0) 0 (key_of t x)

pub keyed-zero : (t x : ℕ) → x ≡ 0 → keyed t x ≡ 0
unfolding keyed
keyed-zero t x z = sym (pick_yes (key_of t x) (eq-eqb x 0 z) refl)

pub keyed-some : (t x : ℕ) → x ≢ 0 → keyed t x ≡ key_of t x
unfolding keyed
keyed-some t x n = sym (pick_no 0 (ne_eqb x 0 n) refl)

-- what isn't 0 tells its store and its number
pub keyed-is : (t x u y : ℕ) → x < most_pages → y < most_pages → keyed t x ≡ key_of u y → y ≢ 0 → (t ≡ u) × (x ≡ y)
keyed-is t x u y a b e n = elim (ℕ_discrete x 0) [
  | yes z ↦ absurd (let q : 0 ≡ key_of u y = sym (keyed-zero t x z) ∙ e in omega arith)
  | no z ↦ let q : key_of t x ≡ key_of u y = sym (keyed-some t x z) ∙ e in (omega arith, omega arith)
]

pub keyed-apart : (t x u y : ℕ) → x < most_pages → y < most_pages → keyed t x ≡ keyed u y → keyed t x ≢ 0 → (t ≡ u) × (x ≡ y)
keyed-apart t x u y a b e n = elim (ℕ_discrete y 0) [
  | yes z ↦ absurd (n (e ∙ keyed-zero u y z))
  | no z ↦ keyed-is t x u y a b (e ∙ keyed-some u y z) z
]

-- ---- rows of them

-- no number but 0 stands at two of the first n places, and the table tells of the numbers there
pub record PassedRow (row : ℕ → ℕ) (n : ℕ) (seen : Seen) : Type 0 where
  pub tells : (t : ℕ) → t < most_stores → Tells t seen (λ x. among row n (key_of t x))
  pub once : (i j : ℕ) → i < j → j < n → row i ≡ row j → row i ≡ 0

-- some number but 0 stands at two of the first n places
pub record Twice (row : ℕ → ℕ) (n : ℕ) : Type 0 where
  pub first : ℕ
  pub second : ℕ
  pub order : first < second
  pub inside : second < n
  pub equal : row first ≡ row second
  pub number : row first ≢ 0

-- after n places: they are passed, or a number stands there twice
abbrev pub Progress : (ℕ → ℕ) → ℕ → Seen → Bool → Type 0
Progress row n seen true = PassedRow row n seen
Progress row n seen false = Twice row n

pub pass-none : (row : ℕ → ℕ) → PassedRow row 0 none
pass-none row = record { tells = λ t l. tells-ext t none _ _ (none-noted t) (λ x p h. sym (among-zero row (key_of t x))); once = λ i j l m. absurd (omega arith) }

pub twice-more : (row : ℕ → ℕ) (n m : ℕ) → n ≤ m → Twice row n → Twice row m
twice-more row n m h t = record { first = t.first; second = t.second; order = t.order; inside = omega (arith, t.inside); equal = t.equal; number = t.number }

pub not-twice : (row : ℕ → ℕ) (n m : ℕ) → n ≤ m → ((i j : ℕ) → i < j → j < m → row i ≡ row j → row i ≡ 0) → Twice row n → ⊥
not-twice row n m h once t = t.number (once t.first t.second t.order (omega (arith, t.inside)) t.equal)

-- ---- m further numbers, those of the row w, of store t

module _ (row : ℕ → ℕ) (n m t : ℕ) (w : ℕ → ℕ) (has : (k : ℕ) → k < m → row (n + k) ≡ keyed t (w k)) where
  -- a place past n is one of w's
  place : (j : ℕ) → n ≤ j → j < n + m → (k : ℕ) × (k < m) × (j ≡ n + k) × (row j ≡ keyed t (w k))
  place j l h =
      let e : j ≡ n + (j - n) = omega arith in
      let b : j - n < m = omega arith in
      (j - n, b, e, ap row e ∙ has (j - n) b)

  module _ (small : (k : ℕ) → k < m → w k < most_pages) where
    -- a number of store u there is one before n, or one of w's, and then u is t
    among-past : (u x : ℕ) → 0 < x → x < most_pages → among row (n + m) (key_of u x) ≡ true → among row n (key_of u x) ≡ false → (t ≡ u) × (among w m x ≡ true)
    among-past u x z h a b =
        let r = among-is row (n + m) (key_of u x) a in
        elim (dec_lt r.0 n) [
          | yes l ↦ absurd (clash (sym (is_among row n (key_of u x) r.0 l r.2) ∙ b))
          | no l ↦
              let p = place r.0 (omega arith) r.1 in
              let e = keyed-is t (w p.0) u x (small p.0 p.1) h (sym p.3 ∙ r.2) (λ y. omega arith) in
              (e.0, is_among w m x p.0 p.1 e.1)
        ]

    among-before : (y : ℕ) → among row n y ≡ true → among row (n + m) y ≡ true
    among-before y a = let r = among-is row n y a in is_among row (n + m) y r.0 (omega (arith, r.1)) r.2

    among-both : (x : ℕ) → 0 < x → x < most_pages → (among row n (key_of t x) or among w m x) ≡ among row (n + m) (key_of t x)
    among-both x z h = same _ _
        (λ s. elim (case (among row n (key_of t x))) [
          | on a ↦ among-before (key_of t x) a
          | off a ↦
              let r = among-is w m x (or-second (among row n (key_of t x)) _ s a) in
              is_among row (n + m) (key_of t x) (n + r.0) (omega (arith, r.1)) (has r.0 r.1 ∙ ap (keyed t) r.2 ∙ keyed-some t x (λ y. omega arith))
        ])
        (λ s. elim (case (among row n (key_of t x))) [
          | on a ↦ or_left _ a
          | off a ↦ or_right (among row n (key_of t x)) (among-past t x z h s a).1
        ])

    among-other : (u x : ℕ) → u ≢ t → 0 < x → x < most_pages → among row n (key_of u x) ≡ among row (n + m) (key_of u x)
    among-other u x d z h = same _ _ (among-before (key_of u x))
        (λ s. elim (case (among row n (key_of u x))) [
          | on a ↦ a
          | off a ↦ absurd (d (sym (among-past u x z h s a).0))
        ])

    module _ (store : t < most_stores) (seen seen' : Seen) (P : PassedRow row n seen) where
      fresh-once : every m (fresh (noted seen t) w most_pages) ≡ true → (i j : ℕ) → i < j → j < n + m → row i ≡ row j → row i ≡ 0
      fresh-once f i j l h e = elim (dec_lt j n) [
        | yes b ↦ P.once i j l b e
        | no b ↦
            let p = place j (omega arith) h in
            elim (ℕ_discrete (row i) 0) [
              | yes z ↦ z
              | no z ↦ absurd (clashing p.0 p.1 (e ∙ p.3) z p.2)
            ]
      ]
        where
          clashing : (k : ℕ) → k < m → row i ≡ keyed t (w k) → row i ≢ 0 → j ≡ n + k → ⊥
          clashing k b q z g =
              let y : w k ≢ 0 = λ y. z (q ∙ keyed-zero t (w k) y) in
              let r = fresh-is (noted seen t) w most_pages k (every_true m _ f k b) y in
              let s : w k < most_pages = r.below in
              elim (dec_lt i n) [
                | yes c ↦ clash (sym ((P.tells t store).right (w k) (omega arith) s ∙ is_among row n (key_of t (w k)) i c (q ∙ keyed-some t (w k) y)) ∙ r.unseen)
                | no c ↦
                    let p = place i (omega arith) (omega arith) in
                    let d = keyed-apart t (w p.0) t (w k) (small p.0 p.1) s (sym p.3 ∙ q) (λ x. z (p.3 ∙ x)) in
                    clash (sym (is_among w k (w k) p.0 (omega (arith, p.2)) d.1) ∙ r.first)
              ]

      -- a number that isn't fresh stands twice
      stale-twice : (k : ℕ) → k < m → fresh (noted seen t) w most_pages k ≡ false → Twice row (n + m)
      stale-twice k b f = elim (ℕ_discrete (w k) 0) [
        | yes z ↦ absurd (clash (sym (fresh-zero (noted seen t) w most_pages k z) ∙ f))
        | no z ↦
            let s : w k < most_pages = small k b in
            let here : row (n + k) ≡ key_of t (w k) = has k b ∙ keyed-some t (w k) z in
            let number : key_of t (w k) ≢ 0 = λ y. omega arith in
            elim (case (noted seen t (w k))) [
              | on u ↦
                  let r = among-is row n (key_of t (w k)) (sym ((P.tells t store).right (w k) (omega arith) s) ∙ u) in
                  let l : r.0 < n = r.1 in
                  record { first = r.0; second = n + k; order = omega arith; inside = omega arith; equal = r.2 ∙ sym here; number = λ y. number (sym r.2 ∙ y) }
              | off u ↦ elim (case (among w k (w k))) [
                | on a ↦
                    let r = among-is w k (w k) a in
                    let l : r.0 < k = r.1 in
                    let h : row (n + r.0) ≡ key_of t (w k) = has r.0 (omega arith) ∙ ap (keyed t) r.2 ∙ keyed-some t (w k) z in
                    record { first = n + r.0; second = n + k; order = omega arith; inside = omega arith; equal = h ∙ sym here; number = λ y. number (sym h ∙ y) }
                | off a ↦ absurd (clash (sym (fresh-new (noted seen t) w most_pages k (record { below = s; unseen = u; first = a })) ∙ f))
              ]
            ]
      ]

      -- the stores' parts of the table, where all were fresh: store t has w's numbers too
      tells-on : Marked t m w most_pages seen seen' true → (u : ℕ) → u < most_stores → Tells u seen' (λ x. among row (n + m) (key_of u x))
      tells-on M u h = elim (ℕ_discrete u t) [
        | yes e ↦ rw e (tells-ext t seen' _ _ (M.tells refl) (λ x p l. ap (λ (b : Bool). b or among w m x) ((P.tells t store).right x p l) ∙ among-both x p l))
        | no e ↦ tells-ext u seen' _ _ (tells-elsewhere t u e seen seen' M.within _ (P.tells u h)) (λ x p l. among-other u x e p l)
      ]

      pub goes_on : (r : Bool) → Marked t m w most_pages seen seen' r → Progress row (n + m) seen' r
      goes_on true M = record { tells = tells-on M; once = fresh-once (sym M.answer) }
      goes_on false M = let r = false-every m _ (sym M.answer) in stale-twice r.0 r.1 r.2

-- zeros from place n on
pub pass-zeros : (row : ℕ → ℕ) (n : ℕ) (seen : Seen) (m : ℕ) → ((k : ℕ) → k < m → row (n + k) ≡ 0) → PassedRow row n seen → PassedRow row (n + m) seen
pass-zeros row n seen m z P = goes_on row n m 0 (λ k. 0) (λ k l. z k l ∙ sym (keyed-zero 0 0 refl)) (λ k l. omega arith) (omega arith) seen seen P true (record {
  answer = sym (true-every m _ (λ k l. fresh-zero (noted seen 0) (λ j. 0) most_pages k refl));
  tells = λ e. record { table = (P.tells 0 (omega arith)).table; right = λ x p l. sym (or_same (noted seen 0 x) (not-among (λ j. 0) m x (λ k h q. omega arith))) };
  within = within_same 0 seen;
})

-- one number of store t, noted
pub pass-one : (row : ℕ → ℕ) (n : ℕ) (seen seen' : Seen) (t x : ℕ) → row n ≡ keyed t x → t < most_stores → x < most_pages → (new : Bool) → Notes t x seen seen' new → PassedRow row n seen → Progress row (n + 1) seen' new
pass-one row n seen seen' t x e s l new S P =
    goes_on row n 1 t (λ k. x) (λ k h. let z : n + k ≡ n = omega arith in ap row z ∙ e) (λ k h. l) s seen seen' P new
    (marked_more t (λ k. x) most_pages seen 0 (omega arith) seen x refl (λ z. l) seen' new S true new (and_yes refl refl) (marked-none t (λ k. x) most_pages seen (P.tells t s).table))

-- ---- numbers noted in whatever row they stand next

-- a row that is passed so far and has the m numbers w next goes on by them
pub record RowNoted (w : ℕ → ℕ) (m : ℕ) (seen seen' : Seen) (fresh : Bool) : Type 0 where
  pub goes : (row : ℕ → ℕ) (i : ℕ) → ((k : ℕ) → k < m → row (i + k) ≡ w k) → PassedRow row i seen → Progress row (i + m) seen' fresh

pub noted-none : (w : ℕ → ℕ) (seen : Seen) → RowNoted w 0 seen seen true
noted-none w seen = record { goes = λ row i h P. rw (add-zero i) P }

module _ (w : ℕ → ℕ) (m : ℕ) (seen now : Seen) (R : RowNoted w m seen now true) where
  -- by n numbers more
  pub noted-then : (n : ℕ) (next : Seen) (r : Bool) → RowNoted (λ k. w (m + k)) n now next r → RowNoted w (m + n) seen next r
  noted-then n next r Q = record {
    goes = λ row i h P.
        let q : i + (m + n) ≡ i + m + n = omega arith in
        rw q (Q.goes row (i + m) (λ k b. let z : i + m + k ≡ i + (m + k) = omega arith in ap row z ∙ h (m + k) (omega arith)) (R.goes row i (λ k b. h k (omega arith)) P));
  }

  -- by one of store t, which was noted
  pub noted_one : (t x : ℕ) → w m ≡ keyed t x → t < most_stores → x < most_pages → (next : Seen) (new : Bool) → Notes t x now next new → RowNoted w (m + 1) seen next new
  noted_one t x e s l next new S = noted-then 1 next new (record { goes = λ row i h P. pass-one row i now next t x (ap row (sym (add-zero i)) ∙ h 0 (omega arith) ∙ ap w (add-zero m) ∙ e) s l new S P })

  -- by n zeros
  pub noted-zeros : (n : ℕ) → ((k : ℕ) → k < n → w (m + k) ≡ 0) → RowNoted w (m + n) seen now true
  noted-zeros n z = noted-then n now true (record { goes = λ row i h P. pass-zeros row i now n (λ k b. h k b ∙ z k b) P })

-- once a number stands twice, it does so in a longer row
pub noted-twice : (w : ℕ → ℕ) (m n : ℕ) → m ≤ n → (seen now after : Seen) → RowNoted w m seen now false → RowNoted w n seen after false
noted-twice w m n l seen now after R = record { goes = λ row i h P. twice-more row (i + m) (i + n) (omega arith) (R.goes row i (λ k b. h k (omega arith)) P) }

pub noted-ext : (w v : ℕ → ℕ) (m : ℕ) → ((k : ℕ) → k < m → w k ≡ v k) → (seen next : Seen) (r : Bool) → RowNoted v m seen next r → RowNoted w m seen next r
noted-ext w v m e seen next r R = record { goes = λ row i h P. R.goes row i (λ k b. h k b ∙ e k b) P }

-- ---- the same numbers in another order

-- each number but 0 at the first n places of a has a place of its own among the first m of c
pub record Sorted (a : ℕ → ℕ) (n : ℕ) (c : ℕ → ℕ) (m : ℕ) : Type 0 where
  pub to : ℕ → ℕ
  pub inside : (i : ℕ) → i < n → a i ≢ 0 → to i < m
  pub same : (i : ℕ) → i < n → a i ≢ 0 → c (to i) ≡ a i
  pub apart : (i j : ℕ) → i < n → j < n → a i ≢ 0 → a j ≢ 0 → to i ≡ to j → i ≡ j

module _ (a : ℕ → ℕ) (n : ℕ) (c : ℕ → ℕ) (m : ℕ) (S : Sorted a n c m) where
  sorted-among : (x : ℕ) → x ≢ 0 → among a n x ≡ true → among c m x ≡ true
  sorted-among x z t =
      let r = among-is a n x t in
      let y : a r.0 ≢ 0 = λ y. z (sym r.2 ∙ y) in
      is_among c m x (S.to r.0) (S.inside r.0 r.1 y) (S.same r.0 r.1 y ∙ r.2)

  pub sorted-twice : Twice a n → Twice c m
  sorted-twice t =
      let i : ℕ = t.first in
      let j : ℕ = t.second in
      let li : i < n = omega (arith, t.order, t.inside) in
      let zj : a j ≢ 0 = λ z. t.number (t.equal ∙ z) in
      let e : c (S.to i) ≡ c (S.to j) = S.same i li t.number ∙ t.equal ∙ sym (S.same j t.inside zj) in
      let g : c (S.to i) ≢ 0 = λ z. t.number (sym (S.same i li t.number) ∙ z) in
      elim (dec_lt (S.to i) (S.to j)) [
        | yes l ↦ record { first = S.to i; second = S.to j; order = l; inside = S.inside j t.inside zj; equal = e; number = g }
        | no l ↦ elim (ℕ_discrete (S.to i) (S.to j)) [
          | yes q ↦ absurd (omega (arith, S.apart i j li t.inside t.number zj q, t.order))
          | no q ↦ record { first = S.to j; second = S.to i; order = omega arith; inside = S.inside i li t.number; equal = sym e; number = λ z. g (e ∙ z) }
        ]
      ]

-- so what is passed in the one order is passed in the other
pub passed-sorted : (a : ℕ → ℕ) (n : ℕ) (c : ℕ → ℕ) (m : ℕ) → Sorted a n c m → Sorted c m a n → (seen : Seen) → PassedRow a n seen → PassedRow c m seen
passed-sorted a n c m S T seen P = record {
  tells = λ t s. tells-ext t seen _ _ (P.tells t s) (λ x p l. same _ _ (sorted-among a n c m S (key_of t x) (λ z. omega arith)) (sorted-among c m a n T (key_of t x) (λ z. omega arith)));
  once = λ i j l h e. elim (ℕ_discrete (c i) 0) [
    | yes z ↦ z
    | no z ↦ absurd (not-twice a n n (le_refl n) P.once (sorted-twice c m a n T (record { first = i; second = j; order = l; inside = h; equal = e; number = z })))
  ];
}
