-- What the table tells where rules 1 and 2 are kept: which pages are resident, which frames are occupied, and what resident pages name. Assumes nothing.
use Rattle.std.specs.Prelude.{ℕ, ◌/◌, ◌%◌, ◌<◌, ◌≤◌, ◌≡◌, refl, ◌≢◌, Bool, true, false, List}
use Rattle.std.proofs.Math.Path.{sym, ap}
use Rattle.std.proofs.Common.{◌∙◌}
use Rattle.std.proofs.Math.Bool.{not}
use native.Mathlib.Omega.{arith}
use Rattle.std.proofs.Math.Decide.{dec_lt, ℕ_discrete}
use borrow.Author.Tests.{eq-eqb, ne_eqb, eqb-true, eqb-false, lt-ltb, not-true}
use Rattle.std.proofs.Math.Dec.{eqb}
use Rattle.page.specs.Figures.{slot_count, most_frames, most_pages}
use Rattle.page.specs.Word.{frame_in, frame_word, reading, low, high}
use Rattle.page.specs.Page.{slot, name, page_words, name-row}
use Rattle.page.specs.StorePlaces.{store_place}
use Rattle.page.proofs.StorePlaceLaws.{place-inj}
use Rattle.machine.specs.declared.FrameRecord.{FrameRecord}
use Rattle.chains.proofs.FrameTally.{tally-same}
use Rattle.rules.specs.Tests.{◌and◌, ◌or◌}
use Rattle.rules.specs.TestLaws.{clash, case, on, off, same, both, and_yes, and-true, or_left, or_right, or-second, some-true, true-some}
use Rattle.machine.specs.Machine.{State, page_in, store_in, occupied, held}
use Rattle.machine.specs.Agreement.{parent_of, parent_slot_of, is_blank}
use Rattle.machine.proofs.Laws.AgreementFacts.{occupied-lt, Points, Agreed}
use Rattle.machine.specs.Moves.{plain}
use Rattle.machine.specs.Naming.{named_by_resident}
use Rattle.machine.proofs.Laws.PlainLaws.{plain-low, plain-high}
use Rattle.seen.specs.Among.{among, is_among, among-is}
use Rattle.residents.specs.Residents.{key_of, key_by, page_by, store_by, Residents, in_table, holds_page, holds_of, held_by, in_frames}

-- ---- keys

-- a key tells its store and its page, where the page's number is one
pub key-store : (t p : ℕ) → p < most_pages → key_of t p / most_pages ≡ t
key-store t p l = omega arith

pub key-page : (t p : ℕ) → p < most_pages → key_of t p % most_pages ≡ p
key-page t p l = omega arith

pub key-inj : (t p u q : ℕ) → p < most_pages → q < most_pages → key_of t p ≡ key_of u q → (t ≡ u) × (p ≡ q)
key-inj t p u q hp hq e = (omega arith, omega arith)

module _ {rs : List FrameRecord} {residents : List ℕ} (R : Residents rs residents) (f : ℕ) (l : f < most_frames) where
  pub page-by : page_by residents f ≡ page_in rs f
  page-by = ap (λ (k : ℕ). k % most_pages) (R.right f l) ∙ key-page (store_in rs f) (page_in rs f) (R.small f l)

  pub store_by_lem : store_by residents f ≡ store_in rs f
  store_by_lem = ap (λ (k : ℕ). k / most_pages) (R.right f l) ∙ key-store (store_in rs f) (page_in rs f) (R.small f l)

-- two pages have one key exactly where they have one place among N pages of each store, if their numbers are below N
pub key-place : (N t p u q : ℕ) → N ≤ most_pages → p < N → q < N → eqb (key_of t p) (key_of u q) ≡ eqb (store_place N t p) (store_place N u q)
key-place N t p u q most hp hq = same _ _
    (λ e. let i = key-inj t p u q (omega arith) (omega arith) (eqb-true _ _ e) in eq-eqb (store_place N t p) (store_place N u q) (rw (i.0, i.1)))
    (λ e. let i = place-inj N t p u q hp hq (eqb-true _ _ e) in eq-eqb (key_of t p) (key_of u q) (rw (i.0, i.1)))

blank-key : (r : FrameRecord) → is_blank r ≡ true → key_of r.store.0 r.page.0 ≡ 0
unfolding is_blank
blank-key r t =
    let a = and-true (eqb r.used 0) _ t in
    let b = and-true (eqb r.dirty 0) _ a.1 in
    let c = and-true (eqb r.usage 0) _ b.1 in
    let d = and-true (eqb r.slot 0) _ c.1 in
    let e = and-true (eqb r.parent.0 0) _ d.1 in
    let f = and-true (eqb r.store.0 0) _ e.1 in
    let g = and-true (eqb r.pins 0) _ f.1 in
    let h : r.store.0 ≡ 0 = eqb-true _ 0 f.0 in
    let i : r.page.0 ≡ 0 = eqb-true _ 0 g.1 in
    omega arith

-- ---- what a resident page of store t names

module _ (s : State) (t x : ℕ) where
  pub record ResidentNames : Type 0 where
    pub frame : ℕ
    pub slot : ℕ
    pub at : occupied s.pool frame ≡ true
    pub store : store_in s.pool.records frame ≡ t
    pub in_page : slot < slot_count
    pub word : plain (page_in s.pool.records) (page_words s.frames frame slot) ≡ x

  pub names_of : named_by_resident s t x ≡ true → ResidentNames
  unfolding named_by_resident slot
  names_of e =
      let a = some-true s.pool.count _ e in
      let b = and-true (occupied s.pool a.0) _ a.2 in
      let d = and-true (eqb (store_in s.pool.records a.0) t) _ b.1 in
      let c = some-true slot_count _ d.1 in
      record { frame = a.0; slot = c.0; at = b.0; store = eqb-true _ t d.0; in_page = c.1; word = eqb-true _ x c.2 }

  pub of-names : ResidentNames → named_by_resident s t x ≡ true
  unfolding named_by_resident slot
  of-names n = true-some s.pool.count _ n.frame (occupied-lt s.pool n.frame n.at) (both _ _ n.at (both _ _ (eq-eqb _ t n.store) (true-some slot_count _ n.slot n.in_page (eq-eqb _ x n.word))))

module _ (s : State) (few : s.pool.count ≤ most_frames) (some : 1 ≤ s.pool.stores) (A : Agreed s.pool s.frames) (residents : List ℕ) (R : Residents s.pool.records residents) where
  framed : (f : ℕ) → occupied s.pool f ≡ true → f < most_frames
  framed f o = omega (arith, occupied-lt s.pool f o, few)

  key-by : (f : ℕ) → occupied s.pool f ≡ true → key_by residents f ≡ key_of (store_in s.pool.records f) (page_in s.pool.records f)
  key-by f o = R.right f (framed f o)

  empty-key : (f : ℕ) → f < most_frames → occupied s.pool f ≡ false → key_by residents f ≡ 0
  empty-key f l o = R.right f l ∙ blank-key _ (A.blank f l o)

  -- ---- which pages are resident

  pub in-table : (f t q : ℕ) → occupied s.pool f ≡ true → store_in s.pool.records f ≡ t → page_in s.pool.records f ≡ q → in_table residents t q ≡ true
  unfolding in_table
  in-table f t q o a e = is_among (key_by residents) most_frames (key_of t q) f (framed f o) (key-by f o ∙ rw (a, e))

  -- the page whose key is an empty frame's entry is store 0's root
  pub table-in : (t q : ℕ) → q < most_pages → in_table residents t q ≡ true → (f : ℕ) × (occupied s.pool f ≡ true) × (store_in s.pool.records f ≡ t) × (page_in s.pool.records f ≡ q)
  unfolding in_table
  table-in t q l i =
      let a = among-is (key_by residents) most_frames (key_of t q) i in
      let e : key_by residents a.0 ≡ key_of t q = a.2 in
      elim (case (occupied s.pool a.0)) [
        | on o ↦ let k = key-inj _ _ t q (R.small a.0 a.1) l (sym (key-by a.0 o) ∙ e) in (a.0, o, k.0, k.1)
        | off o ↦
            let z : key_of t q ≡ 0 = sym e ∙ empty-key a.0 a.1 o in
            (0, A.root 0 some, A.root_store 0 some ∙ omega arith, A.root_page 0 some ∙ omega arith)
      ]

  pub not-in-table : (t q : ℕ) → in_table residents t q ≡ false → (f : ℕ) → occupied s.pool f ≡ true → store_in s.pool.records f ≡ t → page_in s.pool.records f ≢ q
  not-in-table t q i f o a e = clash (sym (in-table f t q o a e) ∙ i)

  -- ---- which frames are occupied

  other_key : (f : ℕ) → occupied s.pool f ≡ true → f ≢ 0 → key_by residents f ≢ 0
  other_key f o n e =
      let k = key-inj _ _ 0 0 (R.small f (framed f o)) (omega arith) (sym (key-by f o) ∙ e) in
      n (A.apart f 0 o (A.root 0 some) (rw (k.0, k.1, A.root_store 0 some, A.root_page 0 some)))

  pub holds-page : (f : ℕ) → f < most_frames → holds_page residents f ≡ occupied s.pool f
  unfolding holds_page
  holds-page f l = same _ _
      (λ t. elim (case (occupied s.pool f)) [
        | on o ↦ o
        | off o ↦ elim (ℕ_discrete f 0) [
          | yes z ↦ absurd (clash (sym (A.root 0 some) ∙ rw z at o))
          | no z ↦ absurd (eqb-false _ 0 (not-true _ (or-second (eqb f 0) _ t (ne_eqb f 0 z))) (empty-key f l o))
        ]
      ])
      (λ o. elim (ℕ_discrete f 0) [ yes z ↦ or_left _ (eq-eqb f 0 z) | no z ↦ or_right (eqb f 0) (ap not (ne_eqb _ 0 (other_key f o z))) ])

  -- of store t
  pub holds-of : (t f : ℕ) → f < most_frames → holds_of residents t f ≡ (occupied s.pool f and eqb (store_in s.pool.records f) t)
  unfolding holds_of
  holds-of t f l = rw (holds-page f l, store_by_lem R f l)

  pub held_by_lem : (t : ℕ) → held_by residents s.pool.count t ≡ held s.pool t
  unfolding held_by held occupied
  held_by_lem t = tally-same s.pool.count _ _ (λ f l. holds-of t f (omega (arith, few)) ∙ ap (λ (b : Bool). b and eqb (store_in s.pool.records f) t) (sym (and_yes (lt-ltb f s.pool.count l) refl)))

  -- ---- a number in a word of a resident page of store t

  pub record Held (t x : ℕ) : Type 0 where
    pub frame : ℕ
    pub slot : ℕ
    pub at : occupied s.pool frame ≡ true
    pub store : store_in s.pool.records frame ≡ t
    pub in_page : slot < slot_count
    pub word : page_words s.frames frame slot ≡ x

  pub held_of : (t x : ℕ) → in_frames residents s.frames s.pool.count t x ≡ true → Held t x
  unfolding in_frames
  held_of t x i =
      let a = some-true s.pool.count (λ f. among (page_words s.frames f) slot_count x and holds_of residents t f) i in
      let l : a.0 < s.pool.count = a.1 in
      let b = and-true (among (page_words s.frames a.0) slot_count x) _ a.2 in
      let c = among-is (page_words s.frames a.0) slot_count x b.0 in
      let o = and-true (occupied s.pool a.0) _ (sym (holds-of t a.0 (omega (arith, few))) ∙ b.1) in
      record { frame = a.0; slot = c.0; at = o.0; store = eqb-true _ t o.1; in_page = c.1; word = c.2 }

  pub of-held : (t x : ℕ) → Held t x → in_frames residents s.frames s.pool.count t x ≡ true
  unfolding in_frames
  of-held t x h =
      true-some s.pool.count _ h.frame (occupied-lt s.pool h.frame h.at) (both _ _ (is_among (page_words s.frames h.frame) slot_count x h.slot h.in_page h.word)
      (holds-of t h.frame (framed h.frame h.at) ∙ both _ _ h.at (eq-eqb _ t h.store)))

  -- ---- a resident page of store t names each resident page of it but the root, and the numbers in resident pages' words

  module _ (t x : ℕ) (positive : 0 < x) (below : x < most_pages) where
    split : ResidentNames s t x → (in_table residents t x or in_frames residents s.frames s.pool.count t x) ≡ true
    split n = elim (reading (page_words s.frames n.frame n.slot)) [
      | low l ↦ or_right (in_table residents t x) (of-held t x (record { frame = n.frame; slot = n.slot; at = n.at; store = n.store; in_page = n.in_page; word = sym (plain-low _ _ l) ∙ n.word }))
      | high g e ↦
          let q : name s.frames n.frame n.slot ≡ frame_word g = name-row _ _ _ ∙ e in
          let b : Points s.pool (frame_in (name s.frames n.frame n.slot)) n.frame n.slot = A.back n.frame n.slot n.at n.in_page (omega arith) in
          let i : frame_in (name s.frames n.frame n.slot) ≡ g = omega arith in
          or_left _ (in-table g t x (rw i at b.at) (rw i at (A.parent_store _ b.at b.other) ∙ rw i at (ap (store_in s.pool.records) b.parent) ∙ n.store) (sym (plain-high (page_in s.pool.records) g) ∙ ap (plain (page_in s.pool.records)) (sym e) ∙ n.word))
    ]

    resident-named : in_table residents t x ≡ true → ResidentNames s t x
    resident-named i =
        let g = table-in t x below i in
        let e : page_in s.pool.records g.0 ≡ x = g.3 in
        let n : s.pool.stores ≤ g.0 = elim (dec_lt g.0 s.pool.stores) [ yes l ↦ absurd (omega (arith, A.root_page g.0 l)) | no l ↦ omega arith ] in
        record {
          frame = parent_of s.pool g.0;
          slot = parent_slot_of s.pool g.0;
          at = A.parent g.0 g.1 n;
          store = sym (A.parent_store g.0 g.1 n) ∙ g.2;
          in_page = (A.in_range g.0 (omega (arith, occupied-lt s.pool g.0 g.1, few))).slot;
          word = ap (plain (page_in s.pool.records)) (sym (name-row _ _ _) ∙ A.parent_word g.0 g.1 n) ∙ plain-high _ g.0 ∙ e;
        }

    held-named : in_frames residents s.frames s.pool.count t x ≡ true → ResidentNames s t x
    held-named i =
        let h = held_of t x i in
        let e : page_words s.frames h.frame h.slot ≡ x = h.word in
        record { frame = h.frame; slot = h.slot; at = h.at; store = h.store; in_page = h.in_page; word = plain-low _ _ (omega arith) ∙ e }

    pub by-table : named_by_resident s t x ≡ (in_table residents t x or in_frames residents s.frames s.pool.count t x)
    by-table = same _ _
        (λ e. split (names_of s t x e))
        (λ e. of-names s t x (elim (case (in_table residents t x)) [ on i ↦ resident-named i | off i ↦ held-named (or-second (in_table residents t x) _ e i) ]))
