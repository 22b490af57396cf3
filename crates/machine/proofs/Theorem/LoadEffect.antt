-- A stored page comes into an empty frame, on the view; and that the page named there always fits.
use Rattle.std.specs.Prelude.{◌≡◌, refl, ◌≢◌, true, false, ℕ, ◌≤◌, ◌<◌}
use Rattle.std.proofs.Common.{sym, ap, ◌∙◌, arith}
use Rattle.std.proofs.Math.Decide.{ℕ_discrete, dec_lt}
use Rattle.page.specs.Figures.{page_size, slot_count, payload_start}
use Rattle.page.specs.Word.{frame_word, Number, reading, low, high, frame-word-inj}
use Rattle.machine.specs.Moves.{plain}
use Rattle.rules.specs.TestLaws.{clash}
use Rattle.machine.proofs.Laws.PlainLaws.{plain-low, plain-high}
use Rattle.machine.proofs.Theorem.View.{View, Reach, top, via, Occupied, Absent, Parent, Child, Shape, Map, Content, MapSound, NoRoot}

-- page q comes into frame e, for slot k of frame f
pub record Loaded (v w : View) (f k e q : ℕ) : Type 0 where
  pub same_f : w.F ≡ v.F
  pub same_n : w.N ≡ v.N
  pub roots : w.roots ≡ v.roots
  pub each : w.each ≡ v.each
  pub used_e : w.used e ≡ true
  pub page_e : w.page e ≡ q
  pub up_e : w.up e ≡ f
  pub up_slot_e : w.up_slot e ≡ k
  pub dirty_e : w.dirty e ≡ false
  pub pins_e : w.pins e ≡ 1
  pub used : (g : ℕ) → g ≢ e → w.used g ≡ v.used g
  pub page : (g : ℕ) → g ≢ e → w.page g ≡ v.page g
  pub up : (g : ℕ) → g ≢ e → w.up g ≡ v.up g
  pub up_slot : (g : ℕ) → g ≢ e → w.up_slot g ≡ v.up_slot g
  pub dirty : (g : ℕ) → g ≢ e → w.dirty g ≡ v.dirty g
  pub pins : (g : ℕ) → g ≢ e → w.pins g ≡ v.pins g
  pub word_e : (j : ℕ) → j < slot_count → w.word e j ≡ v.store_word q j
  pub mark_e : (j : ℕ) → j < slot_count → w.mark e j ≡ v.store_mark q j
  pub bytes_e : (i : ℕ) → payload_start ≤ i → i < page_size → w.bytes e i ≡ v.store_bytes q i
  pub word_at_parent : w.word f k ≡ frame_word e
  pub word_page : (g j : ℕ) → g < v.F → j < slot_count → g ≢ e → g ≢ f → w.word g j ≡ v.word g j
  pub word_slot : (g j : ℕ) → g < v.F → j < slot_count → g ≢ e → j ≢ k → w.word g j ≡ v.word g j
  -- its mark stays, as all marks do
  pub mark : (g j : ℕ) → g < v.F → j < slot_count → g ≢ e → w.mark g j ≡ v.mark g j
  pub bytes : (g i : ℕ) → g < v.F → payload_start ≤ i → i < page_size → g ≢ e → w.bytes g i ≡ v.bytes g i
  pub store_word : (p j : ℕ) → p < v.N → j < slot_count → w.store_word p j ≡ v.store_word p j
  pub store_mark : (p j : ℕ) → p < v.N → j < slot_count → w.store_mark p j ≡ v.store_mark p j
  pub store_bytes : (p i : ℕ) → p < v.N → i < page_size → w.store_bytes p i ≡ v.store_bytes p i

-- the words of the stored page q may come in: below N, none of them named by a resident page, each once
pub record MayComeIn (v : View) (q : ℕ) : Type 0 where
  pub below : (j : ℕ) → j < slot_count → v.store_word q j < v.N
  pub fresh : (j g i : ℕ) → j < slot_count → Occupied v g → i < slot_count → v.store_word q j ≢ 0 → plain v.page (v.word g i) ≢ v.store_word q j
  pub not_root : (j : ℕ) → j < slot_count → v.store_word q j ≢ 0 → NoRoot v.roots v.each (v.store_word q j)
  pub once : (i j : ℕ) → i < slot_count → j < slot_count → v.store_word q j ≢ 0 → v.store_word q i ≡ v.store_word q j → i ≡ j

-- where the map is a sound store, a page that isn't resident fits
pub absent-fits : (v : View) (m : Map) → Shape v → Content v m → MapSound m v.N v.roots v.each → (q : ℕ) → q < v.N → Absent v q → MayComeIn v q
absent-fits v m S C M q hq a = record {
  below = λ j hj. rw (stored j hj) (M.below q j hq hj);
  fresh = λ j g i hj o hi n x. a g o (M.once (v.page g) i q j (S.page_lt g o) hi hq hj
      (λ z. n (sym x ∙ C.frame_word g i o hi ∙ z)) (sym (C.frame_word g i o hi) ∙ x ∙ stored j hj)).0;
  not_root = λ j hj n. rw (stored j hj) (M.not_root q j hq hj (rw (stored j hj) at n));
  once = λ i j hi hj n x. (M.once q i q j hq hi hq hj (λ z. n (sym x ∙ stored i hi ∙ z)) (sym (stored i hi) ∙ x ∙ stored j hj)).1;
}
  where
    stored : (j : ℕ) → j < slot_count → v.store_word q j ≡ m.map_word q j
    stored j hj = C.absent_word q j hq a hj

-- an occupied frame isn't the empty frame e
pub empty-other : (v : View) (e : ℕ) → v.used e ≡ false → (g : ℕ) → Occupied v g → g ≢ e
empty-other v e free g o z = clash (sym o.on ∙ ap v.used z ∙ free)

module _ (v w : View) (f k e q : ℕ) (L : Loaded v w f k e q) (e_f : e < v.F) (free : v.used e ≡ false) where
  loaded-is : (g : ℕ) → Occupied v g → Occupied w g
  loaded-is g o = record { lt = rw L.same_f o.lt; on = L.used g (empty-other v e free g o) ∙ o.on }

  pub loaded-here : Occupied w e
  loaded-here = record { lt = rw L.same_f e_f; on = L.used_e }

  pub loaded-was : (g : ℕ) → Occupied w g → g ≢ e → Occupied v g
  loaded-was g o n = record { lt = (rw L.same_f at o.lt); on = sym (L.used g n) ∙ o.on }

  pub loaded-absent_was : (p : ℕ) → Absent w p → Absent v p
  loaded-absent_was p a g o z = a g (loaded-is g o) (L.page g (empty-other v e free g o) ∙ z)

module _ (v w : View) (f k e q : ℕ) (S : Shape v) (L : Loaded v w f k e q) (of : Occupied v f) (hk : k < slot_count)
    (e_f : e < v.F) (free : v.used e ≡ false) (names : v.word f k ≡ q) (low' : Number q) (nz : q ≢ 0) (T : MayComeIn v q) where
  q_n : q < v.N
  q_n = rw names at (S.number_lt f k of hk (rw names low'))

  q_absent : Absent v q
  q_absent = rw names at (S.number_absent f k of hk (rw names low') (rw names nz))

  other : (g : ℕ) → Occupied v g → g ≢ e
  other = empty-other v e free

  is : (g : ℕ) → Occupied v g → Occupied w g
  is = loaded-is v w f k e q L e_f free

  here : Occupied w e
  here = loaded-here v w f k e q L e_f free

  was : (g : ℕ) → Occupied w g → g ≢ e → Occupied v g
  was = loaded-was v w f k e q L e_f free

  reached : (g : ℕ) → Reach v g → Occupied v g → Reach w g
  reached g (top l) o = top {f = g} (rw L.roots l)
  reached g (via r) o = elim (dec_lt g v.roots) [
    | yes l ↦ top {f = g} (rw L.roots l)
    | no l ↦ let z : v.roots ≤ g = omega arith in via {f = g} (rw (L.up g (other g o)) (reached (v.up g) r (S.parent g o z).occupied))
  ]

  -- a word afterwards: one that came in, the parent's, or one that stays
  data WordCase (g j : ℕ) : Type 0 where
    new : g ≡ e → w.word g j ≡ v.store_word q j → WordCase g j
    hit : g ≡ f → j ≡ k → w.word g j ≡ frame_word e → WordCase g j
    same : Occupied v g → w.word g j ≡ v.word g j → (g ≡ f → j ≡ k → ⊥) → WordCase g j

  word_case : (g j : ℕ) → Occupied w g → j < slot_count → WordCase g j
  word_case g j o hj = elim (ℕ_discrete g e) [
    | yes a ↦ new a (rw a (L.word_e j hj))
    | no a ↦ let og : Occupied v g = was g o a in elim (ℕ_discrete g f) [
      | yes b ↦ elim (ℕ_discrete j k) [
        | yes c ↦ hit b c (rw (b, c) L.word_at_parent)
        | no c ↦ same og (L.word_slot g j og.lt hj a c) (λ x y. c y)
      ]
      | no b ↦ same og (L.word_page g j og.lt hj a b) (λ x y. b x)
    ]
  ]

  -- what the loaded page names isn't resident, before or after
  new_absent : (j : ℕ) → j < slot_count → v.store_word q j ≢ 0 → Absent v (v.store_word q j)
  new_absent j hj n g o x = elim (dec_lt g v.roots) [
    | yes l ↦ T.not_root j hj n g l (sym x ∙ S.root_page g l)
    | no l ↦ let z : v.roots ≤ g = omega arith in let P : Parent v g = S.parent g o z in
        T.fresh j (v.up g) (v.up_slot g) hj P.occupied P.in_page n (ap (plain v.page) P.names ∙ plain-high v.page g ∙ x)
  ]

  new_other : (j : ℕ) → j < slot_count → v.store_word q j ≢ 0 → v.store_word q j ≢ q
  new_other j hj n x = T.fresh j f k hj of hk n (ap (plain v.page) names ∙ plain-low v.page q low' ∙ sym x)

  absent : (x : ℕ) → Absent v x → x ≢ q → Absent w x
  absent x a n g o y = elim (ℕ_discrete g e) [ yes z ↦ n (sym y ∙ ap w.page z ∙ L.page_e) | no z ↦ a g (was g o z) (sym (L.page g z) ∙ y) ]

  absent_was : (x : ℕ) → Absent w x → Absent v x
  absent_was = loaded-absent_was v w f k e q L e_f free

  page_lt' : (g : ℕ) → Occupied w g → w.page g < w.N
  page_lt' g o = elim (ℕ_discrete g e) [ yes a ↦ rw (a, L.page_e, L.same_n) q_n | no a ↦ rw (L.page g a, L.same_n) (S.page_lt g (was g o a)) ]

  apart' : (a b : ℕ) → Occupied w a → Occupied w b → w.page a ≡ w.page b → a ≡ b
  apart' a b oa ob x = elim (ℕ_discrete a e) [
    | yes y ↦ elim (ℕ_discrete b e) [
      | yes z ↦ y ∙ sym z
      | no z ↦ absurd (q_absent b (was b ob z) (sym (L.page b z) ∙ sym x ∙ ap w.page y ∙ L.page_e))
    ]
    | no y ↦ elim (ℕ_discrete b e) [
      | yes z ↦ absurd (q_absent a (was a oa y) (sym (L.page a y) ∙ x ∙ ap w.page z ∙ L.page_e))
      | no z ↦ S.apart a b (was a oa y) (was b ob z) (sym (L.page a y) ∙ x ∙ L.page b z)
    ]
  ]

  -- every root is occupied, so frame e is none
  e_no_root : v.roots ≤ e
  e_no_root = elim (dec_lt e v.roots) [ yes l ↦ absurd (other e (S.root e l) refl) | no l ↦ omega arith ]

  parent' : (g : ℕ) → Occupied w g → w.roots ≤ g → Parent w g
  parent' g o y = elim (ℕ_discrete g e) [
    | yes a ↦ rw a (record { occupied = rw L.up_e (is f of); in_page = rw L.up_slot_e hk; names = rw (L.up_e, L.up_slot_e) L.word_at_parent })
    | no a ↦
        let P : Parent v g = S.parent g (was g o a) (rw L.roots at y) in
        record {
          occupied = rw (L.up g a) (is (v.up g) P.occupied);
          in_page = rw (L.up_slot g a) P.in_page;
          names = rw (L.up g a, L.up_slot g a) (elim (word_case (v.up g) (v.up_slot g) (is (v.up g) P.occupied) P.in_page) [
            | new x y ↦ absurd (other (v.up g) P.occupied x)
            | hit x y c ↦ absurd (omega (arith, (sym P.names ∙ ap (λ (i : ℕ). v.word i (v.up_slot g)) x ∙ ap (λ (i : ℕ). v.word f i) y ∙ names)))
            | same og x y ↦ x ∙ P.names
          ]);
        }
  ]

  child' : (a j g : ℕ) → Occupied w a → j < slot_count → w.word a j ≡ frame_word g → Child w a j g
  child' a j g o hj c = elim (word_case a j o hj) [
    | new x y ↦ absurd (omega (arith, T.below j hj, S.pages))
    | hit x y z ↦ let ge : g ≡ e = frame-word-inj _ _ (sym c ∙ z) in
        rw ge (record { occupied = here; not_root = rw L.roots e_no_root; back = L.up_e ∙ sym x; back_slot = L.up_slot_e ∙ sym y })
    | same oa x y ↦ let C : Child v a j g = S.child a j g oa hj (sym x ∙ c) in
        let n : g ≢ e = other g C.occupied in
        record { occupied = is g C.occupied; not_root = rw L.roots C.not_root; back = L.up g n ∙ C.back; back_slot = L.up_slot g n ∙ C.back_slot }
  ]

  number_lt' : (a j : ℕ) → Occupied w a → j < slot_count → Number (w.word a j) → w.word a j < w.N
  number_lt' a j o hj l = elim (word_case a j o hj) [
    | new x y ↦ rw (y, L.same_n) (T.below j hj)
    | hit x y z ↦ absurd (omega arith)
    | same oa x y ↦ rw (x, L.same_n) (S.number_lt a j oa hj (rw x at l))
  ]

  number_absent' : (a j : ℕ) → Occupied w a → j < slot_count → Number (w.word a j) → w.word a j ≢ 0 → Absent w (w.word a j)
  number_absent' a j o hj l z = elim (word_case a j o hj) [
    | new x y ↦ rw y (absent (v.store_word q j) (new_absent j hj (rw y at z)) (new_other j hj (rw y at z)))
    | hit x y c ↦ absurd (omega arith)
    | same oa x y ↦ rw x (absent (v.word a j) (S.number_absent a j oa hj (rw x at l) (rw x at z))
        (λ c. let r : (a ≡ f) × (j ≡ k) = S.once a j f k oa hj of hk (c ∙ sym names) (rw x at z) (rw x at l) in y r.0 r.1))
  ]

  once' : (a i b j : ℕ) → Occupied w a → i < slot_count → Occupied w b → j < slot_count → w.word a i ≡ w.word b j → w.word a i ≢ 0 → Number (w.word a i) → (a ≡ b) × (i ≡ j)
  once' a i b j oa hi ob hj c z l =
      elim (word_case a i oa hi) [
        | new x y ↦ elim (word_case b j ob hj) [
          | new x' y' ↦ (x ∙ sym x', T.once i j hi hj (omega arith) (sym y ∙ c ∙ y'))
          | hit x' r y' ↦ absurd (omega arith)
          | same o' y' n ↦ absurd (T.fresh i b j hi o' hj (omega arith) (plain-low v.page _ (omega arith) ∙ sym y' ∙ sym c ∙ y))
        ]
        | hit x r y ↦ absurd (omega arith)
        | same o y n ↦ elim (word_case b j ob hj) [
          | new x' y' ↦ absurd (T.fresh j a i hj o hi (omega arith) (plain-low v.page _ (omega arith) ∙ sym y ∙ c ∙ y'))
          | hit x' r y' ↦ absurd (omega arith)
          | same o' y' n' ↦ S.once a i b j o hi o' hj (sym y ∙ c ∙ y') (omega arith) (omega arith)
        ]
      ]

  reach' : (g : ℕ) → Occupied w g → Reach w g
  reach' g o = elim (ℕ_discrete g e) [
    | yes a ↦ via {f = g} (rw (a, L.up_e) (reached f (S.reach f of) of))
    | no a ↦ reached g (S.reach g (was g o a)) (was g o a)
  ]

  pub load-shape : Shape w
  load-shape = record {
    least = rw L.same_f S.least;
    most = rw L.same_f S.most;
    some = rw L.same_n S.some;
    pages = rw L.same_n S.pages;
    some_roots = rw L.roots S.some_roots;
    root = λ g l. is g (S.root g (rw L.roots at l));
    root_page = λ g l. let h : g < v.roots = rw L.roots at l in rw L.each (L.page g (other g (S.root g h)) ∙ S.root_page g h);
    page_lt = page_lt';
    apart = apart';
    parent = parent';
    child = child';
    number_lt = number_lt';
    number_absent = number_absent';
    once = once';
    reach = reach';
  }

  -- ---- content

  module _ (m : Map) (C : Content v m) where
    plain_same : (x : ℕ) → x ≢ frame_word e → plain w.page x ≡ plain v.page x
    plain_same x n = elim (reading x) [
      | low l ↦ plain-low w.page x l ∙ sym (plain-low v.page x l)
      | high g y ↦ rw y (plain-high w.page g ∙ L.page g (λ z. n (y ∙ ap (λ (c : ℕ). frame_word c) z)) ∙ sym (plain-high v.page g))
    ]

    frame_word' : (g j : ℕ) → Occupied w g → j < slot_count → plain w.page (w.word g j) ≡ m.map_word (w.page g) j
    frame_word' g j o hj = elim (word_case g j o hj) [
      | new x y ↦ rw (y, x, L.page_e) (plain-low w.page _ (omega (arith, T.below j hj, S.pages)) ∙ C.absent_word q j q_n q_absent hj)
      | hit x r y ↦ rw y (plain-high w.page e ∙ L.page_e
          ∙ sym (rw (x, r, L.page f (other f of)) (sym (C.frame_word f k of hk) ∙ ap (plain v.page) names ∙ plain-low v.page q low')))
      | same og y n ↦ rw (y, L.page g (other g og)) (plain_same _ (λ c. other e (S.child g j e og hj c).occupied refl) ∙ C.frame_word g j og hj)
    ]

    pub load-content : Content w m
    load-content = record {
      frame_word = frame_word';
      frame_mark = λ g j o hj. elim (ℕ_discrete g e) [
        | yes a ↦ rw (a, L.page_e) (L.mark_e j hj ∙ C.absent_mark q j q_n q_absent hj)
        | no a ↦ rw (L.mark g j (was g o a).lt hj a, L.page g a) (C.frame_mark g j (was g o a) hj)
      ];
      frame_byte = λ g i o h l. elim (ℕ_discrete g e) [
        | yes a ↦ rw (a, L.page_e) (L.bytes_e i h l ∙ C.absent_byte q i q_n q_absent h l)
        | no a ↦ rw (L.bytes g i (was g o a).lt h l a, L.page g a) (C.frame_byte g i (was g o a) h l)
      ];
      absent_word = λ p j hp a hj. L.store_word p j (rw L.same_n at hp) hj ∙ C.absent_word p j (rw L.same_n at hp) (absent_was p a) hj;
      absent_mark = λ p j hp a hj. L.store_mark p j (rw L.same_n at hp) hj ∙ C.absent_mark p j (rw L.same_n at hp) (absent_was p a) hj;
      absent_byte = λ p i hp a h l. L.store_bytes p i (rw L.same_n at hp) l ∙ C.absent_byte p i (rw L.same_n at hp) (absent_was p a) h l;
      clean_word = λ g j o d hj. elim (ℕ_discrete g e) [
        | yes a ↦ rw (a, L.page_e) (L.store_word q j q_n hj ∙ C.absent_word q j q_n q_absent hj)
        | no a ↦ rw (L.page g a) (L.store_word (v.page g) j (S.page_lt g (was g o a)) hj ∙ C.clean_word g j (was g o a) (sym (L.dirty g a) ∙ d) hj)
      ];
      clean_mark = λ g j o d hj. elim (ℕ_discrete g e) [
        | yes a ↦ rw (a, L.page_e) (L.store_mark q j q_n hj ∙ C.absent_mark q j q_n q_absent hj)
        | no a ↦ rw (L.page g a) (L.store_mark (v.page g) j (S.page_lt g (was g o a)) hj ∙ C.clean_mark g j (was g o a) (sym (L.dirty g a) ∙ d) hj)
      ];
      clean_byte = λ g i o d h l. elim (ℕ_discrete g e) [
        | yes a ↦ rw (a, L.page_e) (L.store_bytes q i q_n l ∙ C.absent_byte q i q_n q_absent h l)
        | no a ↦ rw (L.page g a) (L.store_bytes (v.page g) i (S.page_lt g (was g o a)) l ∙ C.clean_byte g i (was g o a) (sym (L.dirty g a) ∙ d) h l)
      ];
      store_plain = λ p j hp hj. rw (L.store_word p j (rw L.same_n at hp) hj) (C.store_plain p j (rw L.same_n at hp) hj);
      dirty_free = λ g o d p j hp hj x. elim (ℕ_discrete g e) [
        | yes a ↦ absurd (clash (sym d ∙ ap w.dirty a ∙ L.dirty_e))
        | no a ↦ C.dirty_free g (was g o a) (sym (L.dirty g a) ∙ d) p j (rw L.same_n at hp) hj (x ∙ L.page g a)
      ];
    }
