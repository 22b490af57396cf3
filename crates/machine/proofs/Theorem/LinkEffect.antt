-- A word that is a number becomes another number, on the view and in the map: link and unlink.
use Rattle.std.specs.Prelude.{◌≡◌, ◌≢◌, Bool, true, false, ℕ, ◌≤◌, ◌<◌}
use Rattle.std.proofs.Common.{sym, ap, ◌∙◌, arith}
use Rattle.std.proofs.Math.Decide.{ℕ_discrete, dec_lt}
use Rattle.page.specs.Figures.{page_size, slot_count, payload_start}
use Rattle.page.specs.Word.{frame_word, Number}
use Rattle.machine.specs.Moves.{plain}
use Rattle.rules.specs.TestLaws.{clash}
use Rattle.machine.proofs.Laws.PlainLaws.{plain-low, plain-high}
use Rattle.machine.proofs.Theorem.View.{View, Occupied, Absent, Parent, Child, Shape, Map, Free, Content, MapSound, NoRoot}
use Rattle.machine.proofs.Theorem.KeepEffect.{Steady, steady-was, steady-is, steady-reach, steady-absent, steady-absent_was, steady-plain}

-- slot k of frame f is y, with the mark l, and its page dirty
pub record LinkedView (v w : View) (f k y : ℕ) (l : Bool) : Type 0 where
  pub steady : Steady v w
  pub pins : (g : ℕ) → w.pins g ≡ v.pins g
  pub dirty_f : w.dirty f ≡ true
  pub dirty : (g : ℕ) → g ≢ f → w.dirty g ≡ v.dirty g
  pub word : w.word f k ≡ y
  pub word_page : (g j : ℕ) → g < v.F → j < slot_count → g ≢ f → w.word g j ≡ v.word g j
  pub word_slot : (g j : ℕ) → g < v.F → j < slot_count → j ≢ k → w.word g j ≡ v.word g j
  pub mark : w.mark f k ≡ l
  pub mark_page : (g j : ℕ) → g < v.F → j < slot_count → g ≢ f → w.mark g j ≡ v.mark g j
  pub mark_slot : (g j : ℕ) → g < v.F → j < slot_count → j ≢ k → w.mark g j ≡ v.mark g j
  pub bytes : (g i : ℕ) → g < v.F → payload_start ≤ i → i < page_size → w.bytes g i ≡ v.bytes g i
  pub store_word : (p j : ℕ) → p < v.N → j < slot_count → w.store_word p j ≡ v.store_word p j
  pub store_mark : (p j : ℕ) → p < v.N → j < slot_count → w.store_mark p j ≡ v.store_mark p j
  pub store_bytes : (p i : ℕ) → p < v.N → i < page_size → w.store_bytes p i ≡ v.store_bytes p i

-- slot k of page p is y in the map, with the mark l
pub record MapLinked (m n : Map) (N p k y : ℕ) (l : Bool) : Type 0 where
  pub word : n.map_word p k ≡ y
  pub word_page : (q j : ℕ) → q < N → j < slot_count → q ≢ p → n.map_word q j ≡ m.map_word q j
  pub word_slot : (q j : ℕ) → q < N → j < slot_count → j ≢ k → n.map_word q j ≡ m.map_word q j
  pub mark : n.map_mark p k ≡ l
  pub mark_page : (q j : ℕ) → q < N → j < slot_count → q ≢ p → n.map_mark q j ≡ m.map_mark q j
  pub mark_slot : (q j : ℕ) → q < N → j < slot_count → j ≢ k → n.map_mark q j ≡ m.map_mark q j
  pub bytes : (q i : ℕ) → q < N → payload_start ≤ i → i < page_size → n.map_bytes q i ≡ m.map_bytes q i

-- page y is named by no word of the map, or is 0
abbrev pub Unnamed : Map → ℕ → ℕ → Type 0
Unnamed m N y = y ≢ 0 → (p k : ℕ) → p < N → k < slot_count → m.map_word p k ≢ y

-- ---- the map stays sound

module _ (m n : Map) (N p k y : ℕ) (l : Bool) (M : MapLinked m n N p k y l) where
  -- a word of the map afterwards
  data MapCase (q j : ℕ) : Type 0 where
    changed : q ≡ p → j ≡ k → n.map_word q j ≡ y → n.map_mark q j ≡ l → MapCase q j
    stays : n.map_word q j ≡ m.map_word q j → n.map_mark q j ≡ m.map_mark q j → MapCase q j

  map_case : (q j : ℕ) → q < N → j < slot_count → MapCase q j
  map_case q j hq hj = elim (ℕ_discrete q p) [
    | yes a ↦ elim (ℕ_discrete j k) [ yes b ↦ changed a b (rw (a, b) M.word) (rw (a, b) M.mark) | no b ↦ stays (M.word_slot q j hq hj b) (M.mark_slot q j hq hj b) ]
    | no a ↦ stays (M.word_page q j hq hj a) (M.mark_page q j hq hj a)
  ]

  pub link-sound : (roots each : ℕ) → y < N → Unnamed m N y → (y ≢ 0 → NoRoot roots each y) → MapSound m N roots each → MapSound n N roots each
  link-sound roots each y_n fresh nr S = record {
    not_root = λ q j hq hj z. elim (map_case q j hq hj) [ changed a b c x ↦ rw c (nr (rw c at z)) | stays c x ↦ rw c (S.not_root q j hq hj (rw c at z)) ];
    below = λ q j hq hj. elim (map_case q j hq hj) [ changed a b c x ↦ rw c y_n | stays c x ↦ rw c (S.below q j hq hj) ];
    once = λ q j r i hq hj hr hi z e. elim (map_case q j hq hj) [
      | changed a b c x ↦ elim (map_case r i hr hi) [
        | changed a' b' c' x' ↦ (a ∙ sym a', b ∙ sym b')
        | stays c' x' ↦ absurd (fresh (omega arith) r i hr hi (sym c' ∙ sym e ∙ c))
      ]
      | stays c x ↦ elim (map_case r i hr hi) [
        | changed a' b' c' x' ↦ absurd (fresh (omega arith) q j hq hj (sym c ∙ e ∙ c'))
        | stays c' x' ↦ S.once q j r i hq hj hr hi (omega arith) (sym c ∙ e ∙ c')
      ]
    ];
  }

-- ---- what the map doesn't name, no resident page's image names, and it isn't resident

module _ (v : View) (m : Map) (S : Shape v) (C : Content v m) (y : ℕ) (fresh : Unnamed m v.N y) (no_root : y ≢ 0 → NoRoot v.roots v.each y) (nz : y ≢ 0) where
  unnamed-image : (g i : ℕ) → Occupied v g → i < slot_count → plain v.page (v.word g i) ≢ y
  unnamed-image g i o hi q = fresh nz (v.page g) i (S.page_lt g o) hi (sym (C.frame_word g i o hi) ∙ q)

  unnamed-absent : Absent v y
  unnamed-absent g o q = elim (dec_lt g v.roots) [
    | yes l ↦ no_root nz g l (sym q ∙ S.root_page g l)
    | no l ↦ let z : v.roots ≤ g = omega arith in let P : Parent v g = S.parent g o z in
        unnamed-image (v.up g) (v.up_slot g) P.occupied P.in_page (ap (plain v.page) P.names ∙ plain-high v.page g ∙ q)
  ]

-- ---- shape and content

module _ (v w : View) (f k y : ℕ) (l : Bool) (S : Shape v) (L : LinkedView v w f k y l) (of : Occupied v f) (hk : k < slot_count) (old : Number (v.word f k)) (y_n : y < v.N)
    (m : Map) (C : Content v m) (fresh : Unnamed m v.N y) (no_root : y ≢ 0 → NoRoot v.roots v.each y) where
  abbrev T : Steady v w
  T = L.steady

  is : (g : ℕ) → Occupied v g → Occupied w g
  is = steady-is v w T

  was : (g : ℕ) → Occupied w g → Occupied v g
  was = steady-was v w T

  y_low : Number y
  y_low = omega (arith, S.pages)

  -- a word afterwards: the new one, or one that stays
  data WordCase (g j : ℕ) : Type 0 where
    hit : g ≡ f → j ≡ k → w.word g j ≡ y → WordCase g j
    same : w.word g j ≡ v.word g j → (g ≡ f → j ≡ k → ⊥) → WordCase g j

  word_case : (g j : ℕ) → Occupied v g → j < slot_count → WordCase g j
  word_case g j o hj = elim (ℕ_discrete g f) [
    | yes a ↦ elim (ℕ_discrete j k) [ yes b ↦ hit a b (rw (a, b) L.word) | no b ↦ same (L.word_slot g j o.lt hj b) (λ x z. b z) ]
    | no a ↦ same (L.word_page g j o.lt hj a) (λ x z. a x)
  ]

  -- a swizzled word is not the one that changes
  high_same : (g j x : ℕ) → Occupied v g → j < slot_count → v.word g j ≡ frame_word x → w.word g j ≡ v.word g j
  high_same g j x o hj q = elim (word_case g j o hj) [
    | hit a b c ↦ absurd (omega (arith, old, sym (ap (λ (z : ℕ). v.word z j) a ∙ ap (λ (z : ℕ). v.word f z) b) ∙ q))
    | same c d ↦ c
  ]

  -- a number that stays isn't y
  not_y : (g j : ℕ) → Occupied v g → j < slot_count → Number (v.word g j) → y ≢ 0 → v.word g j ≢ y
  not_y g j o hj l z q = unnamed-image v m S C y fresh no_root z g j o hj (plain-low v.page _ l ∙ q)

  pub link-shape : Shape w
  link-shape = record {
    least = rw T.same_f S.least;
    most = rw T.same_f S.most;
    some = rw T.same_n S.some;
    pages = rw T.same_n S.pages;
    some_roots = rw T.roots S.some_roots;
    root = λ f l. is f (S.root f (rw T.roots at l));
    root_page = λ f l. rw T.each (T.page f ∙ S.root_page f (rw T.roots at l));
    page_lt = λ g o. rw (T.same_n, T.page g) (S.page_lt g (was g o));
    apart = λ a b oa ob q. S.apart a b (was a oa) (was b ob) (sym (T.page a) ∙ q ∙ T.page b);
    parent = λ g o z. let P : Parent v g = S.parent g (was g o) (rw T.roots at z) in record {
      occupied = rw (T.up g) (is (v.up g) P.occupied);
      in_page = rw (T.up_slot g) P.in_page;
      names = rw (T.up g, T.up_slot g) (high_same (v.up g) (v.up_slot g) g P.occupied P.in_page P.names ∙ P.names);
    };
    child = λ a j g o hj q. elim (word_case a j (was a o) hj) [
      | hit x z c ↦ absurd (omega (arith, y_low))
      | same c d ↦ let D : Child v a j g = S.child a j g (was a o) hj (sym c ∙ q) in
          record { occupied = is g D.occupied; not_root = rw T.roots D.not_root; back = T.up g ∙ D.back; back_slot = T.up_slot g ∙ D.back_slot }
    ];
    number_lt = λ a j o hj l. elim (word_case a j (was a o) hj) [
      | hit x z c ↦ rw (c, T.same_n) y_n
      | same c d ↦ rw (c, T.same_n) (S.number_lt a j (was a o) hj (rw c at l))
    ];
    number_absent = λ a j o hj l z. elim (word_case a j (was a o) hj) [
      | hit x b c ↦ rw c (steady-absent v w T y (unnamed-absent v m S C y fresh no_root (rw c at z)))
      | same c d ↦ rw c (steady-absent v w T _ (S.number_absent a j (was a o) hj (rw c at l) (rw c at z)))
    ];
    once = λ a i b j oa hi ob hj q z l. elim (word_case a i (was a oa) hi) [
      | hit x1 x2 x3 ↦ elim (word_case b j (was b ob) hj) [
        | hit y1 y2 y3 ↦ (x1 ∙ sym y1, x2 ∙ sym y2)
        | same y3 d ↦ absurd (not_y b j (was b ob) hj (omega arith) (omega arith) (sym y3 ∙ sym q ∙ x3))
      ]
      | same x3 d ↦ elim (word_case b j (was b ob) hj) [
        | hit y1 y2 y3 ↦ absurd (not_y a i (was a oa) hi (omega arith) (omega arith) (sym x3 ∙ q ∙ y3))
        | same y3 d' ↦ S.once a i b j (was a oa) hi (was b ob) hj (sym x3 ∙ q ∙ y3) (omega arith) (omega arith)
      ]
    ];
    reach = λ g o. steady-reach v w T g (S.reach g (was g o));
  }

  -- where the page that changes isn't locked, and nothing gets no mark
  module _ (n : Map) (M : MapLinked m n v.N (v.page f) k y l) (free : Free m v.N (v.page f)) (bare : y ≡ 0 → l ≡ false) where
    -- the map's word of any other place of a page, resident or not
    map_same : (p j : ℕ) → p < v.N → j < slot_count → (p ≡ v.page f → j ≡ k → ⊥) → n.map_word p j ≡ m.map_word p j
    map_same p j hp hj d = elim (map_case m n v.N (v.page f) k y l M p j hp hj) [ changed a b c e ↦ absurd (d a b) | stays c e ↦ c ]

    mark_same : (p j : ℕ) → p < v.N → j < slot_count → (p ≡ v.page f → j ≡ k → ⊥) → n.map_mark p j ≡ m.map_mark p j
    mark_same p j hp hj d = elim (map_case m n v.N (v.page f) k y l M p j hp hj) [ changed a b c e ↦ absurd (d a b) | stays c e ↦ e ]

    -- a frame's mark, where the word isn't the new one
    frame_mark_same : (g j : ℕ) → Occupied v g → j < slot_count → (g ≡ f → j ≡ k → ⊥) → w.mark g j ≡ v.mark g j
    frame_mark_same g j o hj d = elim (ℕ_discrete g f) [ yes a ↦ L.mark_slot g j o.lt hj (d a) | no a ↦ L.mark_page g j o.lt hj a ]

    -- what is dirty isn't locked, before and after
    free_was : (g : ℕ) → Occupied v g → w.dirty g ≡ true → Free m v.N (v.page g)
    free_was g o d = elim (ℕ_discrete g f) [ yes a ↦ rw a free | no a ↦ C.dirty_free g o (sym (L.dirty g a) ∙ d) ]

    free_is : (g : ℕ) → Occupied v g → w.dirty g ≡ true → Free n v.N (v.page g)
    free_is g o d p j hp hj e = elim (map_case m n v.N (v.page f) k y l M p j hp hj) [
      | stays c x ↦ x ∙ free_was g o d p j hp hj (sym c ∙ e)
      | changed a b c x ↦ x ∙ elim (ℕ_discrete y 0) [
        | yes z ↦ bare z
        | no z ↦ absurd (unnamed-absent v m S C y fresh no_root z g o (sym e ∙ c))
      ]
    ]

    not_f : (g : ℕ) → w.dirty g ≡ false → g ≢ f
    not_f g d q = clash (sym L.dirty_f ∙ sym (ap w.dirty q) ∙ d)

    pub link-content : Content w n
    link-content = record {
      frame_word = λ g j o hj. let og : Occupied v g = was g o in rw (T.page g) (elim (word_case g j og hj) [
        | hit a b c ↦ rw (c, a, b) (plain-low w.page y y_low ∙ sym M.word)
        | same c d ↦ rw c (steady-plain v w T _ ∙ C.frame_word g j og hj ∙ sym (map_same (v.page g) j (S.page_lt g og) hj (λ x z. d (S.apart g f og of x) z)))
      ]);
      frame_mark = λ g j o hj. let og : Occupied v g = was g o in rw (T.page g) (elim (word_case g j og hj) [
        | hit a b c ↦ rw (a, b) (L.mark ∙ sym M.mark)
        | same c d ↦ frame_mark_same g j og hj d ∙ C.frame_mark g j og hj ∙ sym (mark_same (v.page g) j (S.page_lt g og) hj (λ x z. d (S.apart g f og of x) z))
      ]);
      frame_byte = λ g i o h l. let og : Occupied v g = was g o in
          rw (T.page g) (L.bytes g i og.lt h l ∙ C.frame_byte g i og h l ∙ sym (M.bytes (v.page g) i (S.page_lt g og) h l));
      absent_word = λ p j hp a hj. let q : p < v.N = rw T.same_n at hp in let b : Absent v p = steady-absent_was v w T p a in
          L.store_word p j q hj ∙ C.absent_word p j q b hj ∙ sym (map_same p j q hj (λ x z. b f of (sym x)));
      absent_mark = λ p j hp a hj. let q : p < v.N = rw T.same_n at hp in let b : Absent v p = steady-absent_was v w T p a in
          L.store_mark p j q hj ∙ C.absent_mark p j q b hj ∙ sym (mark_same p j q hj (λ x z. b f of (sym x)));
      absent_byte = λ p i hp a h l. let q : p < v.N = rw T.same_n at hp in
          L.store_bytes p i q l ∙ C.absent_byte p i q (steady-absent_was v w T p a) h l ∙ sym (M.bytes p i q h l);
      clean_word = λ g j o d hj. let og : Occupied v g = was g o in let q : v.page g < v.N = S.page_lt g og in rw (T.page g)
          (L.store_word (v.page g) j q hj ∙ C.clean_word g j og (sym (L.dirty g (not_f g d)) ∙ d) hj ∙ sym (map_same (v.page g) j q hj (λ x z. not_f g d (S.apart g f og of x))));
      clean_mark = λ g j o d hj. let og : Occupied v g = was g o in let q : v.page g < v.N = S.page_lt g og in rw (T.page g)
          (L.store_mark (v.page g) j q hj ∙ C.clean_mark g j og (sym (L.dirty g (not_f g d)) ∙ d) hj ∙ sym (mark_same (v.page g) j q hj (λ x z. not_f g d (S.apart g f og of x))));
      clean_byte = λ g i o d h l. let og : Occupied v g = was g o in let q : v.page g < v.N = S.page_lt g og in rw (T.page g)
          (L.store_bytes (v.page g) i q l ∙ C.clean_byte g i og (sym (L.dirty g (not_f g d)) ∙ d) h l ∙ sym (M.bytes (v.page g) i q h l));
      store_plain = λ p j hp hj. let q : p < v.N = rw T.same_n at hp in rw (L.store_word p j q hj) (C.store_plain p j q hj);
      dirty_free = λ g o d. rw (T.same_n, T.page g) (free_is g (was g o) d);
    }
