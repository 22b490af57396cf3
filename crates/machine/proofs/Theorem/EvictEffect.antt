-- A page leaves its frame, on the view: its image is in the store, its parent's word a number again.
use Rattle.std.specs.Prelude.{◌≡◌, ◌≢◌, true, false, ℕ, ◌≤◌, ◌<◌}
use Rattle.std.proofs.Common.{sym, ap, ◌∙◌, arith}
use Rattle.std.proofs.Math.Decide.{ℕ_discrete, dec_lt}
use Rattle.page.specs.Figures.{page_size, slot_count, payload_start}
use Rattle.page.specs.Word.{frame_word, Number, reading, low, high, frame-word-inj}
use Rattle.machine.specs.Moves.{plain}
use Rattle.rules.specs.TestLaws.{clash, case, on, off}
use Rattle.machine.proofs.Laws.PlainLaws.{plain-low, plain-high}
use Rattle.machine.proofs.Theorem.View.{View, Reach, top, via, Occupied, Absent, Parent, Child, Shape, Map, Content}

-- frame e is emptied
pub record Evicted (v w : View) (e : ℕ) : Type 0 where
  pub same_f : w.F ≡ v.F
  pub same_n : w.N ≡ v.N
  pub roots : w.roots ≡ v.roots
  pub each : w.each ≡ v.each
  pub gone : w.used e ≡ false
  pub used : (g : ℕ) → g ≢ e → w.used g ≡ v.used g
  pub page : (g : ℕ) → g ≢ e → w.page g ≡ v.page g
  pub up : (g : ℕ) → g ≢ e → w.up g ≡ v.up g
  pub up_slot : (g : ℕ) → g ≢ e → w.up_slot g ≡ v.up_slot g
  pub dirty : (g : ℕ) → g ≢ e → w.dirty g ≡ v.dirty g
  pub pins : (g : ℕ) → g ≢ e → w.pins g ≡ v.pins g
  pub word_at_parent : w.word (v.up e) (v.up_slot e) ≡ v.page e
  pub word_page : (g k : ℕ) → g < v.F → k < slot_count → g ≢ e → g ≢ v.up e → w.word g k ≡ v.word g k
  pub word_slot : (g k : ℕ) → g < v.F → k < slot_count → g ≢ e → k ≢ v.up_slot e → w.word g k ≡ v.word g k
  -- its mark stays, as all marks do
  pub mark : (g k : ℕ) → g < v.F → k < slot_count → w.mark g k ≡ v.mark g k
  pub bytes : (g i : ℕ) → g < v.F → payload_start ≤ i → i < page_size → w.bytes g i ≡ v.bytes g i
  pub dirty_word : (k : ℕ) → v.dirty e ≡ true → k < slot_count → w.store_word (v.page e) k ≡ plain v.page (v.word e k)
  pub dirty_mark : (k : ℕ) → v.dirty e ≡ true → k < slot_count → w.store_mark (v.page e) k ≡ v.mark e k
  pub dirty_bytes : (i : ℕ) → v.dirty e ≡ true → payload_start ≤ i → i < page_size → w.store_bytes (v.page e) i ≡ v.bytes e i
  pub store_word : (p k : ℕ) → p < v.N → k < slot_count → (p ≡ v.page e → v.dirty e ≡ false) → w.store_word p k ≡ v.store_word p k
  pub store_mark : (p k : ℕ) → p < v.N → k < slot_count → (p ≡ v.page e → v.dirty e ≡ false) → w.store_mark p k ≡ v.store_mark p k
  pub store_bytes : (p i : ℕ) → p < v.N → i < page_size → (p ≡ v.page e → v.dirty e ≡ false) → w.store_bytes p i ≡ v.store_bytes p i

module _ (v w : View) (e : ℕ) (E : Evicted v w e) where
  -- what is occupied afterwards was before, and is not e
  pub evicted-other : (g : ℕ) → Occupied w g → g ≢ e
  evicted-other g o q = clash (sym o.on ∙ ap w.used q ∙ E.gone)

  pub evicted-was : (g : ℕ) → Occupied w g → Occupied v g
  evicted-was g o = record { lt = (rw E.same_f at o.lt); on = sym (E.used g (evicted-other g o)) ∙ o.on }

  pub evicted-is : (g : ℕ) → Occupied v g → g ≢ e → Occupied w g
  evicted-is g o n = record { lt = rw E.same_f o.lt; on = E.used g n ∙ o.on }

  evicted-absent : (p : ℕ) → Absent v p → Absent w p
  evicted-absent p a g o q = a g (evicted-was g o) (sym (E.page g (evicted-other g o)) ∙ q)

  pub evicted-absent_was : (p : ℕ) → Absent w p → p ≢ v.page e → Absent v p
  evicted-absent_was p a n g o q = elim (ℕ_discrete g e) [ yes z ↦ n (sym q ∙ ap v.page z) | no z ↦ a g (evicted-is g o z) (E.page g z ∙ q) ]

module _ (v w : View) (e : ℕ) (S : Shape v) (E : Evicted v w e) (oe : Occupied v e) (ne : v.roots ≤ e)
    (leaf : (k : ℕ) → k < slot_count → Number (v.word e k)) where
  other : (g : ℕ) → Occupied w g → g ≢ e
  other = evicted-other v w e E

  was : (g : ℕ) → Occupied w g → Occupied v g
  was = evicted-was v w e E

  is : (g : ℕ) → Occupied v g → g ≢ e → Occupied w g
  is = evicted-is v w e E

  -- e is a leaf: nobody's parent
  not_up : (g : ℕ) → Occupied v g → v.roots ≤ g → v.up g ≢ e
  not_up g o z q =
      let P : Parent v g = S.parent g o z in
      let l : Number (v.word e (v.up_slot g)) = leaf (v.up_slot g) P.in_page in
      let h : v.word e (v.up_slot g) ≡ frame_word g = rw q at P.names in
      omega arith

  reached : (g : ℕ) → Reach v g → Occupied v g → g ≢ e → Reach w g
  reached g (top l) o n = top {f = g} (rw E.roots l)
  reached g (via r) o n = elim (dec_lt g v.roots) [
    | yes l ↦ top {f = g} (rw E.roots l)
    | no l ↦ let z : v.roots ≤ g = omega arith in via {f = g} (rw (E.up g n) (reached (v.up g) r (S.parent g o z).occupied (not_up g o z)))
  ]

  -- a word afterwards: the parent's, or one that stays
  data WordCase (g k : ℕ) : Type 0 where
    hit : g ≡ v.up e → k ≡ v.up_slot e → w.word g k ≡ v.page e → WordCase g k
    same : w.word g k ≡ v.word g k → v.word g k ≢ frame_word e → WordCase g k

  word_case : (g k : ℕ) → Occupied v g → g ≢ e → k < slot_count → WordCase g k
  word_case g k o n hk =
      elim (ℕ_discrete g (v.up e)) [
        | yes p ↦ elim (ℕ_discrete k (v.up_slot e)) [
          | yes q ↦ hit p q (rw (p, q) E.word_at_parent)
          | no q ↦ same (E.word_slot g k o.lt hk n q) (λ x. q (sym (S.child g k e o hk x).back_slot))
        ]
        | no p ↦ same (E.word_page g k o.lt hk n p) (λ x. p (sym (S.child g k e o hk x).back))
      ]

  gone_absent : Absent w (v.page e)
  gone_absent g o q = other g o (S.apart g e (was g o) oe (sym (E.page g (other g o)) ∙ q))

  page_low : Number (v.page e)
  page_low = omega (arith, S.page_lt e oe, S.pages)

  parent' : (g : ℕ) → Occupied w g → w.roots ≤ g → Parent w g
  parent' g o y =
      let z : v.roots ≤ g = rw E.roots at y in
      let n : g ≢ e = other g o in
      let P : Parent v g = S.parent g (was g o) z in
      let up : w.up g ≡ v.up g = E.up g n in
      let at : w.up_slot g ≡ v.up_slot g = E.up_slot g n in
      record {
        occupied = rw up (is (v.up g) P.occupied (not_up g (was g o) z));
        in_page = rw at P.in_page;
        names = rw (up, at) (elim (word_case (v.up g) (v.up_slot g) P.occupied (not_up g (was g o) z) P.in_page) [
          | hit p q x ↦ absurd (n (frame-word-inj _ _
              (sym P.names ∙ ap (λ (a : ℕ). v.word a (v.up_slot g)) p ∙ ap (λ (a : ℕ). v.word (v.up e) a) q ∙ (S.parent e oe ne).names)))
          | same x y ↦ x ∙ P.names
        ]);
      }

  child' : (f k g : ℕ) → Occupied w f → k < slot_count → w.word f k ≡ frame_word g → Child w f k g
  child' f k g o hk q = elim (word_case f k (was f o) (other f o) hk) [
    | hit a b x ↦ absurd (omega (arith, page_low))
    | same x y ↦
        let C : Child v f k g = S.child f k g (was f o) hk (sym x ∙ q) in
        let n : g ≢ e = λ z. y (sym x ∙ q ∙ ap (λ (a : ℕ). frame_word a) z) in
        record { occupied = is g C.occupied n; not_root = rw E.roots C.not_root; back = E.up g n ∙ C.back; back_slot = E.up_slot g n ∙ C.back_slot }
  ]

  number_lt' : (f k : ℕ) → Occupied w f → k < slot_count → Number (w.word f k) → w.word f k < w.N
  number_lt' f k o hk l = elim (word_case f k (was f o) (other f o) hk) [
    | hit a b x ↦ rw (x, E.same_n) (S.page_lt e oe)
    | same x y ↦ rw (x, E.same_n) (S.number_lt f k (was f o) hk (rw x at l))
  ]

  number_absent' : (f k : ℕ) → Occupied w f → k < slot_count → Number (w.word f k) → w.word f k ≢ 0 → Absent w (w.word f k)
  number_absent' f k o hk l z = elim (word_case f k (was f o) (other f o) hk) [
    | hit a b x ↦ rw x gone_absent
    | same x y ↦ rw x (evicted-absent v w e E (v.word f k) (S.number_absent f k (was f o) hk (rw x at l) (rw x at z)))
  ]

  once' : (f k g j : ℕ) → Occupied w f → k < slot_count → Occupied w g → j < slot_count → w.word f k ≡ w.word g j → w.word f k ≢ 0 → Number (w.word f k) → (f ≡ g) × (k ≡ j)
  once' f k g j of hk og hj q z l =
      elim (word_case f k (was f of) (other f of) hk) [
        | hit a b x ↦ elim (word_case g j (was g og) (other g og) hj) [
          | hit c d y ↦ (a ∙ sym c, b ∙ sym d)
          | same y m ↦ absurd (S.number_absent g j (was g og) hj (omega arith) (omega arith) e oe (sym x ∙ q ∙ y))
        ]
        | same x m ↦ elim (word_case g j (was g og) (other g og) hj) [
          | hit c d y ↦ absurd (S.number_absent f k (was f of) hk (omega arith) (omega arith) e oe (sym y ∙ sym q ∙ x))
          | same y n ↦ S.once f k g j (was f of) hk (was g og) hj (sym x ∙ q ∙ y) (omega arith) (omega arith)
        ]
      ]

  pub evict-shape : Shape w
  evict-shape = record {
    least = rw E.same_f S.least;
    most = rw E.same_f S.most;
    some = rw E.same_n S.some;
    pages = rw E.same_n S.pages;
    some_roots = rw E.roots S.some_roots;
    root = λ f l. let h : f < v.roots = rw E.roots at l in is f (S.root f h) (λ q. omega arith);
    root_page = λ f l. let h : f < v.roots = rw E.roots at l in rw E.each (E.page f (λ q. omega arith) ∙ S.root_page f h);
    page_lt = λ g o. rw (E.same_n, E.page g (other g o)) (S.page_lt g (was g o));
    apart = λ f g of og q. S.apart f g (was f of) (was g og) (sym (E.page f (other f of)) ∙ q ∙ E.page g (other g og));
    parent = parent';
    child = child';
    number_lt = number_lt';
    number_absent = number_absent';
    once = once';
    reach = λ g o. reached g (S.reach g (was g o)) (was g o) (other g o);
  }

  -- ---- content

  module _ (m : Map) (C : Content v m) where
    plain_same : (f k : ℕ) → Occupied v f → f ≢ e → k < slot_count → plain w.page (w.word f k) ≡ plain v.page (v.word f k)
    plain_same f k o n hk = elim (word_case f k o n hk) [
      | hit a b x ↦ rw x (plain-low w.page (v.page e) page_low ∙ sym (ap (plain v.page) (rw (a, b) (S.parent e oe ne).names) ∙ plain-high v.page e))
      | same x y ↦ rw x (elim (reading (v.word f k)) [
        | low l ↦ plain-low w.page _ l ∙ sym (plain-low v.page _ l)
        | high g q ↦ rw q (plain-high w.page g ∙ E.page g (λ z. y (q ∙ ap (λ (c : ℕ). frame_word c) z)) ∙ sym (plain-high v.page g))
      ])
    ]

    -- the store now has the map's words and bytes of the page that went
    out_word : (k : ℕ) → k < slot_count → w.store_word (v.page e) k ≡ m.map_word (v.page e) k
    out_word k hk = elim (case (v.dirty e)) [
      | on d ↦ E.dirty_word k d hk ∙ C.frame_word e k oe hk
      | off d ↦ E.store_word (v.page e) k (S.page_lt e oe) hk (λ q. d) ∙ C.clean_word e k oe d hk
    ]

    out_mark : (k : ℕ) → k < slot_count → w.store_mark (v.page e) k ≡ m.map_mark (v.page e) k
    out_mark k hk = elim (case (v.dirty e)) [
      | on d ↦ E.dirty_mark k d hk ∙ C.frame_mark e k oe hk
      | off d ↦ E.store_mark (v.page e) k (S.page_lt e oe) hk (λ q. d) ∙ C.clean_mark e k oe d hk
    ]

    out_byte : (i : ℕ) → payload_start ≤ i → i < page_size → w.store_bytes (v.page e) i ≡ m.map_bytes (v.page e) i
    out_byte i h l = elim (case (v.dirty e)) [
      | on d ↦ E.dirty_bytes i d h l ∙ C.frame_byte e i oe h l
      | off d ↦ E.store_bytes (v.page e) i (S.page_lt e oe) l (λ q. d) ∙ C.clean_byte e i oe d h l
    ]

    -- which is the image that a leaf is
    out_plain : (k : ℕ) → k < slot_count → Number (w.store_word (v.page e) k)
    out_plain k hk = rw (out_word k hk, ← C.frame_word e k oe hk, plain-low v.page _ (leaf k hk)) (leaf k hk)

    -- another page's stays
    other_word : (p k : ℕ) → p < v.N → k < slot_count → p ≢ v.page e → w.store_word p k ≡ v.store_word p k
    other_word p k hp hk n = E.store_word p k hp hk (λ q. absurd (n q))

    other_mark : (p k : ℕ) → p < v.N → k < slot_count → p ≢ v.page e → w.store_mark p k ≡ v.store_mark p k
    other_mark p k hp hk n = E.store_mark p k hp hk (λ q. absurd (n q))

    other_byte : (p i : ℕ) → p < v.N → i < page_size → p ≢ v.page e → w.store_bytes p i ≡ v.store_bytes p i
    other_byte p i hp l n = E.store_bytes p i hp l (λ q. absurd (n q))

    other_page : (f : ℕ) → Occupied w f → v.page f ≢ v.page e
    other_page f o q = other f o (S.apart f e (was f o) oe q)

    pub evict-content : Content w m
    evict-content = record {
      frame_word = λ f k o hk. plain_same f k (was f o) (other f o) hk ∙ rw (E.page f (other f o)) (C.frame_word f k (was f o) hk);
      frame_mark = λ f k o hk. rw (E.mark f k (was f o).lt hk, E.page f (other f o)) (C.frame_mark f k (was f o) hk);
      frame_byte = λ f i o h l. rw (E.bytes f i (was f o).lt h l, E.page f (other f o)) (C.frame_byte f i (was f o) h l);
      absent_word = λ p k hp a hk. elim (ℕ_discrete p (v.page e)) [
        | yes z ↦ rw z (out_word k hk)
        | no z ↦ other_word p k (rw E.same_n at hp) hk z ∙ C.absent_word p k (rw E.same_n at hp) (evicted-absent_was v w e E p a z) hk
      ];
      absent_mark = λ p k hp a hk. elim (ℕ_discrete p (v.page e)) [
        | yes z ↦ rw z (out_mark k hk)
        | no z ↦ other_mark p k (rw E.same_n at hp) hk z ∙ C.absent_mark p k (rw E.same_n at hp) (evicted-absent_was v w e E p a z) hk
      ];
      absent_byte = λ p i hp a h l. elim (ℕ_discrete p (v.page e)) [
        | yes z ↦ rw z (out_byte i h l)
        | no z ↦ other_byte p i (rw E.same_n at hp) l z ∙ C.absent_byte p i (rw E.same_n at hp) (evicted-absent_was v w e E p a z) h l
      ];
      clean_word = λ f k o d hk. rw (E.page f (other f o))
          (other_word (v.page f) k (S.page_lt f (was f o)) hk (other_page f o) ∙ C.clean_word f k (was f o) (sym (E.dirty f (other f o)) ∙ d) hk);
      clean_mark = λ f k o d hk. rw (E.page f (other f o))
          (other_mark (v.page f) k (S.page_lt f (was f o)) hk (other_page f o) ∙ C.clean_mark f k (was f o) (sym (E.dirty f (other f o)) ∙ d) hk);
      clean_byte = λ f i o d h l. rw (E.page f (other f o))
          (other_byte (v.page f) i (S.page_lt f (was f o)) l (other_page f o) ∙ C.clean_byte f i (was f o) (sym (E.dirty f (other f o)) ∙ d) h l);
      store_plain = λ p k hp hk. elim (ℕ_discrete p (v.page e)) [
        | yes z ↦ rw z (out_plain k hk)
        | no z ↦ rw (other_word p k (rw E.same_n at hp) hk z) (C.store_plain p k (rw E.same_n at hp) hk)
      ];
      dirty_free = λ f o d p k hp hk q. C.dirty_free f (was f o) (sym (E.dirty f (other f o)) ∙ d) p k (rw E.same_n at hp) hk (q ∙ E.page f (other f o));
    }
