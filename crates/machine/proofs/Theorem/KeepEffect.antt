-- Effects that move no page, on the view: pins, usage, dirty marks and payload bytes.
use Rattle.std.specs.Prelude.{◌≡◌, refl, true, false, ℕ, ◌≤◌, ◌<◌}
use Rattle.std.proofs.Common.{sym, ◌∙◌}
use Rattle.page.specs.Figures.{page_size, slot_count, payload_start}
use Rattle.page.specs.Word.{reading, low, high}
use Rattle.machine.specs.Moves.{plain}
use Rattle.machine.proofs.Laws.PlainLaws.{plain-low, plain-high}
use Rattle.machine.proofs.Theorem.View.{View, Reach, top, via, Occupied, Absent, Parent, Child, Shape, Map, Free, Content}

-- the same pages in the same frames, with the same parents
pub record Steady (v w : View) : Type 0 where
  pub same_f : w.F ≡ v.F
  pub same_n : w.N ≡ v.N
  pub roots : w.roots ≡ v.roots
  pub each : w.each ≡ v.each
  pub used : (g : ℕ) → w.used g ≡ v.used g
  pub page : (g : ℕ) → w.page g ≡ v.page g
  pub up : (g : ℕ) → w.up g ≡ v.up g
  pub up_slot : (g : ℕ) → w.up_slot g ≡ v.up_slot g

module _ (v w : View) (K : Steady v w) where
  pub steady-was : (g : ℕ) → Occupied w g → Occupied v g
  steady-was g o = record { lt = (rw K.same_f at o.lt); on = sym (K.used g) ∙ o.on }

  pub steady-is : (g : ℕ) → Occupied v g → Occupied w g
  steady-is g o = record { lt = rw K.same_f o.lt; on = K.used g ∙ o.on }

  pub steady-reach : (g : ℕ) → Reach v g → Reach w g
  steady-reach g (top l) = top {f = g} (rw K.roots l)
  steady-reach g (via r) = via {f = g} (rw (K.up g) (steady-reach (v.up g) r))

  pub steady-absent : (p : ℕ) → Absent v p → Absent w p
  steady-absent p a g o q = a g (steady-was g o) (sym (K.page g) ∙ q)

  pub steady-absent_was : (p : ℕ) → Absent w p → Absent v p
  steady-absent_was p a g o q = a g (steady-is g o) (K.page g ∙ q)

  pub steady-plain : (x : ℕ) → plain w.page x ≡ plain v.page x
  steady-plain x = elim (reading x) [
    | low l ↦ plain-low w.page x l ∙ sym (plain-low v.page x l)
    | high g q ↦ rw q (plain-high w.page g ∙ K.page g ∙ sym (plain-high v.page g))
  ]

-- and the same words
pub record KeptView (v w : View) : Type 0 where
  pub steady : Steady v w
  pub word : (g k : ℕ) → g < v.F → k < slot_count → w.word g k ≡ v.word g k
  pub mark : (g k : ℕ) → g < v.F → k < slot_count → w.mark g k ≡ v.mark g k

-- payload bytes and dirty marks change with the map's payload: a page that is clean afterwards was clean before, and its bytes stay; a page that gets dirty isn't locked
pub record Rewritten (v w : View) (m n : Map) : Type 0 where
  pub map_word : (p k : ℕ) → p < v.N → k < slot_count → n.map_word p k ≡ m.map_word p k
  pub map_mark : (p k : ℕ) → p < v.N → k < slot_count → n.map_mark p k ≡ m.map_mark p k
  pub bytes : (g i : ℕ) → Occupied v g → payload_start ≤ i → i < page_size → v.bytes g i ≡ m.map_bytes (v.page g) i → w.bytes g i ≡ n.map_bytes (v.page g) i
  pub store_word : (p k : ℕ) → p < v.N → k < slot_count → w.store_word p k ≡ v.store_word p k
  pub store_mark : (p k : ℕ) → p < v.N → k < slot_count → w.store_mark p k ≡ v.store_mark p k
  pub store_bytes : (p i : ℕ) → p < v.N → i < page_size → w.store_bytes p i ≡ v.store_bytes p i
  pub absent : (p i : ℕ) → p < v.N → Absent v p → i < page_size → n.map_bytes p i ≡ m.map_bytes p i
  pub clean : (g : ℕ) → Occupied v g → w.dirty g ≡ false → v.dirty g ≡ false
  pub free : (g : ℕ) → Occupied v g → w.dirty g ≡ true → (v.dirty g ≡ true → Free m v.N (v.page g)) → Free m v.N (v.page g)
  pub clean_bytes : (g i : ℕ) → Occupied v g → w.dirty g ≡ false → i < page_size → n.map_bytes (v.page g) i ≡ m.map_bytes (v.page g) i

-- neither payload nor dirty marks nor the map change
pub record Quiet (v w : View) : Type 0 where
  pub bytes : (g i : ℕ) → w.bytes g i ≡ v.bytes g i
  pub dirty : (g : ℕ) → w.dirty g ≡ v.dirty g
  pub store_word : (p k : ℕ) → w.store_word p k ≡ v.store_word p k
  pub store_mark : (p k : ℕ) → w.store_mark p k ≡ v.store_mark p k
  pub store_bytes : (p i : ℕ) → w.store_bytes p i ≡ v.store_bytes p i

pub quiet-rewritten : (v w : View) (m : Map) → Quiet v w → Rewritten v w m m
quiet-rewritten v w m Q = record {
  map_word = λ p k hp hk. refl;
  map_mark = λ p k hp hk. refl;
  bytes = λ g i o h l e. Q.bytes g i ∙ e;
  store_word = λ p k hp hk. Q.store_word p k;
  store_mark = λ p k hp hk. Q.store_mark p k;
  store_bytes = λ p i hp l. Q.store_bytes p i;
  absent = λ p i hp a l. refl;
  clean = λ g o e. sym (Q.dirty g) ∙ e;
  free = λ g o e h. h (sym (Q.dirty g) ∙ e);
  clean_bytes = λ g i o e l. refl;
}

module _ (v w : View) (K : KeptView v w) (S : Shape v) where
  abbrev T : Steady v w
  T = K.steady

  was : (g : ℕ) → Occupied w g → Occupied v g
  was = steady-was v w T

  is : (g : ℕ) → Occupied v g → Occupied w g
  is = steady-is v w T

  same : (g k : ℕ) → Occupied w g → k < slot_count → w.word g k ≡ v.word g k
  same g k o hk = K.word g k (was g o).lt hk

  pub kept-shape : Shape w
  kept-shape = record {
    least = rw T.same_f S.least;
    most = rw T.same_f S.most;
    some = rw T.same_n S.some;
    pages = rw T.same_n S.pages;
    some_roots = rw T.roots S.some_roots;
    root = λ f l. is f (S.root f (rw T.roots at l));
    root_page = λ f l. rw T.each (T.page f ∙ S.root_page f (rw T.roots at l));
    page_lt = λ g o. rw (T.same_n, T.page g) (S.page_lt g (was g o));
    apart = λ f g of og q. S.apart f g (was f of) (was g og) (sym (T.page f) ∙ q ∙ T.page g);
    parent = λ g o z. let P : Parent v g = S.parent g (was g o) (rw T.roots at z) in record {
      occupied = rw (T.up g) (is (v.up g) P.occupied);
      in_page = rw (T.up_slot g) P.in_page;
      names = rw (T.up g, T.up_slot g) (same (v.up g) (v.up_slot g) (is (v.up g) P.occupied) P.in_page ∙ P.names);
    };
    child = λ f k g o hk q. let C : Child v f k g = S.child f k g (was f o) hk (sym (same f k o hk) ∙ q) in
        record { occupied = is g C.occupied; not_root = rw T.roots C.not_root; back = T.up g ∙ C.back; back_slot = T.up_slot g ∙ C.back_slot };
    number_lt = λ f k o hk l. rw (same f k o hk, T.same_n) (S.number_lt f k (was f o) hk (rw (same f k o hk) at l));
    number_absent = λ f k o hk l z. rw (same f k o hk) (steady-absent v w T _ (S.number_absent f k (was f o) hk (rw (same f k o hk) at l) (rw (same f k o hk) at z)));
    once = λ f k g j of hk og hj q z l. S.once f k g j (was f of) hk (was g og) hj (sym (same f k of hk) ∙ q ∙ same g j og hj)
        (rw (same f k of hk) at z) (rw (same f k of hk) at l);
    reach = λ g o. steady-reach v w T g (S.reach g (was g o));
  }

  pub kept-content : (m n : Map) → Content v m → Rewritten v w m n → Content w n
  kept-content m n C R = record {
    frame_word = λ f k o hk. rw (same f k o hk, steady-plain v w T (v.word f k), T.page f) (C.frame_word f k (was f o) hk ∙ sym (R.map_word (v.page f) k (S.page_lt f (was f o)) hk));
    frame_mark = λ f k o hk. rw (T.page f) (K.mark f k (was f o).lt hk ∙ C.frame_mark f k (was f o) hk ∙ sym (R.map_mark (v.page f) k (S.page_lt f (was f o)) hk));
    frame_byte = λ f i o h l. rw (T.page f) (R.bytes f i (was f o) h l (C.frame_byte f i (was f o) h l));
    absent_word = λ p k hp a hk. let q : p < v.N = rw T.same_n at hp in
        R.store_word p k q hk ∙ C.absent_word p k q (steady-absent_was v w T p a) hk ∙ sym (R.map_word p k q hk);
    absent_mark = λ p k hp a hk. let q : p < v.N = rw T.same_n at hp in
        R.store_mark p k q hk ∙ C.absent_mark p k q (steady-absent_was v w T p a) hk ∙ sym (R.map_mark p k q hk);
    absent_byte = λ p i hp a h l. let q : p < v.N = rw T.same_n at hp in
        R.store_bytes p i q l ∙ C.absent_byte p i q (steady-absent_was v w T p a) h l ∙ sym (R.absent p i q (steady-absent_was v w T p a) l);
    clean_word = λ f k o d hk. let b : Occupied v f = was f o in let q : v.page f < v.N = S.page_lt f b in
        rw (T.page f) (R.store_word (v.page f) k q hk ∙ C.clean_word f k b (R.clean f b d) hk ∙ sym (R.map_word (v.page f) k q hk));
    clean_mark = λ f k o d hk. let b : Occupied v f = was f o in let q : v.page f < v.N = S.page_lt f b in
        rw (T.page f) (R.store_mark (v.page f) k q hk ∙ C.clean_mark f k b (R.clean f b d) hk ∙ sym (R.map_mark (v.page f) k q hk));
    clean_byte = λ f i o d h l. let b : Occupied v f = was f o in let q : v.page f < v.N = S.page_lt f b in
        rw (T.page f) (R.store_bytes (v.page f) i q l ∙ C.clean_byte f i b (R.clean f b d) h l ∙ sym (R.clean_bytes f i b d l));
    store_plain = λ p k hp hk. let q : p < v.N = rw T.same_n at hp in rw (R.store_word p k q hk) (C.store_plain p k q hk);
    dirty_free = λ f o d p k hp hk e. let q : p < v.N = rw T.same_n at hp in
        R.map_mark p k q hk ∙ R.free f (was f o) d (C.dirty_free f (was f o)) p k q hk (sym (R.map_word p k q hk) ∙ e ∙ T.page f);
  }
