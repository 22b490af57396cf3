-- What noting a number makes of the table, and how a row of numbers is marked in it, one number after the other. Assumes nothing.
use Rattle.std.specs.Prelude.{ℕ, zero, suc, Option, MatchOption, ◌+◌, ◌*◌, ◌^◌, ◌<◌, ◌≤◌, ◌≡◌, ◌≢◌, Bool, true, false, List, eqb, ltb, length, set}
use Rattle.std.proofs.Math.Path.{refl}
use Rattle.std.specs.Option.{option_eq}
use Rattle.std.proofs.Common.{None, Some}
use Rattle.std.proofs.Common.{sym, ◌∙◌, ap, add-one, add-zero, add-suc, arith, length-set, get_or-set_same, get_or-set_other}
use Rattle.std.proofs.Math.Bool.{not}
use Rattle.std.proofs.Math.Decide.{dec_lt, ℕ_discrete}
use borrow.Author.Tests.{eq-eqb, ne_eqb, lt-ltb, ltb-true, not-true}
use Rattle.std.specs.Int.Bits.{bit_or}
use Rattle.std.proofs.Math.ListN.{get_or, get_or-eq_default}
use Rattle.std.proofs.lemmas.List.{length-replicate, get_or-replicate}
use Rattle.std.proofs.Math.Seq.{set_out}
use Rattle.page.specs.Figures.{word_size, most_pages}
use Rattle.page.specs.Word.{word_at, name_of, name_at}
use Rattle.page.proofs.NameLaws.{name-number}
use Rattle.page.specs.Page.{words_from}
use Rattle.rules.specs.Tests.{◌and◌, ◌or◌, every}
use Rattle.rules.specs.TestLaws.{clash, case, on, off, same, is-off, both, and-true, and_yes, and_no, or_left, or_right, or-second, or-none, or_off, every-zero, every_true, true-every, every-false}
use Rattle.seen.specs.Fold.{or_same}
use Rattle.seen.specs.Among.{among, among-zero, among-hit, among_none, has_any, not-any}
use Rattle.seen.specs.BitLaws.{bit-none, bit-set, one_bit, bit-other}
use Rattle.seen.specs.Seen.{Seen, none, noted, Table, Tells, OneStore, Marks, WithinStore, Notes, fresh, Marked, MarksOn, MarksTo, Large}

-- ---- the table's form: nothing noted, and a number noted by its bit, those of 0 taken back

-- an entry of 0 has no bit; and entries that are the same have the same
no-mark : (seen : Seen) (x : ℕ) → get_or seen x 0 ≡ 0 → (t : ℕ) → noted seen t x ≡ false
unfolding noted
no-mark seen x e t = rw (e, bit-none t) refl

same-marks : (before after : Seen) (x : ℕ) → get_or after x 0 ≡ get_or before x 0 → (t : ℕ) → noted after t x ≡ noted before t x
unfolding noted
same-marks before after x e t = rw e refl

-- in no store
pub none-noted : (t : ℕ) → Tells t none (λ x. false)
none-noted t = record {
  table = record { size = length-replicate {A = ℕ} most_pages 0; zero = no-mark none 0 (get_or-replicate {A = ℕ} most_pages 0 0 0 (omega arith)) };
  right = λ x p l. no-mark none x (get_or-replicate {A = ℕ} most_pages x 0 0 l) t;
}

module _ (t x : ℕ) (before : Seen) {marked : Seen} {new : Bool} (l : x < most_pages) (m : Marks t x before marked new) where
  size-marked : length marked ≡ length before
  size-marked = ap length m.stored ∙ length-set before x _

  entry-marked : x < length before → get_or marked x 0 ≡ bit_or (get_or before x 0) (2 ^ t)
  entry-marked h = rw m.stored (get_or-set_same before x _ 0 h)

  marked-here : Table before → noted marked t x ≡ true
  unfolding noted
  marked-here T = rw (entry-marked (omega (arith, T.size)), bit-set (get_or before x 0) t) refl

  marked_other : (y : ℕ) → x ≢ y → (u : ℕ) → noted marked u y ≡ noted before u y
  marked_other y n = same-marks before marked y (rw m.stored (get_or-set_other before x y _ 0 (λ e. n (sym e))))

  marked-elsewhere : (u : ℕ) → u ≢ t → (y : ℕ) → noted marked u y ≡ noted before u y
  unfolding noted
  marked-elsewhere u n y = elim (ℕ_discrete x y) [
    | yes e ↦ elim (dec_lt x (length before)) [
      | yes h ↦ rw (← e, entry-marked h, bit-other (get_or before x 0) t u n) refl
      | no h ↦ same-marks before marked y (ap (λ (b : Seen). get_or b y 0) (m.stored ∙ set_out before x _ (omega arith))) u
    ]
    | no e ↦ marked_other y e u
  ]

  marked-alone : t ≡ 0 → OneStore before → OneStore marked
  marked-alone z A = record {
    most = λ y. elim (ℕ_discrete y x) [
      | yes e ↦ elim (dec_lt x (length before)) [
        | yes h ↦ let q : get_or marked x 0 ≡ 1 = entry-marked h ∙ ap (λ (u : ℕ). bit_or (get_or before x 0) (2 ^ u)) z ∙ one_bit _ (A.most x) in rw e (omega arith)
        | no h ↦ rw (m.stored, set_out before x (bit_or (get_or before x 0) (2 ^ t)) (omega arith)) (A.most y)
      ]
      | no e ↦ rw (m.stored, get_or-set_other before x y (bit_or (get_or before x 0) (2 ^ t)) 0 e) (A.most y)
    ];
  }

  -- a number other than 0
  pub mark-notes : x ≢ 0 → Notes t x before marked new
  mark-notes n = record {
    answer = m.answer;
    within = record {
      table = λ T. record { size = size-marked ∙ T.size; zero = λ u. marked_other 0 n u ∙ T.zero u };
      alone = marked-alone;
      elsewhere = λ u d y z. marked-elsewhere u d y;
    };
    here = λ T z. marked-here T;
    others = λ y z k. marked_other y k t;
  }

  -- any number, the mark of 0 taken back
  abbrev unmarked : Seen
  unmarked = set marked 0 0

  unmarked-other : (y : ℕ) → y ≢ 0 → (u : ℕ) → noted unmarked u y ≡ noted marked u y
  unmarked-other y z = same-marks marked unmarked y (get_or-set_other marked 0 y 0 0 z)

  unmarked-alone : t ≡ 0 → OneStore before → OneStore unmarked
  unmarked-alone z A = record {
    most = λ y. elim (ℕ_discrete y 0) [
      | yes e ↦ elim (dec_lt 0 (length marked)) [
        | yes h ↦ rw (e, get_or-set_same marked 0 0 0 h) (omega arith)
        | no h ↦ rw (set_out marked 0 0 (omega arith)) ((marked-alone z A).most y)
      ]
      | no e ↦ rw (get_or-set_other marked 0 y 0 0 e) ((marked-alone z A).most y)
    ];
  }

  pub unmarked-notes : Notes t x before unmarked new
  unmarked-notes = record {
    answer = m.answer;
    within = record {
      table = λ T. record {
        size = length-set marked 0 0 ∙ size-marked ∙ T.size;
        zero = no-mark unmarked 0 (get_or-set_same marked 0 0 0 (omega (arith, size-marked, T.size)));
      };
      alone = unmarked-alone;
      elsewhere = λ u d y z. unmarked-other y z u ∙ marked-elsewhere u d y;
    };
    here = λ T n. unmarked-other x n t ∙ marked-here T;
    others = λ y z k. unmarked-other y z t ∙ marked_other y k t;
  }

-- store 0's mark, where no other store has any
pub marks-alone : (x : ℕ) (before : Seen) → OneStore before → Marks 0 x before (set before x 1) (eqb (get_or before x 0) 0)
unfolding noted
marks-alone x before A = record {
  answer = elim (ℕ_discrete (get_or before x 0) 0) [
    | yes z ↦ rw z refl
    | no z ↦ let o : get_or before x 0 ≡ 1 = omega (arith, A.most x) in rw o refl
  ];
  stored = ap (set before x) (sym (one_bit (get_or before x 0) (A.most x)));
}

pub none-alone : OneStore none
none-alone = record {
  most = λ x. elim (dec_lt x most_pages) [
    | yes l ↦ rw (get_or-replicate {A = ℕ} most_pages x 0 0 l) (omega arith)
    | no l ↦ rw (get_or-eq_default none 0 {n = x} (let e : length none ≡ most_pages = length-replicate {A = ℕ} most_pages 0 in omega arith)) (omega arith)
  ];
}

-- ---- what stays within a store

pub within_same : (t : ℕ) (seen : Seen) → WithinStore t seen seen
within_same t seen = record { table = λ T. T; alone = λ z A. A; elsewhere = λ u d x z. refl }

pub within-then : (t : ℕ) (before now after : Seen) → WithinStore t before now → WithinStore t now after → WithinStore t before after
within-then t before now after A B = record { table = λ T. B.table (A.table T); alone = λ z o. B.alone z (A.alone z o); elsewhere = λ u d x z. B.elsewhere u d x z ∙ A.elsewhere u d x z }

-- 0 is passed over
pub notes-zero : (t : ℕ) (seen : Seen) → Table seen → Notes t 0 seen seen true
notes-zero t seen T = record { answer = sym (ap not (T.zero t)); within = within_same t seen; here = λ T n. absurd (n refl); others = λ y z n. refl }

-- ---- what a table tells

pub tells-ext : (t : ℕ) (seen : Seen) (f g : ℕ → Bool) → Tells t seen f → ((x : ℕ) → 0 < x → x < most_pages → f x ≡ g x) → Tells t seen g
tells-ext t seen f g h e = record { table = h.table; right = λ x p l. h.right x p l ∙ e x p l }

-- what it tells of another store stays
pub tells-elsewhere : (t u : ℕ) → u ≢ t → (before after : Seen) → WithinStore t before after → (f : ℕ → Bool) → Tells u before f → Tells u after f
tells-elsewhere t u d before after W f h = record { table = W.table h.table; right = λ x p l. W.elsewhere u d x (λ z. omega arith) ∙ h.right x p l }

-- ---- a number that is fresh

pub record Fresh (seen : ℕ → Bool) (w : ℕ → ℕ) (N k : ℕ) : Type 0 where
  pub below : w k < N
  pub unseen : seen (w k) ≡ false
  pub first : among w k (w k) ≡ false

module _ (seen : ℕ → Bool) (w : ℕ → ℕ) (N k : ℕ) where
  pub fresh-zero : w k ≡ 0 → fresh seen w N k ≡ true
  unfolding fresh
  fresh-zero e = or_left _ (eq-eqb (w k) 0 e)

  pub fresh-new : Fresh seen w N k → fresh seen w N k ≡ true
  unfolding fresh
  fresh-new h = or_right (eqb (w k) 0) (both _ _ (lt-ltb (w k) N h.below) (both _ _ (ap not h.unseen) (ap not h.first)))

  pub fresh-is : fresh seen w N k ≡ true → w k ≢ 0 → Fresh seen w N k
  unfolding fresh
  fresh-is t n =
      let a = and-true (ltb (w k) N) _ (or-second (eqb (w k) 0) _ t (ne_eqb (w k) 0 n)) in
      let b = and-true (not (seen (w k))) _ a.1 in
      record { below = ltb-true (w k) N a.0; unseen = not-true _ b.0; first = not-true _ b.1 }

  pub not-fresh : w k ≢ 0 → (Fresh seen w N k → ⊥) → fresh seen w N k ≡ false
  not-fresh n h = is-off (fresh seen w N k) (λ t. h (fresh-is t n))

-- only what is told of numbers below N matters
pub fresh-ext : (s t : ℕ → Bool) (w : ℕ → ℕ) (N : ℕ) → ((x : ℕ) → 0 < x → x < N → s x ≡ t x) → (k : ℕ) → fresh s w N k ≡ fresh t w N k
fresh-ext s t w N h k = same _ _ (half s t h) (half t s (λ x p l. sym (h x p l)))
  where
    half : (a b : ℕ → Bool) → ((x : ℕ) → 0 < x → x < N → a x ≡ b x) → fresh a w N k ≡ true → fresh b w N k ≡ true
    half a b g e = elim (ℕ_discrete (w k) 0) [
      | yes z ↦ fresh-zero b w N k z
      | no z ↦
          let u = fresh-is a w N k e z in
          let l : w k < N = u.below in
          fresh-new b w N k (record { below = l; unseen = sym (g (w k) (omega arith) l) ∙ u.unseen; first = u.first })
    ]

-- ---- a row marked, one number after the other

every_more : (n : ℕ) (t : ℕ → Bool) → every (n + 1) t ≡ (every n t and t n)
unfolding every
every_more n t = rw (add-one n) refl

module _ (t : ℕ) (w : ℕ → ℕ) (N : ℕ) (before : Seen) where
  abbrev is_fresh : ℕ → Bool
  is_fresh = fresh (noted before t) w N

  pub marked-none : Table before → Marked t 0 w N before before true
  marked-none T = record {
    answer = sym (every-zero is_fresh);
    tells = λ e. record { table = T; right = λ x p l. sym (or_same (noted before t x) (among-zero w x)) };
    within = within_same t before;
  }

  -- once false, it stays so
  marked-false : (m n : ℕ) → m ≤ n → (after : Seen) → Marked t m w N before after false → Marked t n w N before after false
  marked-false m n l after M = record {
    answer = sym (is-off (every n is_fresh) (λ s. clash (sym (true-less s) ∙ sym M.answer)));
    tells = λ e. absurd (clash (sym e));
    within = M.within;
  }
    where
      true-less : every n is_fresh ≡ true → every m is_fresh ≡ true
      true-less s = true-every m is_fresh (λ i h. every_true n is_fresh s i (omega arith))

  module _ (m : ℕ) where
    -- number m is v, which isn't below N
    marked-large : (v : ℕ) → w m ≡ v → v ≢ 0 → N ≤ v → (now : Seen) → Marked t m w N before now true → Marked t (m + 1) w N before now false
    marked-large v e n l now M = record {
      answer = sym (every-false (m + 1) is_fresh m (omega arith) (not-fresh (noted before t) w N m (λ z. n (sym e ∙ z)) (λ h. let b : w m < N = h.below in omega arith)));
      tells = λ z. absurd (clash (sym z));
      within = M.within;
    }

    -- number m is v, and v was noted
    module _ (few : N ≤ most_pages) (now : Seen) (v : ℕ) (here : w m ≡ v) (small : v ≢ 0 → v < N) (next : Seen) (new : Bool) (S : Notes t v now next new) where
      other : (y : ℕ) → y ≢ 0 → v ≢ y → (T : Tells t now (λ x. noted before t x or among w m x)) → 0 < y → y < most_pages → noted next t y ≡ (noted before t y or among w (m + 1) y)
      other y z n T p l = S.others y z n ∙ T.right y p l ∙ ap (λ (b : Bool). noted before t y or b) (sym (among_none w m y (λ e. n (sym here ∙ e))))

      going : Tells t now (λ x. noted before t x or among w m x) → Tells t next (λ x. noted before t x or among w (m + 1) x)
      going T = record {
        table = S.within.table T.table;
        right = λ y p l. elim (ℕ_discrete v y) [
          | yes e ↦ let n : v ≢ 0 = λ z. omega arith in rw (← e) (S.here T.table n ∙ sym (or_right (noted before t v) (among-hit w m v here)))
          | no e ↦ other y (λ z. omega arith) e T p l
        ];
      }

      fresh-here : Tells t now (λ x. noted before t x or among w m x) → is_fresh m ≡ new
      fresh-here T = elim (ℕ_discrete v 0) [
        | yes z ↦ fresh-zero (noted before t) w N m (here ∙ z) ∙ sym (S.answer ∙ ap not (ap (noted now t) z ∙ T.table.zero t))
        | no z ↦
            let l : v < N = small z in
            let known : noted now t v ≡ (noted before t v or among w m v) = T.right v (omega arith) (omega arith) in
            elim (case (noted now t v)) [
              | on u ↦ not-fresh (noted before t) w N m (λ q. z (sym here ∙ q)) (λ h. clash (sym u ∙ known ∙ or_off {a = noted before t v} (rw here at h.unseen) (rw here at h.first))) ∙ sym (S.answer ∙ ap not u)
              | off u ↦
                  let o = or-none (noted before t v) (among w m v) (sym known ∙ u) in
                  fresh-new (noted before t) w N m (record { below = rw here l; unseen = rw here o.0; first = rw here o.1 }) ∙ sym (S.answer ∙ ap not u)
            ]
      ]

      pub marked_more : (r next-r : Bool) → next-r ≡ (r and new) → Marked t m w N before now r → Marked t (m + 1) w N before next next-r
      marked_more true s e M = record {
        answer = e ∙ ap (λ (b : Bool). b and new) M.answer ∙ ap (λ (b : Bool). every m is_fresh and b) (sym (fresh-here (M.tells refl))) ∙ sym (every_more m is_fresh);
        tells = λ z. going (M.tells refl);
        within = within-then t before now next M.within S.within;
      }
      marked_more false s e M = record {
        answer = e ∙ sym (and_no new refl) ∙ and_no (is_fresh m) (sym M.answer) ∙ sym (every_more m is_fresh);
        tells = λ z. absurd (clash (sym z ∙ e ∙ sym (and_no new refl)));
        within = within-then t before now next M.within S.within;
      }

-- ---- going on from a row marked as far as m, and the table `now`

module _ (t : ℕ) (w : ℕ → ℕ) (N m : ℕ) (now : Seen) where
  pub marks-none : MarksOn t m m w N now now true
  marks-none = record { onward = λ before M. M }

  -- number k is v, which isn't below N
  pub marks-large : (k v : ℕ) → w k ≡ v → v ≢ 0 → N ≤ v → (seen : Seen) → MarksOn t m k w N now seen true → MarksOn t m (k + 1) w N now seen false
  marks-large k v e z l seen K = record { onward = λ before M. marked-large t w N before k v e z l seen (K.onward before M) }

  -- once false, it stays so
  pub marks-false : (k n : ℕ) → k ≤ n → (after : Seen) → MarksOn t m k w N now after false → MarksOn t m n w N now after false
  marks-false k n l after K = record { onward = λ before M. marked-false t w N before k n l after (K.onward before M) }

  module _ (few : N ≤ most_pages) where
    -- number k is v, and v was noted
    pub marks-more : (k : ℕ) (seen : Seen) (v : ℕ) → w k ≡ v → (v ≢ 0 → v < N) → (next : Seen) (new : Bool) → (Table seen → Notes t v seen next new) → (r : Bool) → r ≡ new → MarksOn t m k w N now seen true → MarksOn t m (k + 1) w N now next r
    marks-more k seen v here small next new S r e K = record {
      onward = λ before M.
          let B = K.onward before M in
          marked_more t w N before k few seen v here small next new (S (B.tells refl).table) true r (and_yes refl e) B;
    }

    -- numbers of 0 are passed over
    pub marks-zeros : (n : ℕ) → ((j : ℕ) → j < n → w (m + j) ≡ 0) → MarksOn t m (m + n) w N now now true
    marks-zeros zero z = rw (add-zero m) marks-none
    marks-zeros (suc n) z = rw (add-suc m n, ← add-one (m + n)) (marks-more (m + n) now 0 (z n (omega arith)) (λ k. absurd (k refl)) now true (notes-zero t now) true refl (marks-zeros n (λ j l. z j (omega arith))))

-- and on from there
pub marks_then : (t : ℕ) (w : ℕ → ℕ) (N m k n : ℕ) (now seen after : Seen) (r : Bool) → MarksOn t m k w N now seen true → MarksOn t k n w N seen after r → MarksOn t m n w N now after r
marks_then t w N m k n now seen after r A B = record { onward = λ before M. B.onward before (A.onward before M) }

-- words of 0 from slot k on are passed over
pub marks-over : (t : ℕ) (b : List ℕ) (a m k n N : ℕ) (now seen : Seen) → N ≤ most_pages → has_any (words_from b (a + word_size * k)) n ≡ false → MarksOn t m k (words_from b a) N now seen true → MarksOn t m (k + n) (words_from b a) N now seen true
marks-over t b a m k n N now seen few none A =
    marks_then t (words_from b a) N m k (k + n) now seen seen true A (marks-zeros t (words_from b a) N k seen few n (λ j l. ap (name_at b) (omega arith) ∙ not-any (words_from b (a + 4 * k)) n none j l))

-- a word that is a page's number as it stands is its own name
pub own_name : (b : List ℕ) (a w : ℕ) → w ≡ word_at b a → w < most_pages → name_at b a ≡ w
own_name b a w e l = ap name_of (sym e) ∙ name-number w l

-- as far as the marking went on
module _ (t : ℕ) (w : ℕ → ℕ) (N m k n : ℕ) (now seen after : Seen) (A : MarksOn t m k w N now seen true) where
  pub marks-to : (r : Option ℕ) → MarksTo t k r n w N seen after → MarksTo t m r n w N now after
  marks-to None B = marks_then t w N m k n now seen after false A B
  marks-to (Some j) B = (B.0, marks_then t w N m k j now seen after true A B.1)

  -- all of the n were fresh, or one wasn't, where what is read is the row's numbers
  pub marks-all : (read : ℕ → ℕ → Type 0) → ((j x : ℕ) → j < n → read j x → w j ≡ x) → (r : Option ℕ) → MarksTo t k r n w N seen after → MatchOption r (Unit {0}) (λ j. j < n → Large read j N) → (b : Bool) → b ≡ option_eq eqb r (Some n) → MarksOn t m n w N now after b
  marks-all read exact None B L b e = rw e (marks_then t w N m k n now seen after false A B)
  marks-all read exact (Some j) B L b e = elim (ℕ_discrete j n) [
    | yes i ↦ let h : b ≡ true = e ∙ eq-eqb j n i in rw (h, ← i) (marks_then t w N m k j now seen after true A B.1)
    | no i ↦
        let h : b ≡ false = e ∙ ne_eqb j n i in
        let l : j < n = omega (arith, B.0) in
        let x = L l in
        rw h (marks-false t w N m now (j + 1) n (omega arith) after (marks-large t w N m now j x.0 (exact j x.0 l x.1) x.2 x.3 after (marks_then t w N m k j now seen after true A B.1)))
  ]
