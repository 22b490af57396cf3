-- "A load is denied a frame exactly when none is empty and every resident page but the root is pinned or has a resident child", and a store at its ceiling "exactly when each of its own resident pages but its root" is so, from the invariant. Assumes nothing.
use Rattle.std.specs.Prelude.{ℕ, ◌<◌, ◌≡◌, ◌≢◌, ◌↔◌, false}
use Rattle.std.proofs.Math.Path.{refl, sym}
use Rattle.std.proofs.Common.{◌∙◌, ap, inl, inr, arith, le-leb}
use Rattle.std.proofs.Math.Bool.{true}
use mathlib.Core.List.{List, [], ◌∷◌, ◌++◌}
use Rattle.std.proofs.Math.Decide.{ℕ_discrete}
use Rattle.page.specs.Figures.{slot_count}
use Rattle.page.specs.Word.{is_number, frame_in, frame_word, Number, Swizzled, number-yes, yes-number}
use Rattle.page.specs.Page.{name}
use Rattle.machine.specs.declared.Handle.{Handle}
use Rattle.rules.specs.Tests.{◌and◌, Rule, first_broken}
use Rattle.rules.specs.TestLaws.{clash, case, on, off, is-off, or_left, kept_then, broken-here, none-broken, numbered, parts-kept}
use Rattle.machine.specs.Machine.{record_at, page_in, is_of, held, ceiling_of, at_ceiling}
use Rattle.machine.specs.Sweep.{is_open}
use Rattle.machine.specs.Rules.{word_of, rule13, rule14, rule15, rule27}
use Rattle.machine.proofs.Laws.Ready.{Ready, ready}
use Rattle.machine.specs.Answers.{refused, Out}
use Rattle.machine.specs.Calls.{fix_call}
use Rattle.machine.specs.History.{Point}
use Rattle.machine.specs.Demand3.{at, of_handle, Resident, Names, Stays, NoneOwn, NoRoom, LoadAsked}
use Rattle.machine.proofs.Laws.PlainLaws.{plain-low}
use Rattle.machine.proofs.Laws.HeldLaws.{is-of, of_is, held_all}
use Rattle.machine.proofs.Laws.SweepLaws.{Denied, DeniedOwn, denied-exactly, own-denied-exactly}
use Rattle.machine.proofs.Laws.Outcomes.{Outcome, kept, broken, lacks, lacking, kept-part, parts, first, second, broken-of, miss-accepted, load_rules}
use Rattle.machine.proofs.Theorem.View.{view}
use Rattle.machine.proofs.Theorem.Invariant.{fit_of, Invariant}
use Rattle.machine.proofs.Theorem.FrameReads.{store_below, number-some, some_number}
use Rattle.machine.proofs.Theorem.TestReads.{Open, open_of, shut-of}
use Rattle.machine.proofs.Theorem.InvariantReads.{agreed, unbroken}
use Rattle.machine.proofs.Theorem.CallCases.{AtName, name-rules}
use Rattle.machine.proofs.Theorem.FixCases.{name_rules, number-outcome, stays-away, loads, swizzled-outcome}
use Rattle.machine.proofs.Theorem.Residence.{Sits, sits-self, sits-handled, sits-once, in_frame, resident-of, sits, not-resident, pinned-sits, pinned-of}
use Rattle.machine.proofs.Theorem.PointHolds.{number, swizzled_to, meets, sits-word, swizzled-word}

module _ (x : Point) (I : Invariant x) where
  is-ready : Ready x.now
  is-ready = ready x.now (record { sized = I.sized; stores = I.stores; agreed = agreed x I; directory = I.directory; chained = I.chained })

  -- ---- frames that aren't open to eviction, in the words of the map and the balance
  has-child : (t p f k : ℕ) → Sits x.now t p f → k < slot_count → Swizzled (name x.now.frames f k) → (j c : ℕ) × Names x t p j c × (c ≢ 0) × Resident x t c
  has-child t p f k S hk l = elim (meets x I t p f k S hk) [
    | number e m away ↦ absurd (omega arith)
    | swizzled_to g e C G ↦ (k, name x.map (at x t p) k, record { in_page = hk; word = refl }, λ z. number-some x.now (fit_of x I) g C.occupied C.not_root (G.page ∙ z), resident-of x I t _ g G)
  ]

  -- a page but a root, in such a frame
  stays-there : (t p f : ℕ) → Sits x.now t p f → p ≢ 0 → is_open x.now.pool.stores (record_at x.now.pool.records f) x.now.frames f ≡ false → Stays x t p
  stays-there t p f S n o = elim (ℕ_discrete ((view x.now).pins f) 0) [
    | no q ↦ inl (pinned-of x I t p f S q)
    | yes q ↦ let w = shut-of x.now f o (some_number x.now (fit_of x I) f (λ z. n (sym S.page ∙ z))) q in inr (has-child t p f w.0 S w.1 w.2)
  ]

  no_room : Denied x.now → NoRoom x
  no_room D = record {
    full = λ f l. (_, _, in_frame x I _ _ f (sits-self x.now f (record { lt = l; on = D.used f l })));
    closed = λ t p n r. let S = sits x I t p r.0 r.1 in stays-there t p r.0 S n (D.shut r.0 S.at.lt);
  }

  none-own : (t : ℕ) → DeniedOwn x.now t → NoneOwn x t
  none-own t D p n r = let S = sits x I t p r.0 r.1 in stays-there t p r.0 S n (D.shut r.0 S.at.lt (is-of t (record_at x.now.pool.records r.0) S.at.on S.store))

  -- an open frame holds no root, and its page doesn't stay
  not-open : (t p f : ℕ) → Sits x.now t p f → Open x.now f → Stays x t p → ⊥
  not-open t p f S O (inl B) =
      let a = pinned-sits x I t p B in
      a.2 (ap (view x.now).pins (sits-once x I t p a.0 f a.1 S) ∙ O.unpinned)
  not-open t p f S O (inr (k, c, m, n, r)) =
      let e : name x.now.frames f k ≡ frame_word r.0 = swizzled-word x I t p f k c r.0 (in_frame x I t p f S) m n r.1 in
      let l : Number (name x.now.frames f k) = O.leaf k m.in_page in
      omega arith

  open-number : (t p f : ℕ) → Sits x.now t p f → Open x.now f → p ≢ 0
  open-number t p f S O z = number-some x.now (fit_of x I) f S.at O.not_root (S.page ∙ z)

  shut-own : (t p f : ℕ) → Sits x.now t p f → NoneOwn x t → is_open x.now.pool.stores (record_at x.now.pool.records f) x.now.frames f ≡ false
  shut-own t p f S R = is-off _ (λ e. let O = open_of x.now f e in not-open t p f S O (R p (open-number t p f S O) (resident-of x I t p f S)))

  denied-frames : NoRoom x → Denied x.now
  denied-frames R = record {
    used = λ f l. let r = R.full f l in (sits x I r.0 r.1 f r.2).at.on;
    shut = λ f l. let r = R.full f l in shut-own r.0 r.1 f (sits x I r.0 r.1 f r.2) (R.closed r.0);
  }

  denied-own-frames : (t : ℕ) → NoneOwn x t → DeniedOwn x.now t
  denied-own-frames t R = record {
    shut = λ f l e. let a = of_is t (record_at x.now.pool.records f) e in
        shut-own t _ f (record { at = record { lt = l; on = a.0 }; store = a.1; page = refl }) R;
  }

  module _ (h : Handle) (k : ℕ) where
    abbrev t : ℕ
    t = h.store.0

    abbrev w : ℕ
    w = word_of x.now h k

    -- the rules of a load's frame, after 14
    abbrev frame_rules : List Rule
    frame_rules = rule15 x.now t ∷ rule27 x.now t ∷ []

    -- ---- 15 or 27 is answered
    asked : (y : is_number w ≡ true) → first_broken (name_rules x.now h k) ≡ 0 → AtName x.now h k → LoadAsked x h k
    unfolding numbered ◌and◌
    asked y m A =
        let e : w ≡ name x.map (of_handle x h) k =
        sym (plain-low (page_in x.now.pool.records) _ (number-yes _ y)) ∙ sits-word x I t h.page.0 h.frame.0 k (sits-handled x.now h A.handle) A.in_page in
        record {
          absent = rw (← e) (not-resident x I t w (stays-away x I h k y A));
          unbroken = rw (← e) (unbroken x I _ ∙ kept-part (name_rules x.now h k) _ refl m ∙ kept_then 14 [] (loads x I h k y A) ∙ none-broken);
        }

    breaks-15 : first_broken frame_rules ≡ 15 → (rule15 x.now t).1 ≡ false
    unfolding lacks ◌and◌
    breaks-15 e = is-off _ (λ y. lacking 15 (rule27 x.now t ∷ []) refl (omega arith) (sym (kept_then 15 (rule27 x.now t ∷ []) y) ∙ e))

    breaks-27 : first_broken frame_rules ≡ 27 → (rule27 x.now t).1 ≡ false
    breaks-27 e = elim (case (rule15 x.now t).1) [
      | on y ↦ is-off _ (λ z. let c : 27 ≡ 0 = sym e ∙ kept_then 15 (rule27 x.now t ∷ []) y ∙ kept_then 27 [] z ∙ none-broken in omega arith)
      | off y ↦ absurd (let c : 27 ≡ 15 = sym e ∙ broken-here 15 (rule27 x.now t ∷ []) y in omega arith)
    ]

    -- n, which no rule before those has, is answered: a load is asked for, and they refuse
    refused-then : (n : ℕ) → n ≢ 0 → lacks n (name_rules x.now h k) ≡ true → lacks n (name_rules x.now h k ++ (rule13 x.now (frame_in w) ∷ [])) ≡ true
        → (fix_call x.now h k).answer ≡ refused n → LoadAsked x h k × (first_broken frame_rules ≡ n)
    unfolding numbered ◌and◌
    refused-then n z a b e = elim (case (is_number w)) [
      | off y ↦ absurd (lacking n (name_rules x.now h k ++ (rule13 x.now (frame_in w) ∷ [])) b z (broken-of _ _ _ _ (swizzled-outcome x I h k y) refl n e))
      | on y ↦
          let r = broken-of _ _ _ _ (number-outcome x I h k y) (miss-accepted x.now h.frame.0 k t w) n e in
          elim (parts (name_rules x.now h k) (load_rules x.now t w) refl) [
            | first m q ↦ absurd (lacking n (name_rules x.now h k) a z (sym q ∙ r))
            | second m q ↦
                let A = (name-rules x.now h k [] m).0 in
                (asked y m A, sym (kept_then 14 frame_rules (loads x I h k y A)) ∙ sym q ∙ r)
          ]
    ]

    -- ---- 15 or 27 is to be answered
    answers : (n : ℕ) → n ≢ 0 → (o : Out) (rules : List Rule) (a : Out) → first_broken rules ≡ n → Outcome x.now rules a o → o.answer ≡ refused n
    answers n z o rules a e (kept b q) = absurd (z (sym e ∙ b))
    answers n z o rules a e (broken m y b q) = ap (λ (u : Out). u.answer) q ∙ ap refused (sym b ∙ e)

    -- the rules before them are kept
    at_name : LoadAsked x h k → (first_broken (name_rules x.now h k) ≡ 0) × AtName x.now h k
    unfolding numbered ◌and◌
    at_name L =
        let last : List Rule = rule14 x.now t (name x.map (of_handle x h) k) ∷ [] in
        let u = sym (unbroken x I (name_rules x.now h k ++ last)) ∙ L.unbroken in
        ((parts-kept (name_rules x.now h k) last refl u).0, (name-rules x.now h k last u).0)

    refused-when : (n : ℕ) → n ≢ 0 → LoadAsked x h k → first_broken frame_rules ≡ n → (fix_call x.now h k).answer ≡ refused n
    unfolding numbered ◌and◌
    refused-when n z L b =
        let m = at_name L in
        let A = m.1 in
        elim (meets x I t h.page.0 h.frame.0 k (sits-handled x.now h A.handle) A.in_page) [
          | swizzled_to g e C G ↦ absurd (L.absent (resident-of x I t _ g G))
          | number e l away ↦
              let y = yes-number w l in
              answers n z _ _ _ (kept-part (name_rules x.now h k) (load_rules x.now t w) refl m.0 ∙ kept_then 14 frame_rules (loads x I h k y A) ∙ b) (number-outcome x I h k y)
        ]

    pub denied-15-exactly : ((fix_call x.now h k).answer ≡ refused 15) ↔ (LoadAsked x h k × (at_ceiling x.now.pool t ≡ false) × NoRoom x)
    unfolding lacks ◌and◌
    denied-15-exactly = (
      λ e. let r = refused-then 15 (omega arith) refl refl e in
          let d = (denied-exactly x.now t is-ready).0 (breaks-15 r.1) in
          (r.0, d.0, no_room d.1),
      λ p. refused-when 15 (omega arith) p.0 (broken-here 15 (rule27 x.now t ∷ []) ((denied-exactly x.now t is-ready).1 (p.1, denied-frames p.2))),
    )

    pub denied-27-exactly : ((fix_call x.now h k).answer ≡ refused 27) ↔ (LoadAsked x h k × (at_ceiling x.now.pool t ≡ true) × NoneOwn x t)
    unfolding lacks ◌and◌
    denied-27-exactly = (
      λ e. let r = refused-then 27 (omega arith) refl refl e in
          let d = (own-denied-exactly x.now t is-ready).0 (breaks-27 r.1) in
          (r.0, d.0, none-own t d.1),
      λ p. refused-when 27 (omega arith) p.0
          (kept_then 15 (rule27 x.now t ∷ []) (or_left _ p.1) ∙ broken-here 27 [] ((own-denied-exactly x.now t is-ready).1 (p.1, denied-own-frames t p.2))),
    )

    -- with one store, every frame of a full pool has a page of it, so that it is at its ceiling
    pub never-15 : x.now.pool.stores ≡ 1 → (fix_call x.now h k).answer ≢ refused 15
    unfolding at_ceiling
    never-15 one e =
        let r = denied-15-exactly.0 e in
        let D : Denied x.now = denied-frames r.2 in
        let l = (at_name r.0).1.store in
        let own : (f : ℕ) → f < x.now.pool.count → is_of t (record_at x.now.pool.records f) ≡ true = λ f n. is-of t (record_at x.now.pool.records f) (D.used f n) (omega (arith, store_below x.now (fit_of x I) f, l, one)) in
        let all : held x.now.pool t ≡ x.now.pool.count = held_all x.now.pool t own in
        clash (sym (le-leb (ceiling_of x.now.pool t) (held x.now.pool t) (omega (arith, all, I.stores.ceiling_most t l))) ∙ r.1)
