-- What demand 3 says of the answers of show, peek and word, and of the maps of the stores, from the invariant. Assumes nothing.
use Prim.Native.Nat.{ℕ, ◌+◌, ◌*◌, ◌<◌, ◌≤◌}
use Rattle.std.specs.Prelude.{◌≡◌, Bool, true, List, length, take, drop, get_or}
use Rattle.std.proofs.Math.Path.{refl, ap}
use Rattle.std.proofs.Common.{sym, ◌∙◌, length-take, length-drop, get_or-take, get_or-drop, ext_get_or}
use native.Mathlib.Omega.{arith}
use Rattle.page.specs.Figures.{page_size, payload_start, payload_size}
use Rattle.page.specs.Page.{name, lock, byte, page_of, bytes_from, payload_at, payload_of}
use Rattle.page.proofs.StorePlaceLaws.{store-room, place-lt}
use Rattle.machine.specs.declared.Handle.{Handle}
use Rattle.machine.specs.Machine.{page_number}
use Rattle.machine.specs.Answers.{Answer, refused, payload, in_frames, in_store, number, Out, cut}
use Rattle.machine.specs.Calls.{show_call, peek_call, word_call, fix_call}
use Rattle.machine.specs.History.{Point, accepted}
use Rattle.machine.specs.Demand3.{at, of_handle, map_of, GivesPayload}
use Rattle.machine.proofs.Theorem.View.{view, Absent}
use Rattle.machine.proofs.Theorem.Invariant.{Invariant}
use Rattle.machine.proofs.Laws.Outcomes.{Usual, granted-of, no-refusal, one-refusal, denied-of}
use Rattle.machine.proofs.Theorem.Holders.{Holder, place, held, unheld}
use Rattle.machine.proofs.Theorem.CallCases.{OfStore, handle-case, word-case, peek-case}
use Rattle.machine.proofs.Theorem.FixCases.{pins, fills, sweeps, refuses, fix-case}
use Rattle.machine.proofs.Theorem.Residence.{Sits, sits-holder, sits-handled, sits-once, holder-sits, goes-by-chain, recorded-of, unrecorded-of, resident-of, sits, not-resident}
use Rattle.machine.proofs.Theorem.Reads.{held_word, held-mark, held-byte, unheld-byte}

-- two pages with equal payload bytes have one payload
payload_same : (b c : List ℕ) (f p n m : ℕ) → length b ≡ page_size * n → f < n → length c ≡ page_size * m → p < m
    → ((i : ℕ) → payload_start ≤ i → i < page_size → byte b f i ≡ byte c p i) → payload_of b f ≡ payload_of c p
unfolding bytes_from byte
payload_same b c f p n m lb hf lc hp e =
    let l1 : length (take 192 (drop (256 * f + 64) b)) ≡ 192 = simp (length-take, length-drop) (omega arith) in
    let l2 : length (take 192 (drop (256 * p + 64) c)) ≡ 192 = simp (length-take, length-drop) (omega arith) in
    ext_get_or 0 _ _ (l1 ∙ sym l2) (λ i hi.
    let hi2 : i < 192 = omega arith in
    get_or-take 192 (drop (256 * f + 64) b) i 0 hi2 ∙ get_or-drop (256 * f + 64) b i 0 ∙ ap (λ (j : ℕ). get_or b j 0) (omega arith)
    ∙ e (64 + i) (omega arith) (omega arith)
    ∙ sym (get_or-take 192 (drop (256 * p + 64) c) i 0 hi2 ∙ get_or-drop (256 * p + 64) c i 0 ∙ ap (λ (j : ℕ). get_or c j 0) (omega arith)))

-- one name and one mark are one answer of word
one_word : {p q : ℕ} {l m : Bool} → p ≡ q → l ≡ m → number p l ≡ number q m
one_word a b = rw (a, b)

abbrev answer_of : Out → Answer
answer_of o = o.answer

-- bytes of a part of a buffer are the buffer's
part_bytes : (b : List ℕ) (a m c n : ℕ) → c + n ≤ m → a + m ≤ length b → bytes_from (bytes_from b a m) c n ≡ bytes_from b (a + c) n
unfolding bytes_from
part_bytes b a m c n h l =
    let l1 : length (take n (drop c (take m (drop a b)))) ≡ n = simp (length-take, length-drop) (omega arith) in
    let l2 : length (take n (drop (a + c) b)) ≡ n = simp (length-take, length-drop) (omega arith) in
    ext_get_or 0 _ _ (l1 ∙ sym l2) (λ i hi.
    let hi2 : i < n = omega arith in
    get_or-take n (drop c (take m (drop a b))) i 0 hi2 ∙ get_or-drop c (take m (drop a b)) i 0 ∙ get_or-take m (drop a b) (c + i) 0 (omega arith) ∙ get_or-drop a b (c + i) 0
    ∙ ap (λ (j : ℕ). get_or b j 0) (omega arith) ∙ sym (get_or-take n (drop (a + c) b) i 0 hi2 ∙ get_or-drop (a + c) b i 0))

module _ (x : Point) (I : Invariant x) where
  -- ---- the map of each store
  pub per-store : (t p : ℕ) → t < x.now.pool.stores → p < x.now.pool.pages → page_of (map_of x t) p ≡ page_of x.map (at x t p)
  unfolding page_of bytes_from
  per-store t p ht hp =
      let N : ℕ = x.now.pool.pages in
      let e : page_size * at x t 0 + page_size * p ≡ page_size * at x t p = omega arith in
      part_bytes x.map (page_size * at x t 0) (page_size * N) (page_size * p) page_size (omega arith) (omega (arith, I.map_length, store-room N t _ ht)) ∙ ap (λ (a : ℕ). bytes_from x.map a page_size) e

  -- ---- payloads, by the page's place
  frame-payload : (p f : ℕ) → Holder (view x.now) p f → payload_of x.now.frames f ≡ payload_of x.map p
  frame-payload p f h = payload_same x.now.frames x.map f p _ _ I.sized.frames h.at.lt I.map_length (rw h.page at (I.shape.page_lt f h.at))
      (λ i lo hi. held-byte x I p f i h lo hi)

  store-payload : (p : ℕ) → p < x.now.pool.pages * x.now.pool.stores → Absent (view x.now) p → payload_of x.now.store p ≡ payload_of x.map p
  store-payload p l a = payload_same x.now.store x.map p p _ _ I.sized.store l I.map_length l (λ i lo hi. unheld-byte x I p i l a lo hi)

  -- the part at the place that a call answers: the payload of the frame that holds page p of store t, or the stored page's
  frame-part : (t p f : ℕ) (fs st : ℕ × ℕ) → Sits x.now t p f → GivesPayload x (payload in_frames (payload_at f) payload_size) t p fs st
  unfolding cut
  frame-part t p f fs st S = record {
    bytes = frame-payload (at x t p) f (sits-holder x.now t p f S);
    of_frame = λ g i. ap (λ (j : ℕ). (fs.0, payload_at j + fs.1)) (sits-once x I t p f g S (sits x I t p g i));
    of_store = λ n. absurd (n (resident-of x I t p f S));
    number = refl;
  }

  store-part : (t p : ℕ) (fs st : ℕ × ℕ) → OfStore x.now t p → Absent (view x.now) (at x t p) → GivesPayload x (payload in_store (payload_at (at x t p)) payload_size) t p fs st
  unfolding cut
  store-part t p fs st A a = record {
    bytes = store-payload (at x t p) (place-lt _ t _ p A.store A.below) a;
    of_frame = λ g i. absurd (not-resident x I t p a (g, i));
    of_store = λ n. refl;
    number = refl;
  }

  pub show-gives : (h : Handle) (fs st : ℕ × ℕ) → accepted (show_call x.now h).answer ≡ true → GivesPayload x (show_call x.now h).answer h.store.0 h.page.0 fs st
  unfolding show_call
  show-gives h fs st t =
      let r = granted-of _ _ _ _ (handle-case x I h _) t in
      rw r.1 (frame-part h.store.0 h.page.0 h.frame.0 fs st (sits-handled x.now h r.0))

  -- what peek answers for any page of a store
  pub place-gives : (t p : ℕ) (fs st : ℕ × ℕ) → OfStore x.now t p → GivesPayload x (peek_call x.now t (page_number p)).answer t p fs st
  place-gives t p fs st A = elim (place x.now (at x t p)) [
    | held h ↦ let S = holder-sits x I t p _ A.below h in rw ((goes-by-chain x I).peeked_there t p _ (recorded-of x I t p _ S)) (frame-part t p _ fs st S)
    | unheld a ↦ rw ((goes-by-chain x I).peeked_stored t p A.store A.below (unrecorded-of x I t p a)) (store-part t p fs st A a)
  ]

  pub peek-gives : (t p : ℕ) (fs st : ℕ × ℕ) → accepted (peek_call x.now t (page_number p)).answer ≡ true → GivesPayload x (peek_call x.now t (page_number p)).answer t p fs st
  peek-gives t p fs st e = place-gives t p fs st (granted-of _ _ _ _ (peek-case x I t (page_number p)) e).0

  -- ---- words
  pub word-gives : (h : Handle) (k : ℕ) → accepted (word_call x.now h k).answer ≡ true → (word_call x.now h k).answer ≡ number (name x.map (of_handle x h) k) (lock x.map (of_handle x h) k)
  word-gives h k t =
      let r = granted-of _ _ _ _ (word-case x I h k) t in
      let o = sits-holder x.now _ _ _ (sits-handled x.now h r.0.handle) in
      ap answer_of r.1 ∙ one_word (held_word x I (of_handle x h) h.frame.0 k o r.0.in_page) (held-mark x I (of_handle x h) h.frame.0 k o r.0.in_page)

  -- ---- refusals
  pub fix-usual : (h : Handle) (k n : ℕ) → (fix_call x.now h k).answer ≡ refused n → Usual n
  fix-usual h k n e = elim (fix-case x I h k) [
    | pins a g w m q ↦ absurd (no-refusal _ _ n q refl e)
    | fills a w c l u q ↦ absurd (no-refusal _ _ n q refl e)
    | sweeps a w u t q ↦ absurd (no-refusal _ _ n q refl e)
    | refuses m u q ↦ rw (one-refusal _ _ m n q e) at u
  ]

  pub show-usual : (h : Handle) (n : ℕ) → (show_call x.now h).answer ≡ refused n → Usual n
  unfolding show_call
  show-usual h n e = denied-of _ _ _ _ (handle-case x I h _) refl n e
