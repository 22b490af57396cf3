-- Settle keeps the invariant, and the store is then the map.
use Rattle.std.specs.Prelude.{◌≡◌, true, false, List, length}
use Rattle.std.proofs.Math.Path.{refl, sym, ap}
use Rattle.std.proofs.Common.{◌∙◌, arith, le_refl, length-set}
use Prim.Native.Nat.{ℕ, zero, suc, ◌*◌, ◌/◌, ◌≤◌, ◌<◌}
use Rattle.std.proofs.Math.Decide.{ℕ_discrete, dec_lt}
use Rattle.page.specs.Figures.{page_size, slot_count, payload_start, most_pages}
use Rattle.page.specs.Word.{is_marked, name_of}
use Rattle.page.proofs.NameLaws.{word-ext}
use Rattle.page.specs.Page.{slot, name, lock, byte}
use Rattle.page.specs.StorePlaces.{store_place}
use Rattle.page.specs.Octets.{Octets, buffer-ext}
use Rattle.machine.specs.declared.FrameRecord.{FrameRecord}
use Rattle.machine.specs.declared.Pool.{Pool}
use Rattle.rules.specs.TestLaws.{clash, case, on, off}
use Rattle.machine.specs.Machine.{State, is_used, is_dirty, record_at, page_in, cleaned, with_records, found}
use Rattle.machine.proofs.Laws.AgreementFacts.{occupied-used, make-occupied}
use Rattle.machine.specs.Moves.{plain, written_out, written_out_to, cleaned_to, settled}
use Rattle.machine.specs.History.{Point}
use Rattle.machine.proofs.Theorem.Lift.{lift, lift-same}
use Rattle.machine.proofs.Theorem.View.{View, view, Occupied, Absent, Content}
use Rattle.machine.proofs.Theorem.Invariant.{NeatRecord, Neat, Fit, fit_of, Invariant, map_view}
use Rattle.machine.proofs.Theorem.FrameReads.{placed_below, plain-below, plain-some}
use Rattle.machine.proofs.Theorem.Reads.{held_word, unheld-word, clean-word}
use Rattle.machine.proofs.Theorem.KeepEffect.{KeptView, kept-shape, steady-was, steady-plain}
use Rattle.machine.proofs.Theorem.PinsEffect.{pins-kept}
use Rattle.machine.proofs.Laws.MoveLaws.{written_out_to-length}
use Rattle.machine.proofs.Laws.FoundLaws.{found-holds, found_none}
use Rattle.machine.proofs.Theorem.ImageOut.{out-octets, out-slot_stays, out-byte_stays, out-word, out-mark, out-byte}
use Rattle.machine.proofs.Theorem.Chains.{steady-chained}
use Rattle.machine.proofs.Theorem.RecordChange.{SamePlaces, stores-kept, change-here, change-other, change-same, neat-change, lengths-kept}

-- ---- the records marked clean

cleaned-length : (rs : List FrameRecord) (n : ℕ) → length (cleaned_to rs n) ≡ length rs
unfolding cleaned_to
cleaned-length rs zero = refl
cleaned-length rs (suc n) = length-set (cleaned_to rs n) n _ ∙ cleaned-length rs n

-- but for the mark they stay
cleaned-same : {A : Type 0} (part : FrameRecord → A) → ((r : FrameRecord) → part (cleaned r) ≡ part r) → (rs : List FrameRecord) (n : ℕ) → n ≤ length rs
    → (g : ℕ) → part (record_at (cleaned_to rs n) g) ≡ part (record_at rs g)
unfolding cleaned_to
cleaned-same part e rs zero h g = refl
cleaned-same part e rs (suc n) h g = change-same (cleaned_to rs n) n _ part (rw (cleaned-length rs n) h) (e _) g ∙ cleaned-same part e rs n (omega arith) g

-- of the first n no record is dirty
cleaned-clean : (rs : List FrameRecord) (n : ℕ) → n ≤ length rs → (g : ℕ) → g < n → is_dirty (record_at (cleaned_to rs n) g) ≡ false
unfolding cleaned_to
cleaned-clean rs zero h g l = absurd (omega arith)
cleaned-clean rs (suc n) h g l = elim (ℕ_discrete g n) [
  | yes e ↦ rw e (ap is_dirty (change-here (cleaned_to rs n) n _ (rw (cleaned-length rs n) h)))
  | no e ↦ ap is_dirty (change-other (cleaned_to rs n) n _ g e) ∙ cleaned-clean rs n (omega arith) g (omega arith)
]

neat-cleaned : (T N f : ℕ) (r : FrameRecord) → NeatRecord T N f r → NeatRecord T N f (cleaned r)
neat-cleaned T N f r n = record { number = n.number; store = n.store; used = n.used; dirty = omega arith; usage = n.usage; pins = n.pins; empty = λ e. ap (λ t. cleaned t) (n.empty e); root_parent = n.root_parent; root_slot = n.root_slot }

cleaned-neat : (p : Pool) → Neat p → (n : ℕ) → n ≤ p.count → n ≤ length p.records → Neat (with_records p (cleaned_to p.records n))
unfolding cleaned_to
cleaned-neat p N zero h l = N
cleaned-neat p N (suc n) h l =
    let M : Neat (with_records p (cleaned_to p.records n)) = cleaned-neat p N n (omega arith) (omega arith) in
    neat-change (with_records p (cleaned_to p.records n)) n _ (rw (cleaned-length p.records n) l) h (neat-cleaned _ _ n _ (M.at n)) M

-- ---- the images written out

module _ (x : Point) (I : Invariant x) where
  abbrev s : State
  s = x.now

  abbrev v : View
  v = view x.now

  abbrev rs : List FrameRecord
  rs = x.now.pool.records

  abbrev N : ℕ
  N = x.now.pool.pages

  abbrev J : Fit x.now
  J = fit_of x I

  -- page p in the store b is the map's
  record Right (b : List ℕ) (p : ℕ) : Type 0 where
    word : (k : ℕ) → k < slot_count → name b p k ≡ name x.map p k
    mark : (k : ℕ) → k < slot_count → lock b p k ≡ lock x.map p k
    bytes : (i : ℕ) → payload_start ≤ i → i < page_size → byte b p i ≡ byte x.map p i

  page_lt : (n : ℕ) → n < v.F → v.page n < v.N
  page_lt n hn = placed_below s J n

  -- an empty frame's record is clean
  dirty_used : (n : ℕ) → v.dirty n ≡ true → v.used n ≡ true
  dirty_used n d = elim (case (v.used n)) [ on u ↦ u | off u ↦ absurd (clash (sym d ∙ ap is_dirty ((I.neat.at n).empty u))) ]

  module _ (b : List ℕ) (lb : length b ≡ page_size * v.N) (n : ℕ) (hn : n < v.F) where
    out_stays : (p : ℕ) → (p ≡ v.page n → v.dirty n ≡ false) → Right b p → Right (written_out N rs s.frames b n) p
    out_stays p h R = record {
      word = λ k hk. ap name_of (stays k hk) ∙ R.word k hk;
      mark = λ k hk. ap is_marked (stays k hk) ∙ R.mark k hk;
      bytes = λ i lo hi. out-byte_stays N (page_in rs) (record_at rs n) s.frames b n _ _ I.sized.frames hn lb (page_lt n hn) p i hi h ∙ R.bytes i lo hi;
    }
      where
        stays : (k : ℕ) → k < slot_count → slot (written_out N rs s.frames b n) p k ≡ slot b p k
        stays k hk = out-slot_stays N (page_in rs) (record_at rs n) s.frames b n _ _ I.sized.frames hn lb (page_lt n hn) p k hk h

    out_dirty : v.dirty n ≡ true → Right (written_out N rs s.frames b n) (v.page n)
    out_dirty d = record {
      word = λ k hk. out-word N (page_in rs) (record_at rs n) s.frames b n _ _ I.sized.frames hn lb (page_lt n hn) d small k hk (plain-some s J n k o hk) ∙ held_word x I (v.page n) n k (record { at = o; page = refl }) hk;
      mark = λ k hk. out-mark N (page_in rs) (record_at rs n) s.frames b n _ _ I.sized.frames hn lb (page_lt n hn) d small k hk (plain-some s J n k o hk) ∙ I.content.frame_mark n k o hk;
      bytes = λ i lo hi. out-byte N (page_in rs) (record_at rs n) s.frames b n _ _ I.sized.frames hn lb (page_lt n hn) d small i lo hi ∙ I.content.frame_byte n i o lo hi;
    }
      where
        o : Occupied v n
        o = record { lt = hn; on = dirty_used n d }

        small : (k : ℕ) → k < slot_count → plain (page_in rs) (name s.frames n k) < most_pages
        small k hk = omega (arith, plain-below s J n k o hk, I.sized.pages)

    out_keeps : (p : ℕ) → Right b p → Right (written_out N rs s.frames b n) p
    out_keeps p R = elim (case (v.dirty n)) [
      | on d ↦ elim (ℕ_discrete p (v.page n)) [ yes z ↦ rw z (out_dirty d) | no z ↦ out_stays p (λ y. absurd (z y)) R ]
      | off d ↦ out_stays p (λ y. d) R
    ]

    out_here : (v.dirty n ≡ false → Right b (v.page n)) → Right (written_out N rs s.frames b n) (v.page n)
    out_here R = elim (case (v.dirty n)) [ on d ↦ out_dirty d | off d ↦ out_stays (v.page n) (λ y. d) (R d) ]

  -- the store after the first n frames
  abbrev to : ℕ → List ℕ
  to n = written_out_to N rs x.now.frames x.now.store n

  to_length : (n : ℕ) → n ≤ v.F → length (to n) ≡ page_size * v.N
  to_length n h = written_out_to-length N rs s.frames s.store _ _ I.sized.frames I.sized.store page_lt n h ∙ I.sized.store

  to_octets : (n : ℕ) → Octets (to n)
  unfolding written_out_to
  to_octets zero = I.store_octets
  to_octets (suc n) = out-octets N (page_in rs) (record_at rs n) s.frames (to n) n I.frame_octets (to_octets n)

  to_keeps : (n : ℕ) → n ≤ v.F → (p : ℕ) → Right s.store p → Right (to n) p
  unfolding written_out_to
  to_keeps zero h p R = R
  to_keeps (suc n) h p R = out_keeps (to n) (to_length n (omega arith)) n h p (to_keeps n (omega arith) p R)

  to_done : (n : ℕ) → n ≤ v.F → (g : ℕ) → g < n → Occupied v g → Right (to n) (v.page g)
  unfolding written_out_to
  to_done zero h g l o = absurd (omega arith)
  to_done (suc n) h g l o = elim (ℕ_discrete g n) [
    | yes z ↦ rw z (out_here (to n) (to_length n (omega arith)) n h (λ d. to_keeps n (omega arith) (v.page n)
        (let c : Occupied v n = rw z at o in record { word = λ k hk. clean-word x I n k c d hk; mark = λ k hk. I.content.clean_mark n k c d hk; bytes = λ i lo hi. I.content.clean_byte n i c d lo hi })))
    | no z ↦ out_keeps (to n) (to_length n (omega arith)) n h (v.page g) (to_done n (omega arith) g (omega arith) o)
  ]

  to_right : (p : ℕ) → p < v.N → Right (to v.F) p
  to_right p hp = elim (dec_lt (found s.pool p) v.F) [
    | yes l ↦
        let h = found-holds s.pool p l in
        rw h.1 at (to_done v.F (le_refl _) (found s.pool p) l (record { lt = l; on = occupied-used s.pool _ h.0 }))
    | no l ↦
        let a : Absent v p = λ f o e. found_none s.pool p (omega arith) f (make-occupied s.pool f o.lt o.on) e in
        to_keeps v.F (le_refl _) p (record { word = λ k hk. unheld-word x I p k hp a hk; mark = λ k hk. I.content.absent_mark p k hp a hk; bytes = λ i lo hi. I.content.absent_byte p i hp a lo hi })
  ]

  pub settle-store : (settled s).store ≡ x.map
  unfolding settled
  settle-store = buffer-ext _ _ v.N (to_octets v.F) I.map_octets (to_length v.F (le_refl _)) I.map_length
      (λ p k hp hk. word-ext _ _ ((to_right p hp).word k hk) ((to_right p hp).mark k hk)) (λ p i hp lo hi. (to_right p hp).bytes i lo hi)

  -- ---- the invariant

  enough : v.F ≤ length rs
  enough = omega (arith, I.records, I.shape.most)

  same : SamePlaces rs (cleaned_to rs v.F)
  same = record {
    used = cleaned-same is_used (λ r. refl) rs v.F enough;
    store = cleaned-same (λ r. r.store.0) (λ r. refl) rs v.F enough;
    page = cleaned-same (λ r. r.page.0) (λ r. refl) rs v.F enough;
    parent = cleaned-same (λ r. r.parent.0) (λ r. refl) rs v.F enough;
  }

  kept : KeptView v (view (settled s))
  unfolding settled
  kept = record {
    steady = record {
      same_f = refl;
      same_n = refl;
      roots = refl;
      each = refl;
      used = same.used;
      page = cleaned-same (λ r. store_place N r.store.0 r.page.0) (λ r. refl) rs v.F enough;
      up = same.parent;
      up_slot = cleaned-same (λ r. r.slot) (λ r. refl) rs v.F enough;
    };
    word = λ g k hg hk. lift-same N _ _ _ _ (same.store g) refl;
    mark = λ g k hg hk. refl;
  }

  store_word : (p k : ℕ) → lift N (p / N) (name (settled s).store p k) ≡ lift N (p / N) (name x.map p k)
  store_word p k = ap (λ (b : List ℕ). lift N (p / N) (name b p k)) settle-store

  store_mark : (p k : ℕ) → lock (settled s).store p k ≡ lock x.map p k
  store_mark p k = ap (λ (b : List ℕ). lock b p k) settle-store

  store_byte : (p i : ℕ) → byte (settled s).store p i ≡ byte x.map p i
  store_byte p i = ap (λ (b : List ℕ). byte b p i) settle-store

  content : Content (view (settled s)) (map_view N x.map)
  content = record {
    frame_word = unfold settled in λ f k o hk. ap (plain (view (settled s)).page) (kept.word f k o.lt hk) ∙ steady-plain v _ kept.steady _ ∙ I.content.frame_word f k (was f o) hk
        ∙ ap (λ (p : ℕ). lift N (p / N) (name x.map p k)) (sym (kept.steady.page f));
    frame_mark = unfold settled in λ f k o hk. I.content.frame_mark f k (was f o) hk ∙ ap (λ (p : ℕ). lock x.map p k) (sym (kept.steady.page f));
    frame_byte = unfold settled in λ f i o h l. I.content.frame_byte f i (was f o) h l ∙ ap (λ (p : ℕ). byte x.map p i) (sym (kept.steady.page f));
    absent_word = unfold settled in λ p k hp a hk. store_word p k;
    absent_mark = λ p k hp a hk. store_mark p k;
    absent_byte = λ p i hp a h l. store_byte p i;
    clean_word = unfold settled in λ f k o d hk. store_word _ k;
    clean_mark = λ f k o d hk. store_mark _ k;
    clean_byte = λ f i o d h l. store_byte _ i;
    store_plain = unfold settled in λ p k hp hk. rw (store_word p k) (omega (arith, I.sound.below p k hp hk, I.shape.pages));
    dirty_free = unfold settled in λ f o d. absurd (clash (sym d ∙ cleaned-clean rs v.F enough f (was f o).lt));
  }
    where
      was : (g : ℕ) → Occupied (view (settled s)) g → Occupied v g
      was = steady-was v (view (settled s)) kept.steady

  pub settle-keeps : Invariant (record { now = settled s; map = x.map; balance = x.balance })
  unfolding settled
  settle-keeps = record {
    sized = lengths-kept s.frames _ I.sized refl (to_length v.F (le_refl _) ∙ sym I.sized.store);
    stores = I.stores;
    records = cleaned-length rs v.F ∙ I.records;
    map_length = I.map_length;
    neat = cleaned-neat s.pool I.neat v.F (le_refl _) enough;
    by_store = stores-kept s.pool (cleaned_to rs v.F) s.pool.hand same I.by_store;
    frame_octets = I.frame_octets;
    store_octets = to_octets v.F;
    map_octets = I.map_octets;
    shape = kept-shape v (view (settled s)) kept I.shape;
    content = content;
    sound = I.sound;
    pins = pins-kept v (view (settled s)) kept.steady x.balance I.pins (cleaned-same (λ r. r.pins) (λ r. refl) rs v.F enough);
    directory = I.directory;
    chained = steady-chained s.pool _ s.directory refl same I.chained;
  }
