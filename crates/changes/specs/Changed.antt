-- What write, link and unlink leave, from what the code put where. Assumes nothing.
use Rattle.std.specs.Prelude.{ℕ, ◌+◌, ◌*◌, ◌-◌, ◌≤◌, ◌<◌, ◌≡◌, refl, Bool, List, [], ◌∷◌, leb, length, take, drop}
use Rattle.std.proofs.Common.{sym, ◌∙◌, ap, append_assoc, arith, le_refl, eq-eqb, ne_eqb, leb-true, take_all, drop-drop}
use borrow.Rule.Slice.PartMut.{put_mid}
use Rattle.std.proofs.lemmas.List.{set-get_or}
use Rattle.page.specs.declared.PageNumber.{PageNumber}
use Rattle.page.specs.Figures.{page_size, payload_start, payload_size, most_frames}
use Rattle.page.specs.Word.{marked, number_word}
use Rattle.page.specs.Page.{payload_at, put_payload, put_payload-none, put_slot}
use Rattle.machine.specs.declared.FrameRecord.{FrameRecord}
use Rattle.machine.specs.declared.Handle.{Handle}
use Rattle.machine.specs.declared.Pool.{Pool}
use Rattle.rules.specs.Tests.{first_broken}
use Rattle.rules.specs.TestLaws.{and-true, first-kept, pick_yes, pick_no}
use Rattle.machine.specs.Machine.{State, state, blank, record_at, with_record, with_records, dirtied}
use Rattle.machine.specs.Rules.{range_fits, word_of, rule5, rule6-link, rule7, rule8, rule9, rule10, rule26}
use Rattle.machine.specs.Answers.{done, out}
use Rattle.machine.specs.Calls.{write_rules, link_rules, unlink_rules, written, relinked, write_call, link_call, unlink_call}
use Rattle.machine.proofs.Laws.RuleLaws.{HandleKept, EditKept, handle-parts, edit-parts, accepted-out}
use Rattle.guard.specs.Held.{record_place}

-- the records with the page in frame f marked dirty
abbrev pub made_dirty : Pool → ℕ → Pool
made_dirty p f = with_record p f (dirtied (record_at p.records f))

-- ---- no rule is broken

pub record WriteKept (s : State) (h : Handle) (offset n : ℕ) : Type 0 where
  pub kept : HandleKept s h
  pub from : offset ≤ payload_size
  pub size : n ≤ payload_size - offset

pub write_kept : (s : State) (h : Handle) (offset n : ℕ) → 0 ≡ first_broken (write_rules s h offset n) → WriteKept s h offset n
unfolding range_fits
write_kept s h offset n e =
    let a = handle-parts s h (rule5 offset n ∷ rule26 s h ∷ []) (sym e) in
    let b = and-true (leb offset payload_size) (leb n (payload_size - offset)) (first-kept 4 (range_fits offset n) (rule26 s h ∷ []) a.1).0 in
    record { kept = a.0; from = leb-true offset payload_size b.0; size = leb-true n (payload_size - offset) b.1 }

pub linkable : (s : State) (h : Handle) (k : ℕ) (q : PageNumber) → 0 ≡ first_broken (link_rules s h k q) → EditKept s h k
linkable s h k q e = (edit-parts s h k (rule6-link s q.0 ∷ rule9 s h.store.0 q.0 ∷ rule8 (word_of s h k) ∷ []) (sym e)).0

pub unlinkable : (s : State) (h : Handle) (k : ℕ) → 0 ≡ first_broken (unlink_rules s h k) → EditKept s h k
unlinkable s h k e = (edit-parts s h k (rule7 (word_of s h k) ∷ rule10 (word_of s h k) ∷ []) (sym e)).0

-- ---- what is left

same-state : {p q : Pool} {fs gs : List ℕ} (st d : List ℕ) → p ≡ q → fs ≡ gs → state p fs st d ≡ state q gs st d
same-state st d e h = cc

-- a record put at the handle's place, where its frame is one of F: it is that frame's record, now dirty
put-dirty : (p : Pool) (h : Handle) {at : ℕ} {r : FrameRecord} → p.count ≤ most_frames → h.frame.0 < p.count → at ≡ record_place h → r ≡ dirtied (record_at p.records at) → with_record p at r ≡ made_dirty p h.frame.0
put-dirty p h {at} m l e d =
    let i : at ≡ h.frame.0 = omega arith in
    ap (with_record p at) d ∙ ap (made_dirty p) i

-- the part of the frames from a payload offset of frame f on, lent for n bytes and come back as ys
pub put_back : (fs : List ℕ) (f start offset : ℕ) (ys bytes : List ℕ) → start ≡ page_size * f → ys ≡ bytes
    → put_mid (start + payload_start + offset) (start + payload_start + offset + length bytes - (start + payload_start + offset)) fs ys ≡ put_payload fs f offset bytes
unfolding put_payload
put_back fs f start offset ys bytes s e =
    let a : ℕ = payload_at f + offset in
    let k : a + length bytes - a ≡ length bytes = omega arith in
    let t : take (length bytes) bytes ≡ bytes = take_all (length bytes) bytes (le_refl _) in
    rw (s, e, k, drop-drop (length bytes) a fs, t, append_assoc (take a fs) bytes (drop (a + length bytes) fs))

-- no bytes, at whatever frame
nothing_written : (s : State) (f offset : ℕ) (bytes : List ℕ) → length bytes ≡ 0 → s ≡ written s f offset bytes
nothing_written s f offset bytes e =
    let r = record_at s.pool.records f in
    same-state s.store s.directory
    (ap (with_records s.pool) (sym (set-get_or s.pool.records f blank)) ∙ ap (with_record s.pool f) (pick_yes (dirtied r) (eq-eqb (length bytes) 0 e) refl))
    (sym (put_payload-none s.frames f offset bytes e))

bytes-written : (s : State) (f offset : ℕ) (bytes : List ℕ) {p : Pool} {fs : List ℕ} → (length bytes ≡ 0 → ⊥) → p ≡ made_dirty s.pool f → fs ≡ put_payload s.frames f offset bytes → state p fs s.store s.directory ≡ written s f offset bytes
bytes-written s f offset bytes n e h =
    let r = record_at s.pool.records f in
    same-state s.store s.directory (e ∙ ap (with_record s.pool f) (pick_no r (ne_eqb (length bytes) 0 n) refl)) h

-- a slot stored, and such a record put
module _ (s : State) (h : Handle) (k : ℕ) {at : ℕ} {r : FrameRecord} {fs : List ℕ} where
  slot-put : (w : ℕ) → EditKept s h k → at ≡ record_place h → r ≡ dirtied (record_at s.pool.records at) → fs ≡ put_slot s.frames h.frame.0 k w → state (with_record s.pool at r) fs s.store s.directory ≡ relinked s h.frame.0 k w
  slot-put w a i d j = same-state s.store s.directory (put-dirty s.pool h a.kept.sized.most a.held.below i d) j

-- ---- the accepted calls

module _ (s : State) (h : Handle) (offset : ℕ) (bytes : List ℕ) (e : 0 ≡ first_broken (write_rules s h offset (length bytes))) where
  pub write-nothing : length bytes ≡ 0 → out done s ≡ write_call s h offset bytes
  unfolding write_call
  write-nothing n = accepted-out s _ e (ap (out done) (nothing_written s h.frame.0 offset bytes n))

  pub write_bytes : {p : Pool} {fs : List ℕ} → (length bytes ≡ 0 → ⊥) → p ≡ made_dirty s.pool h.frame.0 → fs ≡ put_payload s.frames h.frame.0 offset bytes
      → out done (state p fs s.store s.directory) ≡ write_call s h offset bytes
  unfolding write_call
  write_bytes n d j = accepted-out s _ e (ap (out done) (bytes-written s h.frame.0 offset bytes n d j))

module _ (s : State) (h : Handle) (k : ℕ) {p : Pool} {fs : List ℕ} (d : p ≡ made_dirty s.pool h.frame.0) where
  pub link-done : (q : PageNumber) (l : Bool) {w : ℕ} → 0 ≡ first_broken (link_rules s h k q) → fs ≡ put_slot s.frames h.frame.0 k w → w ≡ marked l (number_word q.0)
      → out done (state p fs s.store s.directory) ≡ link_call s h k q l
  unfolding link_call
  link-done q l e j n = accepted-out s _ e (ap (out done) (same-state s.store s.directory d (j ∙ ap (put_slot s.frames h.frame.0 k) n)))

  pub unlink-done : 0 ≡ first_broken (unlink_rules s h k) → fs ≡ put_slot s.frames h.frame.0 k 0
      → out done (state p fs s.store s.directory) ≡ unlink_call s h k
  unfolding unlink_call
  unlink-done e j = accepted-out s _ e (ap (out done) (same-state s.store s.directory d j))
