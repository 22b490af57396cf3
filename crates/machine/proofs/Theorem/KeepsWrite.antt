-- Payload bytes put into a resident page that isn't locked keep the invariant.
use Rattle.std.specs.Prelude.{◌≡◌, refl, ◌≢◌, false, List, ℕ, ◌+◌, ◌≤◌, ◌<◌, eqb, length, set}
use Rattle.std.proofs.Common.{sym, ap, ◌∙◌, arith, length-set, eqb-true}
use Rattle.std.proofs.Math.Decide.{ℕ_discrete}
use Rattle.page.specs.Figures.{page_size, slot_count, payload_size}
use Rattle.page.specs.Word.{is_marked, name_of}
use Rattle.page.specs.Page.{slot, byte, put_payload, put_payload-length, slot-put_payload, byte-put_payload-other, byte-put_payload-both, put_payload-none}
use Rattle.page.specs.Octets.{Octets, octets-put_payload}
use Rattle.machine.specs.declared.FrameRecord.{FrameRecord}
use Rattle.rules.specs.TestLaws.{clash, pick_yes, pick_no, pick-either, case, on, off}
use Rattle.machine.specs.Machine.{State, is_dirty, record_at, dirtied}
use Rattle.machine.specs.Calls.{dirtied_by, written}
use Rattle.machine.specs.History.{Point}
use Rattle.machine.proofs.Theorem.Lift.{lift-same}
use Rattle.machine.proofs.Theorem.View.{View, view, Occupied, Map, Free, MapSound}
use Rattle.machine.proofs.Theorem.Invariant.{Invariant, map_view}
use Rattle.machine.proofs.Theorem.KeepEffect.{KeptView, kept-shape, kept-content, Rewritten}
use Rattle.machine.proofs.Theorem.PinsEffect.{pins-kept}
use Rattle.machine.proofs.Theorem.Chains.{steady-chained}
use Rattle.machine.proofs.Theorem.RecordChange.{SamePlace, stores-kept, change-places, change-here, change-other, change-same, change-steady, neat-change, neat-place, record-lt, lengths-kept}

-- a map with the same words is as sound
same-sound : (m n : Map) (N : ℕ) → ((p k : ℕ) → p < N → k < slot_count → n.map_word p k ≡ m.map_word p k) → (roots each : ℕ) → MapSound m N roots each → MapSound n N roots each
same-sound m n N same roots each S = record {
  not_root = λ p k hp hk z. rw (same p k hp hk) (S.not_root p k hp hk (rw (same p k hp hk) at z));
  below = λ p k hp hk. rw (same p k hp hk) (S.below p k hp hk);
  once = λ p k q j hp hk hq hj z e. S.once p k q j hp hk hq hj (rw (same p k hp hk) at z) (sym (same p k hp hk) ∙ e ∙ same q j hq hj);
}

module _ (x : Point) (I : Invariant x) (f : ℕ) (of : Occupied (view x.now) f) (offset : ℕ) (d : List ℕ) (fits : offset + length d ≤ payload_size) (od : Octets d)
    (free : Free (map_view x.now.pool.pages x.map) (view x.now).N ((view x.now).page f)) where
  abbrev s : State
  s = x.now

  abbrev v : View
  v = view x.now

  abbrev rs : List FrameRecord
  rs = x.now.pool.records

  abbrev r : FrameRecord
  r = dirtied_by (length d) (record_at rs f)

  abbrev w : View
  w = view (written x.now f offset d)

  abbrev m : List ℕ
  m = put_payload x.map (v.page f) offset d

  lt : f < length rs
  lt = record-lt x I f of.lt

  p_n : v.page f < v.N
  p_n = I.shape.page_lt f of

  -- either record that may be picked
  same_place : SamePlace (record_at rs f) r
  same_place = pick-either (SamePlace (record_at rs f)) (eqb (length d) 0) (record_at rs f) (dirtied (record_at rs f))
      (record { used = refl; store = refl; page = refl; parent = refl; slot = refl }) (record { used = refl; store = refl; page = refl; parent = refl; slot = refl })

  same_pins : r.pins ≡ (record_at rs f).pins
  same_pins = pick-either (λ (t : FrameRecord). t.pins ≡ (record_at rs f).pins) (eqb (length d) 0) (record_at rs f) (dirtied (record_at rs f)) refl refl

  same_usage : r.usage ≡ (record_at rs f).usage
  same_usage = pick-either (λ (t : FrameRecord). t.usage ≡ (record_at rs f).usage) (eqb (length d) 0) (record_at rs f) (dirtied (record_at rs f)) refl refl

  flag_dirty : r.dirty ≤ 1
  flag_dirty = pick-either (λ (t : FrameRecord). t.dirty ≤ 1) (eqb (length d) 0) (record_at rs f) (dirtied (record_at rs f)) (I.neat.at f).dirty (omega arith)

  kept : KeptView v w
  kept = record {
    steady = change-steady s f r (put_payload s.frames f offset d) s.store s.directory lt same_place;
    word = λ g k hg hk. lift-same s.pool.pages _ _ _ _ ((change-places rs f r lt same_place).store g) (ap name_of (slot-put_payload s.frames f offset d _ I.sized.frames of.lt fits g k hk));
    mark = λ g k hg hk. ap is_marked (slot-put_payload s.frames f offset d _ I.sized.frames of.lt fits g k hk);
  }

  -- clean afterwards: clean before, and where it is f nothing was written
  record StillClean (g : ℕ) : Type 0 where
    clean : v.dirty g ≡ false
    nothing : g ≡ f → length d ≡ 0

  still_clean : (g : ℕ) → w.dirty g ≡ false → StillClean g
  still_clean g e = elim (ℕ_discrete g f) [
    | yes q ↦ elim (case (eqb (length d) 0)) [
      | on z ↦ record { clean = rw q (ap is_dirty (pick_yes (dirtied (record_at rs f)) z refl) ∙ sym (here q) ∙ e); nothing = λ y. eqb-true (length d) 0 z }
      | off z ↦ absurd (clash (ap is_dirty (pick_no (record_at rs f) z refl) ∙ sym (here q) ∙ e))
    ]
    | no q ↦ record { clean = sym (ap is_dirty (change-other rs f r g q)) ∙ e; nothing = λ y. absurd (q y) }
  ]
    where
      here : g ≡ f → w.dirty g ≡ is_dirty r
      here q = rw q (ap is_dirty (change-here rs f r lt))

  -- the map's payload of every other page stays
  elsewhere : (p i : ℕ) → i < page_size → p ≢ v.page f → byte m p i ≡ byte x.map p i
  elsewhere p i l n = byte-put_payload-other x.map (v.page f) offset d _ I.map_length p_n fits p i l n

  map_slots : (p k : ℕ) → k < slot_count → slot m p k ≡ slot x.map p k
  map_slots p k hk = slot-put_payload x.map (v.page f) offset d _ I.map_length p_n fits p k hk

  rewritten : Rewritten v w (map_view s.pool.pages x.map) (map_view s.pool.pages m)
  rewritten = record {
    map_word = λ p k hp hk. lift-same s.pool.pages _ _ _ _ refl (ap name_of (map_slots p k hk));
    map_mark = λ p k hp hk. ap is_marked (map_slots p k hk);
    bytes = λ g i o h l e. elim (ℕ_discrete g f) [
      | yes q ↦ rw q (byte-put_payload-both s.frames f x.map (v.page f) offset d _ _ i I.sized.frames of.lt I.map_length p_n fits l (rw q at e))
      | no q ↦ byte-put_payload-other s.frames f offset d _ I.sized.frames of.lt fits g i l q ∙ e ∙ sym (elsewhere (v.page g) i l (λ z. q (I.shape.apart g f o of z)))
    ];
    store_word = λ p k hp hk. refl;
    store_mark = λ p k hp hk. refl;
    store_bytes = λ p i hp l. refl;
    absent = λ p i hp a l. elsewhere p i l (λ z. a f of (sym z));
    clean = λ g o e. (still_clean g e).clean;
    free = λ g o e h. elim (ℕ_discrete g f) [ yes q ↦ rw q free | no q ↦ h (sym (ap is_dirty (change-other rs f r g q)) ∙ e) ];
    clean_bytes = λ g i o e l. elim (ℕ_discrete g f) [
      | yes q ↦ ap (λ (b : List ℕ). byte b (v.page g) i) (put_payload-none x.map (v.page f) offset d ((still_clean g e).nothing q))
      | no q ↦ elsewhere (v.page g) i l (λ z. q (I.shape.apart g f o of z))
    ];
  }

  pub write_keeps : Invariant (record { now = written s f offset d; map = put_payload x.map (v.page f) offset d; balance = x.balance })
  write_keeps = record {
    sized = lengths-kept _ s.store I.sized (put_payload-length s.frames f offset d _ I.sized.frames of.lt fits) refl;
    stores = I.stores;
    records = length-set rs f r ∙ I.records;
    map_length = put_payload-length x.map (v.page f) offset d _ I.map_length p_n fits ∙ I.map_length;
    neat = neat-change s.pool f r lt of.lt (neat-place _ _ f (record_at rs f) r of.on same_place flag_dirty (rw same_usage (I.neat.at f).usage) (rw same_pins (I.neat.at f).pins) (I.neat.at f)) I.neat;
    by_store = stores-kept s.pool (set rs f r) s.pool.hand (change-places rs f r lt same_place) I.by_store;
    frame_octets = octets-put_payload s.frames f offset d I.frame_octets od;
    store_octets = I.store_octets;
    map_octets = octets-put_payload x.map (v.page f) offset d I.map_octets od;
    shape = kept-shape v w kept I.shape;
    content = kept-content v w kept I.shape (map_view s.pool.pages x.map) (map_view s.pool.pages m) I.content rewritten;
    sound = same-sound (map_view s.pool.pages x.map) (map_view s.pool.pages m) v.N rewritten.map_word _ _ I.sound;
    pins = pins-kept v w kept.steady x.balance I.pins (change-same rs f r (λ t. t.pins) lt same_pins);
    directory = I.directory;
    chained = steady-chained s.pool _ s.directory refl (change-places rs f r lt same_place) I.chained;
  }
