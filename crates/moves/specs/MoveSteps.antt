-- From what the code did, step by step, to the definitions of the moves. Assumes nothing.
use Rattle.std.specs.Prelude.{ℕ, ◌+◌, ◌*◌, ◌-◌, ◌<◌, ◌≤◌, ◌≡◌, refl, true, false, List, [], length, take, drop}
use Rattle.std.proofs.Common.{sym, ap, ◌∙◌, arith, add-one}
use borrow.Rule.Slice.PartMut.{put_mid}
use Rattle.page.specs.Figures.{page_size, slot_count}
use Rattle.page.specs.StorePlaces.{store_place}
use Rattle.page.proofs.StorePlaceLaws.{place-lt}
use Rattle.page.specs.Word.{renamed, is_number, number-yes}
use Rattle.page.specs.Octets.{Octets}
use Rattle.page.specs.Page.{slot, name, page_of, put_slot, put_page, slot-page_of, page_of-whole, part-is-page, put-part}
use Rattle.machine.specs.declared.FrameRecord.{FrameRecord}
use Rattle.machine.specs.declared.Pool.{Pool}
use Rattle.rules.specs.TestLaws.{every_true, pick_yes, pick_no}
use Rattle.machine.specs.Machine.{State, state, cleaned, is_dirty, record_at, page_in, with_record, with_records}
use Rattle.machine.specs.Moves.{image_to, written_out_by, written_out_to, cleaned_to, settled}
use Rattle.machine.specs.Sweep.{childless}
use Rattle.machine.proofs.Laws.MoveLaws.{image-length, image-own, written_out_by-ext, written_out_to-zero, written_out_to-suc, cleaned_to-zero, cleaned_to-suc, cleaned_to-above}
use Rattle.machine.proofs.Laws.Ready.{Sized, Ceiled, Ready}
use Rattle.residents.specs.Residents.{page_by, Residents}
use Rattle.residents.specs.ResidentLaws.{page-by}
use Rattle.moves.specs.WriteOut.{Named, Placeable, Placed, Writable}

-- ---- a page's image, and the image put where a part of the store was lent

-- a page without a swizzled word is its own image
pub own-image : (page : ℕ → ℕ) (fs : List ℕ) (f : ℕ) → page_size * f + page_size ≤ length fs → Octets (page_of fs f) → childless fs f ≡ true → image_to page (page_of fs f) slot_count ≡ page_of fs f
unfolding childless
own-image page fs f h o c =
    image-own page (page_of fs f) (page_of-whole fs f h) o
    (λ k l. rw (slot-page_of fs f k l) (number-yes _ (every_true slot_count (λ j. is_number (name fs f j)) c k l)))

-- frame f from `from` on
pub part-named : (fs : List ℕ) (f from : ℕ) → from ≡ page_size * f → Named fs f → Named (take (from + page_size - from) (drop from fs)) 0
part-named fs f from e h k l = rw (e, part-is-page fs f, slot-page_of fs f k l) (h k l)

-- and the page at place q from `to` on
pub image-back : (page : ℕ → ℕ) (fs st ys : List ℕ) (f q from to : ℕ) → from ≡ page_size * f → to ≡ page_size * q → page_size * f + page_size ≤ length fs
    → ys ≡ image_to page (take (from + page_size - from) (drop from fs)) slot_count → put_mid to (to + page_size - to) st ys ≡ put_page st q (image_to page (page_of fs f) slot_count)
image-back page fs st ys f q from to a b h e =
    let part : take (from + page_size - from) (drop from fs) ≡ page_of fs f = rw a (part-is-page fs f) in
    rw b (put-part st q ys (image_to page (page_of fs f) slot_count) (e ∙ ap (λ (g : List ℕ). image_to page g slot_count) part)
    (image-length page (page_of fs f) slot_count ∙ page_of-whole fs f h))

-- a parent's word that code put: renamed from the word o, which was read in the frames fs
pub renamed-put : (b fs c d : List ℕ) (f k j o n m w : ℕ) → c ≡ b → k ≡ j → o ≡ slot fs f k → n ≡ m → w ≡ renamed o n → d ≡ put_slot c f k w → d ≡ put_slot b f j (renamed (slot fs f j) m)
renamed-put b fs c d f k j o n m w hc hk ho hn hw hd = rw (hd, hw, ho, hn, hc, hk)

-- ---- writing out

pub written-clean : (N : ℕ) (page : ℕ → ℕ) (r : FrameRecord) (fs st : List ℕ) (f : ℕ) → is_dirty r ≡ false → st ≡ written_out_by N page r fs st f
unfolding written_out_by
written-clean N page r fs st f d = pick_no _ d refl

pub written-dirty : (N : ℕ) (page : ℕ → ℕ) (r : FrameRecord) (fs st ts : List ℕ) (f q : ℕ) → is_dirty r ≡ true → q ≡ store_place N r.store.0 r.page.0 → ts ≡ put_page st q (image_to page (page_of fs f) slot_count)
    → ts ≡ written_out_by N page r fs st f
unfolding written_out_by
written-dirty N page r fs st ts f q d i e = pick_yes _ d (rw i at e)

-- the pages by the table are those by the records
written-by-table : (N : ℕ) (rs : List FrameRecord) (t : List ℕ) (r : FrameRecord) (fs st : List ℕ) (f : ℕ) → Residents rs t → (is_dirty r ≡ true → Named fs f)
    → written_out_by N (page_by t) r fs st f ≡ written_out_by N (page_in rs) r fs st f
written-by-table N rs t r fs st f h n = written_out_by-ext N (page_by t) (page_in rs) r fs st f n (page-by h)

-- the place by its other name
pub placed_at : {q p f : ℕ} {fs st : List ℕ} → q ≡ p → Placed p fs st f → Placed q fs st f
placed_at e P = rw e P

-- a page of a store has its place there
pub has-place : (s : State) (t q : ℕ) → Sized s → Ceiled s → t < s.pool.stores → q < s.pool.pages → Placeable s.pool.pages t q
has-place s t q z u lt lq = record { store = omega (arith, u.most); page = omega (arith, z.pages); pages = z.pages }

pub place_inside : (s : State) (t q : ℕ) → Sized s → t < s.pool.stores → q < s.pool.pages → page_size * store_place s.pool.pages t q + page_size ≤ length s.store
place_inside s t q z lt lq = omega (arith, z.store, place-lt s.pool.pages t s.pool.stores q lt lq)

pub writable : (s : State) (f : ℕ) → Ready s → f < s.pool.count → Writable s.pool.pages (record_at s.pool.records f) s.frames s.store f
writable s f h l =
    let z = h.sized in
    let r = h.in_range f l in
    record {
      placeable = has-place s _ _ z h.stores r.store r.page;
      placed = record { frame = omega arith; bytes = omega arith; place = place_inside s _ _ z r.store r.page };
      words = λ d k. h.words f k l (h.dirty_used f l d);
    }

-- ---- settling, frame by frame. It leaves the directory as it is, and asks nothing of it.

-- what is ready is so with another directory
pub ready_with : (s : State) (d : List ℕ) → Ready s → Ready (state s.pool s.frames s.store d)
ready_with s d h = record { sized = h.sized; stores = h.stores; hand = h.hand; in_range = h.in_range; dirty_used = h.dirty_used; words = h.words }

-- the pool p with the frames fs and the store st was settled, whatever the directory, which made n and ts of it
abbrev pub SettledAs : Pool → List ℕ → List ℕ → Pool → List ℕ → Type 0
SettledAs p fs st n ts = (d : List ℕ) → state n fs ts d ≡ settled (state p fs st d)

-- of the pool p and the store st, the first f frames were settled, which made n and ts of them
pub record Settling (p n : Pool) (fs st ts : List ℕ) (f : ℕ) : Type 0 where
  pub clean : n ≡ with_records p (cleaned_to p.records f)
  pub written : ts ≡ written_out_to p.pages p.records fs st f

pub settling-none : (p : Pool) (fs st : List ℕ) → Settling p p fs st st 0
settling-none p fs st = record { clean = ap (with_records p) (sym (cleaned_to-zero p.records)); written = sym (written_out_to-zero p.pages p.records fs st) }

module _ {p n : Pool} {fs st ss : List ℕ} {f : ℕ} (S : Settling p n fs st ss f) where
  -- the next frame's record is as it was
  same-record : record_at n.records f ≡ record_at p.records f
  same-record = ap (λ (m : Pool). record_at m.records f) S.clean ∙ cleaned_to-above p.records f f (omega arith)

  pub settling-writable : Ready (state p fs st []) → f < p.count → length ss ≡ length st → Writable p.pages (record_at n.records f) fs ss f
  settling-writable h l k =
      let w = writable (state p fs st []) f h l in
      rw same-record (record { placeable = w.placeable; placed = record { frame = w.placed.frame; bytes = w.placed.bytes; place = rw k w.placed.place }; words = w.words })

  pub settling-more : {t ts : List ℕ} {r : FrameRecord} → Ready (state p fs st []) → f < p.count → Residents p.records t → ts ≡ written_out_by p.pages (page_by t) (record_at n.records f) fs ss f
      → r ≡ cleaned (record_at n.records f) → Settling p (with_record n f r) fs st ts (f + 1)
  settling-more {t} {ts} h l residents e d =
      let by = written-by-table p.pages p.records t (record_at p.records f) fs ss f residents (writable (state p fs st []) f h l).words in
      record {
        clean = rw (d, S.clean, add-one f, cleaned_to-suc p.records f);
        written = rw (e, same-record, by, S.written, add-one f, written_out_to-suc p.pages p.records fs st f);
      }

  pub is-settled : f ≡ p.count → SettledAs p fs st n ss
  unfolding settled
  is-settled e d = rw (S.clean, S.written, e)
