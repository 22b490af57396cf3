-- A page's image goes to the store: the words and payload bytes that are then read there. Assumes nothing.
use Rattle.std.specs.Prelude.{◌≡◌, refl, true, false, List, ℕ, ◌*◌, ◌≤◌, ◌<◌, length}
use Rattle.std.proofs.Math.Path.{sym}
use Rattle.std.proofs.Common.{ap, ◌∙◌, le_refl}
use Rattle.page.specs.Figures.{page_size, slot_count, payload_start, most_pages, word_radix}
use Rattle.page.specs.Word.{is_marked, name_of}
use Rattle.page.specs.Page.{slot, name, lock, byte, page_of, put_page, page_of-length, byte-put_page-same, byte-put_page-other, slot-put_page-same, slot-put_page-other, byte-page_of, slot-page_of, byte-first}
use Rattle.page.specs.StorePlaces.{store_place}
use Rattle.page.specs.Octets.{Octets, octets-page_of, octets-put_page}
use Rattle.machine.specs.declared.FrameRecord.{FrameRecord}
use Rattle.machine.specs.Machine.{is_dirty}
use Rattle.rules.specs.TestLaws.{clash, pick_yes, pick_no, pick-either, case, on, off}
use Rattle.machine.specs.Moves.{plain, imaged, image_to, written_out_by}
use Rattle.machine.proofs.Laws.PlainLaws.{name-imaged, mark-imaged, imaged-lt}
use Rattle.machine.proofs.Laws.MoveLaws.{image-length, octets-image, image-byte, image-slot}

-- the image of the page in frame f goes to the store, by its record r
module _ (N : ℕ) (page : ℕ → ℕ) (r : FrameRecord) (fs st : List ℕ) (f : ℕ) where
  -- its place among N pages of each store
  abbrev here : ℕ
  here = store_place N r.store.0 r.page.0

  out-clean : is_dirty r ≡ false → written_out_by N page r fs st f ≡ st
  unfolding written_out_by
  out-clean d = sym (pick_no _ d refl)

  out-dirty : is_dirty r ≡ true → written_out_by N page r fs st f ≡ put_page st here (image_to page (page_of fs f) slot_count)
  unfolding written_out_by
  out-dirty d = sym (pick_yes st d refl)

  pub out-octets : Octets fs → Octets st → Octets (written_out_by N page r fs st f)
  unfolding written_out_by
  out-octets hf hs =
      pick-either Octets (is_dirty r) (put_page st here (image_to page (page_of fs f) slot_count)) st
      (octets-put_page st here (image_to page (page_of fs f) slot_count) hs (octets-image page (page_of fs f) slot_count (octets-page_of fs f hf))) hs

  module _ (F M : ℕ) (lf : length fs ≡ page_size * F) (hf : f < F) (ls : length st ≡ page_size * M) (hp : here < M) where
    page_length : length (page_of fs f) ≡ page_size
    page_length = page_of-length fs f F lf hf

    image_length : length (image_to page (page_of fs f) slot_count) ≡ page_size
    image_length = image-length page (page_of fs f) slot_count ∙ page_length

    -- a page that is another, or clean, stays
    pub out-slot_stays : (p k : ℕ) → k < slot_count → (p ≡ here → is_dirty r ≡ false) → slot (written_out_by N page r fs st f) p k ≡ slot st p k
    out-slot_stays p k hk h = elim (case (is_dirty r)) [
      | on d ↦ ap (λ (b : List ℕ). slot b p k) (out-dirty d) ∙ slot-put_page-other st here _ M p k ls image_length hp (λ q. clash (sym d ∙ h (sym q))) hk
      | off d ↦ ap (λ (b : List ℕ). slot b p k) (out-clean d)
    ]

    pub out-byte_stays : (p i : ℕ) → i < page_size → (p ≡ here → is_dirty r ≡ false) → byte (written_out_by N page r fs st f) p i ≡ byte st p i
    out-byte_stays p i l h = elim (case (is_dirty r)) [
      | on d ↦ ap (λ (b : List ℕ). byte b p i) (out-dirty d) ∙ byte-put_page-other st here _ M p i ls image_length hp (λ q. clash (sym d ∙ h (sym q))) l
      | off d ↦ ap (λ (b : List ℕ). byte b p i) (out-clean d)
    ]

    -- a dirty page's is its image
    module _ (d : is_dirty r ≡ true) (small : (k : ℕ) → k < slot_count → plain page (name fs f k) < most_pages) where
      small_page : (k : ℕ) → k < slot_count → imaged page (slot (page_of fs f) 0 k) < word_radix
      small_page k hk = rw (slot-page_of fs f k hk) (imaged-lt page (slot fs f k) (small k hk))

      out-image : (k : ℕ) → k < slot_count → slot (written_out_by N page r fs st f) here k ≡ imaged page (slot fs f k)
      out-image k hk =
          ap (λ (b : List ℕ). slot b here k) (out-dirty d) ∙ slot-put_page-same st here _ M k ls image_length hp hk
          ∙ image-slot page (page_of fs f) page_length small_page slot_count k (le_refl slot_count) hk ∙ ap (imaged page) (slot-page_of fs f k hk)

      pub out-word : (k : ℕ) → k < slot_count → (plain page (name fs f k) ≡ 0 → name fs f k ≡ 0) → name (written_out_by N page r fs st f) here k ≡ plain page (name fs f k)
      out-word k hk some = ap name_of (out-image k hk) ∙ name-imaged page (slot fs f k) (small k hk) some

      pub out-mark : (k : ℕ) → k < slot_count → (plain page (name fs f k) ≡ 0 → name fs f k ≡ 0) → lock (written_out_by N page r fs st f) here k ≡ lock fs f k
      out-mark k hk some = ap is_marked (out-image k hk) ∙ mark-imaged page (slot fs f k) (small k hk) some

      pub out-byte : (i : ℕ) → payload_start ≤ i → i < page_size → byte (written_out_by N page r fs st f) here i ≡ byte fs f i
      out-byte i h l =
          ap (λ (b : List ℕ). byte b here i) (out-dirty d) ∙ byte-put_page-same st here _ M i ls image_length hp l
          ∙ sym (byte-first _ i) ∙ image-byte page (page_of fs f) slot_count i (le_refl slot_count) h l ∙ byte-page_of fs f i l
