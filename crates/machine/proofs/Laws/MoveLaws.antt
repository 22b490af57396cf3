-- Laws of images and of the moves: what an image holds, what the moves keep, and that a page written out and loaded again is that page. Assumes nothing.
use Prim.Native.Nat.{ℕ, zero, suc, ◌+◌, ◌*◌, ◌<◌, ◌≤◌}
use Rattle.std.specs.Prelude.{◌≡◌, ◌≢◌, Bool, true, false, List, length, set}
use Rattle.std.proofs.Math.Path.{refl}
use Rattle.std.proofs.Common.{sym, ◌∙◌, ap, arith, get_or-set_other}
use Rattle.std.proofs.Math.Decide.{dec_lt, ℕ_discrete}
use Rattle.page.specs.Figures.{page_size, slot_count, payload_start, most_frames, word_radix}
use Rattle.page.specs.Word.{is_number, frame_in, frame_word, put_word-before, put_word-after, Number, number-yes}
use Rattle.page.specs.Page.{slot, name, byte, page_of, put_slot, put_page, put_slot-length, slot-put_slot-same, slot-put_slot-slot, byte-put_slot, page_of-length, put_page-length, slot-page_of, page_of-put_page, page_of-ext}
use Rattle.page.specs.StorePlaces.{store_place}
use Rattle.page.proofs.StorePlaceLaws.{place-lt}
use Rattle.page.specs.Octets.{Octets, octets-put_slot, octets-page_of, slot_lt, buffer-ext}
use Rattle.machine.specs.declared.FrameRecord.{FrameRecord}
use Rattle.rules.specs.Tests.{pick}
use Rattle.rules.specs.TestLaws.{every_true, pick_yes, pick-either}
use Rattle.machine.specs.Machine.{State, blank, cleaned, is_dirty, record_at, page_in, store_in, place_in}
use Rattle.machine.specs.Moves.{plain, imaged, image_to, image_of, written_out_by, written_out, written_out_to, cleaned_to, evicted, loaded}
use Rattle.machine.specs.Sweep.{childless}
use Rattle.machine.proofs.Laws.Ready.{Sized, Ready, place-below}
use Rattle.machine.proofs.Laws.PlainLaws.{imaged-low}

-- ---- the image of the bytes g

module _ (page : ℕ → ℕ) (g : List ℕ) where
  pub image-zero : image_to page g 0 ≡ g
  unfolding image_to
  image-zero = refl

  pub image-suc : (n : ℕ) → image_to page g (suc n) ≡ put_slot (image_to page g n) 0 n (imaged page (slot g 0 n))
  unfolding image_to
  image-suc n = refl

  pub image-length : (n : ℕ) → length (image_to page g n) ≡ length g
  unfolding image_to
  image-length zero = refl
  image-length (suc n) = put_slot-length (image_to page g n) 0 n _ ∙ image-length n

  pub octets-image : (n : ℕ) → Octets g → Octets (image_to page g n)
  unfolding image_to
  octets-image zero h = h
  octets-image (suc n) h = octets-put_slot (image_to page g n) 0 n _ (octets-image n h)

  -- payload bytes stay
  pub image-byte : (n i : ℕ) → n ≤ slot_count → payload_start ≤ i → i < page_size → byte (image_to page g n) 0 i ≡ byte g 0 i
  unfolding image_to
  image-byte zero i h lo hi = refl
  image-byte (suc n) i h lo hi = byte-put_slot (image_to page g n) 0 n _ 0 i (omega arith) lo hi ∙ image-byte n i (omega arith) lo hi

  -- each word becomes the image's
  pub image-slot : length g ≡ page_size → ((k : ℕ) → k < slot_count → imaged page (slot g 0 k) < word_radix) → (n k : ℕ) → n ≤ slot_count → k < n → slot (image_to page g n) 0 k ≡ imaged page (slot g 0 k)
  unfolding image_to
  image-slot l small zero k h lk = absurd (omega arith)
  image-slot l small (suc n) k h lk = elim (ℕ_discrete k n) [
    | yes q ↦ rw q (slot-put_slot-same (image_to page g n) 0 n _ 1 (image-length n ∙ l) (omega arith) (omega arith) (small n (omega arith)))
    | no q ↦ slot-put_slot-slot (image_to page g n) 0 n _ k (λ x. q (sym x)) ∙ image-slot l small n k (omega arith) (omega arith)
  ]

  -- a page without a swizzled word is its own image
  pub image-own : length g ≡ page_size → Octets g → ((k : ℕ) → k < slot_count → Number (name g 0 k)) → image_to page g slot_count ≡ g
  image-own l o low =
      let same : (k : ℕ) → k < slot_count → imaged page (slot g 0 k) ≡ slot g 0 k = λ k h. imaged-low page (slot g 0 k) (low k h) in
      let small : (k : ℕ) → k < slot_count → imaged page (slot g 0 k) < word_radix = λ k h. rw (same k h) (slot_lt g 0 k o) in
      buffer-ext (image_to page g slot_count) g 1 (octets-image slot_count o) o (image-length slot_count ∙ l) l
      (λ p k hp hk. let z : p ≡ 0 = omega arith in rw z (image-slot l small slot_count k (omega arith) hk ∙ same k hk))
      (λ p i hp lo hi. let z : p ≡ 0 = omega arith in rw z (image-byte slot_count i (omega arith) lo hi))

-- an image asks of the frames only what the swizzled words name
plain-ext : (a b : ℕ → ℕ) (w : ℕ) → w < frame_word most_frames → ((g : ℕ) → g < most_frames → a g ≡ b g) → plain a w ≡ plain b w
unfolding plain
plain-ext a b w h e = ap (pick (is_number w) w) (e (frame_in w) (omega arith))

pub image-ext : (a b : ℕ → ℕ) (g : List ℕ) (n : ℕ) → n ≤ slot_count → ((k : ℕ) → k < slot_count → name g 0 k < frame_word most_frames) → ((j : ℕ) → j < most_frames → a j ≡ b j)
    → image_to a g n ≡ image_to b g n
unfolding image_to
image-ext a b g zero l h e = refl
image-ext a b g (suc n) l h e = rw (image-ext a b g n (omega arith) h e, plain-ext a b (name g 0 n) (h n (omega arith)) e)

-- ---- writing out

-- where a and b give the same pages to 64 frames, and a dirty page's swizzled words name one of those
pub written_out_by-ext : (N : ℕ) (a b : ℕ → ℕ) (r : FrameRecord) (fs st : List ℕ) (f : ℕ) → (is_dirty r ≡ true → (k : ℕ) → k < slot_count → name fs f k < frame_word most_frames)
    → ((j : ℕ) → j < most_frames → a j ≡ b j) → written_out_by N a r fs st f ≡ written_out_by N b r fs st f
unfolding written_out_by pick
written_out_by-ext N a b r fs st f h e = by-dirty (is_dirty r) h
  where
    by-dirty : (d : Bool) → (d ≡ true → (k : ℕ) → k < slot_count → name fs f k < frame_word most_frames)
        → pick d (put_page st (store_place N r.store.0 r.page.0) (image_to a (page_of fs f) slot_count)) st ≡ pick d (put_page st (store_place N r.store.0 r.page.0) (image_to b (page_of fs f) slot_count)) st
    by-dirty true k = ap (λ (g : List ℕ). pick true (put_page st (store_place N r.store.0 r.page.0) g) st) (image-ext a b (page_of fs f) slot_count (omega arith) (λ j l. rw (slot-page_of fs f j l) (k refl j l)) e)
    by-dirty false k = refl

pub written_out_by-length : (N : ℕ) (page : ℕ → ℕ) (r : FrameRecord) (fs st : List ℕ) (f F M : ℕ) → length fs ≡ page_size * F → length st ≡ page_size * M → f < F → store_place N r.store.0 r.page.0 < M
    → length (written_out_by N page r fs st f) ≡ length st
unfolding written_out_by
written_out_by-length N page r fs st f F M lf ls hf hp =
    pick-either (λ (x : List ℕ). length x ≡ length st) (is_dirty r) _ _
    (put_page-length st (store_place N r.store.0 r.page.0) _ M ls (image-length page (page_of fs f) slot_count ∙ page_of-length fs f F lf hf) hp) refl

pub written_out_to-zero : (N : ℕ) (rs : List FrameRecord) (fs st : List ℕ) → written_out_to N rs fs st 0 ≡ st
unfolding written_out_to
written_out_to-zero N rs fs st = refl

pub written_out_to-suc : (N : ℕ) (rs : List FrameRecord) (fs st : List ℕ) (n : ℕ) → written_out_to N rs fs st (suc n) ≡ written_out N rs fs (written_out_to N rs fs st n) n
unfolding written_out_to
written_out_to-suc N rs fs st n = refl

pub written_out_to-length : (N : ℕ) (rs : List FrameRecord) (fs st : List ℕ) (F M : ℕ) → length fs ≡ page_size * F → length st ≡ page_size * M → ((f : ℕ) → f < F → place_in N rs f < M)
    → (n : ℕ) → n ≤ F → length (written_out_to N rs fs st n) ≡ length st
unfolding written_out_to
written_out_to-length N rs fs st F M lf ls hp zero h = refl
written_out_to-length N rs fs st F M lf ls hp (suc n) h =
    let e = written_out_to-length N rs fs st F M lf ls hp n (omega arith) in
    written_out_by-length N (page_in rs) (record_at rs n) fs (written_out_to N rs fs st n) n F M lf (e ∙ ls) (omega arith) (hp n (omega arith)) ∙ e

pub cleaned_to-zero : (rs : List FrameRecord) → cleaned_to rs 0 ≡ rs
unfolding cleaned_to
cleaned_to-zero rs = refl

pub cleaned_to-suc : (rs : List FrameRecord) (n : ℕ) → cleaned_to rs (suc n) ≡ set (cleaned_to rs n) n (cleaned (record_at (cleaned_to rs n) n))
unfolding cleaned_to
cleaned_to-suc rs n = refl

-- the records from n on stay as they were
pub cleaned_to-above : (rs : List FrameRecord) (n m : ℕ) → n ≤ m → record_at (cleaned_to rs n) m ≡ record_at rs m
unfolding cleaned_to
cleaned_to-above rs zero m h = refl
cleaned_to-above rs (suc n) m h = get_or-set_other (cleaned_to rs n) n m _ blank (omega arith) ∙ cleaned_to-above rs n m (omega arith)

-- ---- the moves keep F, N, T and the lengths

pub evicted-counts : (s : State) (f : ℕ) → ((evicted s f).pool.count ≡ s.pool.count) × ((evicted s f).pool.pages ≡ s.pool.pages) × ((evicted s f).pool.stores ≡ s.pool.stores)
unfolding evicted
evicted-counts s f = (refl, refl, refl)

pub evicted-sized : (s : State) (f : ℕ) → Ready s → f < s.pool.count → Sized (evicted s f)
unfolding evicted
evicted-sized s f R l =
    let z = R.sized in
    record {
      least = z.least;
      most = z.most;
      some = z.some;
      pages = z.pages;
      frames = put_slot-length s.frames _ _ _ ∙ z.frames;
      store = written_out_by-length s.pool.pages _ (record_at s.pool.records f) s.frames s.store f _ _ z.frames z.store l (place-below s R f l) ∙ z.store;
    }

-- ---- "A page written out and loaded again is that page."

-- a word put into one page leaves the bytes of every other
byte-put_slot-other : (b : List ℕ) (p k w q i : ℕ) → k < slot_count → q ≢ p → i < page_size → byte (put_slot b p k w) q i ≡ byte b q i
unfolding byte put_slot
byte-put_slot-other b p k w q i hk ne hi = elim (dec_lt q p) [
  | yes h ↦ put_word-before b (256 * p + 4 * k) w (256 * q + i) (omega arith)
  | no h ↦ put_word-after b (256 * p + 4 * k) w (256 * q + i) (omega arith)
]

pub page_of-put_slot-other : (b : List ℕ) (p k w q n : ℕ) → length b ≡ page_size * n → q < n → k < slot_count → q ≢ p → page_of (put_slot b p k w) q ≡ page_of b q
page_of-put_slot-other b p k w q n l hq hk ne = page_of-ext (put_slot b p k w) b q q n n (put_slot-length b p k w ∙ l) hq l hq (λ i h. byte-put_slot-other b p k w q i hk ne h)

-- an eviction writes a dirty page's image to the store
pub evicted-stored : (s : State) (f : ℕ) → Ready s → f < s.pool.count → is_dirty (record_at s.pool.records f) ≡ true
    → page_of (evicted s f).store (place_in s.pool.pages s.pool.records f) ≡ image_of s.pool.records s.frames f
unfolding evicted written_out_by
evicted-stored s f R l d =
    let z = R.sized in
    let lg : length (image_of s.pool.records s.frames f) ≡ page_size = image-length _ (page_of s.frames f) slot_count ∙ page_of-length s.frames f _ z.frames l in
    ap (λ (st : List ℕ). page_of st (place_in s.pool.pages s.pool.records f)) (sym (pick_yes s.store d refl)) ∙ page_of-put_page s.store _ _ _ z.store lg (place-below s R f l)

-- a load brings the bytes of the stored page into its frame
pub loaded_bytes : (s : State) (f k e t q : ℕ) → Sized s → k < slot_count → e < s.pool.count → t < s.pool.stores → q < s.pool.pages → e ≢ f
    → page_of (loaded s f k e t q).frames e ≡ page_of s.store (store_place s.pool.pages t q)
unfolding loaded
loaded_bytes s f k e t q z hk he ht hq ne =
    let page : List ℕ = page_of s.store (store_place s.pool.pages t q) in
    let lg : length page ≡ page_size = page_of-length s.store _ _ z.store (place-lt s.pool.pages t _ q ht hq) in
    let l : length (put_page s.frames e page) ≡ page_size * s.pool.count = put_page-length s.frames e page _ z.frames lg he ∙ z.frames in
    page_of-put_slot-other (put_page s.frames e page) f k _ e _ l he hk ne ∙ page_of-put_page s.frames e page _ z.frames lg he

-- the image of a frame without a swizzled word is its bytes
pub childless-image : (s : State) (f : ℕ) → Sized s → Octets s.frames → f < s.pool.count → childless s.frames f ≡ true → image_of s.pool.records s.frames f ≡ page_of s.frames f
unfolding childless
childless-image s f z o l c =
    image-own (page_in s.pool.records) (page_of s.frames f) (page_of-length s.frames f _ z.frames l) (octets-page_of s.frames f o)
    (λ k h. rw (slot-page_of s.frames f k h) (number-yes _ (every_true slot_count (λ j. is_number (name s.frames f j)) c k h)))

-- the page in frame f leaves it, and comes into frame e for slot k of frame up
abbrev pub out_and_in : State → ℕ → ℕ → ℕ → ℕ → State
out_and_in s f up k e = loaded (evicted s f) up k e (store_in s.pool.records f) (page_in s.pool.records f)

pub record CameBack (s : State) (f up k e : ℕ) : Type 0 where
  -- what went to the store is the image
  pub stored : page_of (evicted s f).store (place_in s.pool.pages s.pool.records f) ≡ image_of s.pool.records s.frames f
  -- what came into frame e is the image
  pub image : page_of (out_and_in s f up k e).frames e ≡ image_of s.pool.records s.frames f
  -- and that is, byte for byte, the page that was in frame f
  pub same : page_of (out_and_in s f up k e).frames e ≡ page_of s.frames f

-- of any dirty page without a swizzled word (a dirty record is in use), for any slot of any frame but its own new one
pub written-out-and-loaded : (s : State) (f up k e : ℕ) → Ready s → Octets s.frames → f < s.pool.count → is_dirty (record_at s.pool.records f) ≡ true → childless s.frames f ≡ true
    → k < slot_count → e < s.pool.count → e ≢ up → CameBack s f up k e
written-out-and-loaded s f up k e R o l d c hk he ne =
    let stored = evicted-stored s f R l d in
    let n = evicted-counts s f in
    let image = loaded_bytes (evicted s f) up k e _ _ (evicted-sized s f R l) hk (rw n.0 he) (rw n.2 (R.in_range f l).store) (rw n.1 (R.in_range f l).page) ne
    ∙ ap (λ (N : ℕ). page_of (evicted s f).store (place_in N s.pool.records f)) n.1 ∙ stored in
    record { stored = stored; image = image; same = image ∙ childless-image s f R.sized o l c }
