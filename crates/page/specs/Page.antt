-- A buffer of pages: slot, byte, page and payload, and what is read after one of them was put. Assumes nothing.
use Rattle.std.specs.Prelude.{◌≡◌, refl, ◌≢◌, Bool, List, ◌++◌, ℕ, ◌+◌, ◌*◌, ◌-◌, ◌≤◌, ◌<◌, length, take, drop, get_or}
use Rattle.std.proofs.Common.{sym, ap, ◌∙◌, arith, add_assoc, zero-add, le_refl, length-take, length-drop, ext_get_or, get_or-take, get_or-drop, get_or-append-add, length-take-le}
use Rattle.std.proofs.Math.Decide.{dec_lt, dec_le, ℕ_discrete}
use Rattle.std.proofs.Math.ListN.{get_or-append}
use Rattle.std.proofs.Math.Seq.{paste, length-paste, length_paste_head, paste-zero}
use Rattle.std.proofs.lemmas.Slice.{put_mid-paste}
use borrow.Rule.Slice.PartMut.{put_mid}
use Rattle.page.specs.Figures.{page_size, slot_count, payload_start, payload_size, word_size, word_radix}
use Rattle.page.specs.Word.{is_marked, name_of, name_at, word_at, put_word, put_word-length, put_word-before, put_word-after, word_at-same, word_at-before, word_at-after, word_at-ext}

-- ---- "A page is 16 words of 4 bytes, little-endian, in slots 0 to 15, then 192 payload bytes." Page p starts at byte 256 × p.

-- the word in slot s of page p
unfoldable pub slot : List ℕ → ℕ → ℕ → ℕ
slot b p s = word_at b (page_size * p + word_size * s)

-- what it names; and its mark
abbrev pub name : List ℕ → ℕ → ℕ → ℕ
name b p s = name_of (slot b p s)

abbrev pub lock : List ℕ → ℕ → ℕ → Bool
lock b p s = is_marked (slot b p s)

-- the row of what the words from byte a on name
abbrev pub words_from : List ℕ → ℕ → ℕ → ℕ
words_from b a k = name_at b (a + word_size * k)

-- what the words of page p name
abbrev pub page_words : List ℕ → ℕ → ℕ → ℕ
page_words b p = words_from b (page_size * p)

pub name-row : (b : List ℕ) (p k : ℕ) → name b p k ≡ page_words b p k
unfolding slot
name-row b p k = refl

-- the byte i of page p
unfoldable pub byte : List ℕ → ℕ → ℕ → ℕ
byte b p i = get_or b (page_size * p + i) 0

-- the bytes of page p
unfoldable pub page_of : List ℕ → ℕ → List ℕ
page_of b p = take page_size (drop (page_size * p) b)

-- where the payload of page p starts
abbrev pub payload_at : ℕ → ℕ
payload_at p = page_size * p + payload_start

-- the n bytes of a buffer from a on
unfoldable pub bytes_from : List ℕ → ℕ → ℕ → List ℕ
bytes_from b a n = take n (drop a b)

-- the payload of page p
abbrev pub payload_of : List ℕ → ℕ → List ℕ
payload_of b p = bytes_from b (payload_at p) payload_size

-- the buffer with the word w in slot s of page p
unfoldable pub put_slot : List ℕ → ℕ → ℕ → ℕ → List ℕ
put_slot b p s w = put_word b (page_size * p + word_size * s) w

-- the buffer with the bytes g as page p
unfoldable pub put_page : List ℕ → ℕ → List ℕ → List ℕ
put_page b p g = paste b (page_size * p) g page_size

-- the buffer with the bytes d from a payload offset of page p on
unfoldable pub put_payload : List ℕ → ℕ → ℕ → List ℕ → List ℕ
put_payload b p offset d = paste b (payload_at p + offset) d (length d)

-- ---- after a slot was put

pub put_slot-length : (b : List ℕ) (p s w : ℕ) → length (put_slot b p s w) ≡ length b
unfolding put_slot
put_slot-length b p s w = put_word-length b (256 * p + 4 * s) w

pub slot-put_slot-same : (b : List ℕ) (p s w n : ℕ) → length b ≡ page_size * n → p < n → s < slot_count → w < word_radix → slot (put_slot b p s w) p s ≡ w
unfolding slot put_slot
slot-put_slot-same b p s w n l hp hs hw = word_at-same b (256 * p + 4 * s) w (omega arith) hw

pub slot-put_slot-slot : (b : List ℕ) (p s w t : ℕ) → s ≢ t → slot (put_slot b p s w) p t ≡ slot b p t
unfolding slot put_slot
slot-put_slot-slot b p s w t n =
    elim (dec_lt s t) [
      | yes h ↦ word_at-after b (256 * p + 4 * s) (256 * p + 4 * t) w (omega arith)
      | no h ↦ word_at-before b (256 * p + 4 * s) (256 * p + 4 * t) w (omega arith)
    ]

pub slot-put_slot-page : (b : List ℕ) (p s w q t : ℕ) → s < slot_count → t < slot_count → p ≢ q → slot (put_slot b p s w) q t ≡ slot b q t
unfolding slot put_slot
slot-put_slot-page b p s w q t hs ht n =
    elim (dec_lt p q) [
      | yes h ↦ word_at-after b (256 * p + 4 * s) (256 * q + 4 * t) w (omega arith)
      | no h ↦ word_at-before b (256 * p + 4 * s) (256 * q + 4 * t) w (omega arith)
    ]

-- payload bytes stay
pub byte-put_slot : (b : List ℕ) (p s w q i : ℕ) → s < slot_count → payload_start ≤ i → i < page_size → byte (put_slot b p s w) q i ≡ byte b q i
unfolding byte put_slot
byte-put_slot b p s w q i hs hi hj =
    elim (dec_le p q) [
      | yes h ↦ put_word-after b (256 * p + 4 * s) w (256 * q + i) (omega arith)
      | no h ↦ put_word-before b (256 * p + 4 * s) w (256 * q + i) (omega arith)
    ]

-- ---- a part copied into the middle of a buffer

pub paste-before : (d : List ℕ) (at : ℕ) (s : List ℕ) (n i : ℕ) → at ≤ length d → n ≤ length s → i < at → get_or (paste d at s n) i 0 ≡ get_or d i 0
paste-before d at s n i hd hs h =
    let e : length (take at d) ≡ at = length-take-le at d hd in
    let e2 : length (take at d ++ take n s) ≡ at + n = length_paste_head d at s n hd hs in
    get_or-append (take at d ++ take n s) (drop (at + n) d) 0 i (omega arith)
    ∙ get_or-append (take at d) (take n s) 0 i (omega arith)
    ∙ get_or-take at d i 0 h

pub paste-inside : (d : List ℕ) (at : ℕ) (s : List ℕ) (n j : ℕ) → at ≤ length d → n ≤ length s → j < n → get_or (paste d at s n) (at + j) 0 ≡ get_or s j 0
paste-inside d at s n j hd hs h =
    let e : length (take at d) ≡ at = length-take-le at d hd in
    let e2 : length (take at d ++ take n s) ≡ at + n = length_paste_head d at s n hd hs in
    get_or-append (take at d ++ take n s) (drop (at + n) d) 0 (at + j) (omega arith)
    ∙ ap (λ (k : ℕ). get_or (take at d ++ take n s) (k + j) 0) (sym e)
    ∙ get_or-append-add (take at d) (take n s) j 0
    ∙ get_or-take n s j 0 h

pub paste-after : (d : List ℕ) (at : ℕ) (s : List ℕ) (n i : ℕ) → at ≤ length d → n ≤ length s → at + n ≤ i → get_or (paste d at s n) i 0 ≡ get_or d i 0
paste-after d at s n i hd hs h =
    let e2 : length (take at d ++ take n s) ≡ at + n = length_paste_head d at s n hd hs in
    let k : ℕ = i - (at + n) in
    let ei : i ≡ at + n + k = omega arith in
    ap (λ (x : ℕ). get_or (paste d at s n) x 0) ei
    ∙ ap (λ (x : ℕ). get_or (paste d at s n) (x + k) 0) (sym e2)
    ∙ get_or-append-add (take at d ++ take n s) (drop (at + n) d) k 0
    ∙ get_or-drop (at + n) d k 0
    ∙ ap (λ (x : ℕ). get_or d x 0) (sym ei)

-- ---- after a page was put

-- a page that lies within the buffer
pub page_of-whole : (b : List ℕ) (p : ℕ) → page_size * p + page_size ≤ length b → length (page_of b p) ≡ page_size
unfolding page_of
page_of-whole b p h = simp (length-take, length-drop) (omega arith)

pub page_of-length : (b : List ℕ) (p n : ℕ) → length b ≡ page_size * n → p < n → length (page_of b p) ≡ page_size
page_of-length b p n l h = page_of-whole b p (omega arith)

pub put_page-length : (b : List ℕ) (p : ℕ) (g : List ℕ) (n : ℕ) → length b ≡ page_size * n → length g ≡ page_size → p < n → length (put_page b p g) ≡ length b
unfolding put_page
put_page-length b p g n l lg h = length-paste b (256 * p) g 256 (omega arith) (omega arith)

pub byte-put_page-same : (b : List ℕ) (p : ℕ) (g : List ℕ) (n i : ℕ) → length b ≡ page_size * n → length g ≡ page_size → p < n → i < page_size → byte (put_page b p g) p i ≡ get_or g i 0
unfolding byte put_page
byte-put_page-same b p g n i l lg h hi = paste-inside b (256 * p) g 256 i (omega arith) (omega arith) hi

pub byte-put_page-other : (b : List ℕ) (p : ℕ) (g : List ℕ) (n q i : ℕ) → length b ≡ page_size * n → length g ≡ page_size → p < n → p ≢ q → i < page_size → byte (put_page b p g) q i ≡ byte b q i
unfolding byte put_page
byte-put_page-other b p g n q i l lg h ne hi =
    elim (dec_lt p q) [
      | yes k ↦ paste-after b (256 * p) g 256 (256 * q + i) (omega arith) (omega arith) (omega arith)
      | no k ↦ paste-before b (256 * p) g 256 (256 * q + i) (omega arith) (omega arith) (omega arith)
    ]

-- two pages with equal bytes at a slot have one word there
pub slot-ext : (b c : List ℕ) (p q t : ℕ) → ((j : ℕ) → j < word_size → byte b p (word_size * t + j) ≡ byte c q (word_size * t + j)) → slot b p t ≡ slot c q t
unfolding slot byte
slot-ext b c p q t h =
    word_at-ext b c (256 * p + 4 * t) (256 * q + 4 * t) (λ j hj.
    ap (λ (k : ℕ). get_or b k 0) (add_assoc (256 * p) (4 * t) j) ∙ h j hj ∙ ap (λ (k : ℕ). get_or c k 0) (sym (add_assoc (256 * q) (4 * t) j)))

-- the bytes of a list of one page
pub byte-first : (g : List ℕ) (i : ℕ) → byte g 0 i ≡ get_or g i 0
unfolding byte
byte-first g i = ap (λ (k : ℕ). get_or g k 0) (zero-add i)

pub slot-put_page-same : (b : List ℕ) (p : ℕ) (g : List ℕ) (n t : ℕ) → length b ≡ page_size * n → length g ≡ page_size → p < n → t < slot_count → slot (put_page b p g) p t ≡ slot g 0 t
slot-put_page-same b p g n t l lg h ht =
    slot-ext (put_page b p g) g p 0 t (λ j hj. byte-put_page-same b p g n (4 * t + j) l lg h (omega arith) ∙ sym (byte-first g (4 * t + j)))

pub slot-put_page-other : (b : List ℕ) (p : ℕ) (g : List ℕ) (n q t : ℕ) → length b ≡ page_size * n → length g ≡ page_size → p < n → p ≢ q → t < slot_count → slot (put_page b p g) q t ≡ slot b q t
slot-put_page-other b p g n q t l lg h ne ht =
    slot-ext (put_page b p g) b q q t (λ j hj. byte-put_page-other b p g n q (4 * t + j) l lg h ne (omega arith))

-- page p read as a list of its own
pub byte-page_of : (b : List ℕ) (p i : ℕ) → i < page_size → byte (page_of b p) 0 i ≡ byte b p i
unfolding page_of byte
byte-page_of b p i hi =
    byte-first (take 256 (drop (256 * p) b)) i ∙ get_or-take 256 (drop (256 * p) b) i 0 hi ∙ get_or-drop (256 * p) b i 0

pub slot-page_of : (b : List ℕ) (p t : ℕ) → t < slot_count → slot (page_of b p) 0 t ≡ slot b p t
slot-page_of b p t ht = slot-ext (page_of b p) b 0 p t (λ j hj. byte-page_of b p (4 * t + j) (omega arith))

-- two pages with equal bytes are one list
pub page_of-ext : (b c : List ℕ) (p q n m : ℕ) → length b ≡ page_size * n → p < n → length c ≡ page_size * m → q < m → ((i : ℕ) → i < page_size → byte b p i ≡ byte c q i) → page_of b p ≡ page_of c q
page_of-ext b c p q n m lb hp lc hq e =
    let l : length (page_of b p) ≡ page_size = page_of-length b p n lb hp in
    ext_get_or 0 (page_of b p) (page_of c q) (l ∙ sym (page_of-length c q m lc hq)) (λ i hi.
    let h : i < page_size = omega arith in
    sym (byte-first (page_of b p) i) ∙ byte-page_of b p i h ∙ e i h ∙ sym (byte-page_of c q i h) ∙ byte-first (page_of c q) i)

-- "A page written out and loaded again is that page", as bytes: a page put and read again
pub page_of-put_page : (b : List ℕ) (p : ℕ) (g : List ℕ) (n : ℕ) → length b ≡ page_size * n → length g ≡ page_size → p < n → page_of (put_page b p g) p ≡ g
page_of-put_page b p g n l lg h =
    let lp : length (put_page b p g) ≡ length b = put_page-length b p g n l lg h in
    let l2 : length (page_of (put_page b p g) p) ≡ 256 = page_of-length (put_page b p g) p n (lp ∙ l) h in
    ext_get_or 0 (page_of (put_page b p g) p) g (l2 ∙ sym lg) (λ i hi.
    let hi2 : i < 256 = omega arith in
    sym (byte-first (page_of (put_page b p g) p) i) ∙ byte-page_of (put_page b p g) p i hi2 ∙ byte-put_page-same b p g n i l lg h hi2)

-- ---- after payload bytes were put

module _ (b : List ℕ) (p offset : ℕ) (d : List ℕ) (n : ℕ) (l : length b ≡ page_size * n) (hp : p < n) (fits : offset + length d ≤ payload_size) where
  pub put_payload-length : length (put_payload b p offset d) ≡ length b
  unfolding put_payload
  put_payload-length = length-paste b (256 * p + 64 + offset) d (length d) (omega arith) (le_refl _)

  -- any byte of another page, and any below the payload
  outside : (q i : ℕ) → i < page_size → (q ≡ p → i < payload_start) → byte (put_payload b p offset d) q i ≡ byte b q i
  unfolding put_payload byte
  outside q i hi h = elim (dec_lt q p) [
    | yes k ↦ paste-before b (256 * p + 64 + offset) d (length d) (256 * q + i) (omega arith) (le_refl _) (omega arith)
    | no k ↦ elim (ℕ_discrete q p) [
      | yes e ↦ let j : i < 64 = h e in paste-before b (256 * p + 64 + offset) d (length d) (256 * q + i) (omega arith) (le_refl _) (omega arith)
      | no e ↦ paste-after b (256 * p + 64 + offset) d (length d) (256 * q + i) (omega arith) (le_refl _) (omega arith)
    ]
  ]

  pub slot-put_payload : (q t : ℕ) → t < slot_count → slot (put_payload b p offset d) q t ≡ slot b q t
  slot-put_payload q t ht = slot-ext (put_payload b p offset d) b q q t (λ j hj. outside q (4 * t + j) (omega arith) (λ x. omega arith))

  pub byte-put_payload-other : (q i : ℕ) → i < page_size → q ≢ p → byte (put_payload b p offset d) q i ≡ byte b q i
  byte-put_payload-other q i hi h = outside q i hi (λ e. absurd (h e))

  pub page_of-put_payload-other : (q : ℕ) → q < n → q ≢ p → page_of (put_payload b p offset d) q ≡ page_of b q
  page_of-put_payload-other q hq h = page_of-ext (put_payload b p offset d) b q q n n (put_payload-length ∙ l) hq l hq (λ i hi. byte-put_payload-other q i hi h)

-- the same bytes put at the same offset of two pages whose bytes agree
pub byte-put_payload-both : (b : List ℕ) (p : ℕ) (c : List ℕ) (q offset : ℕ) (d : List ℕ) (n m i : ℕ) → length b ≡ page_size * n → p < n → length c ≡ page_size * m → q < m → offset + length d ≤ payload_size
    → i < page_size → byte b p i ≡ byte c q i → byte (put_payload b p offset d) p i ≡ byte (put_payload c q offset d) q i
unfolding byte put_payload
byte-put_payload-both b p c q offset d n m i lb hp lc hq fits hi e = elim (dec_lt i (64 + offset)) [
  | yes h ↦ paste-before b (256 * p + 64 + offset) d (length d) (256 * p + i) (omega arith) (le_refl _) (omega arith) ∙ e
      ∙ sym (paste-before c (256 * q + 64 + offset) d (length d) (256 * q + i) (omega arith) (le_refl _) (omega arith))
  | no h ↦ elim (dec_lt i (64 + offset + length d)) [
    | yes k ↦ let j : ℕ = i - (64 + offset) in
        ap (λ (x : ℕ). get_or (paste b (256 * p + 64 + offset) d (length d)) x 0) (omega arith)
        ∙ paste-inside b (256 * p + 64 + offset) d (length d) j (omega arith) (le_refl _) (omega arith)
        ∙ sym (ap (λ (x : ℕ). get_or (paste c (256 * q + 64 + offset) d (length d)) x 0) (omega arith)
        ∙ paste-inside c (256 * q + 64 + offset) d (length d) j (omega arith) (le_refl _) (omega arith))
    | no k ↦ paste-after b (256 * p + 64 + offset) d (length d) (256 * p + i) (omega arith) (le_refl _) (omega arith) ∙ e
        ∙ sym (paste-after c (256 * q + 64 + offset) d (length d) (256 * q + i) (omega arith) (le_refl _) (omega arith))
  ]
]

-- no bytes put
pub put_payload-none : (b : List ℕ) (p offset : ℕ) (d : List ℕ) → length d ≡ 0 → put_payload b p offset d ≡ b
unfolding put_payload
put_payload-none b p offset d e = rw e (sym (paste-zero b (256 * p + 64 + offset) d))

-- ---- a page as the part of a buffer that code lends

pub part-is-page : (l : List ℕ) (q : ℕ) → take (page_size * q + page_size - page_size * q) (drop (page_size * q) l) ≡ page_of l q
unfolding page_of
part-is-page l q = let k : 256 * q + 256 - 256 * q ≡ 256 = omega arith in rw k

-- and what code made of it, put back
pub put-part : (l : List ℕ) (q : ℕ) (ys g : List ℕ) → ys ≡ g → length g ≡ page_size → put_mid (page_size * q) (page_size * q + page_size - page_size * q) l ys ≡ put_page l q g
unfolding put_page
put-part l q ys g e h = put_mid-paste (256 * q) _ l ys g 256 e (omega arith) (sym h)

-- a word of a page that is a list of its own
pub slot-first : (b : List ℕ) (k : ℕ) → slot b 0 k ≡ word_at b (word_size * k)
unfolding slot
slot-first b k = ap (word_at b) (zero-add (4 * k))

pub put_slot-first : (b : List ℕ) (k w : ℕ) → put_slot b 0 k w ≡ put_word b (word_size * k) w
unfolding put_slot
put_slot-first b k w = ap (λ (a : ℕ). put_word b a w) (zero-add (4 * k))
