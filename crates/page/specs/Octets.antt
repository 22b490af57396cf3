-- Lists of bytes: what is put into one leaves one, and words and payload bytes decide it. Assumes nothing.
use Rattle.std.specs.Prelude.{◌≡◌, List, [], ◌∷◌, ◌++◌, ℕ, zero, suc, ◌+◌, ◌*◌, ◌/◌, ◌%◌, ◌≤◌, ◌<◌, length, take, drop, get_or, set}
use Rattle.std.proofs.Common.{sym, ap, ◌∙◌, arith, ext_get_or}
use Rattle.std.proofs.Math.Decide.{dec_lt, ℕ_discrete}
use Rattle.std.proofs.Math.Seq.{paste}
use Rattle.page.specs.Figures.{page_size, slot_count, payload_start, byte_radix, word_radix}
use Rattle.page.specs.Word.{word_at, put_word, word_at-inj, word_at-lt}
use Rattle.page.specs.Page.{slot, byte, put_slot, page_of, put_page, put_payload, page_of-length, slot-page_of, byte-page_of}

-- every element is a byte (0 past the end)
abbrev pub Octets : List ℕ → Type 0
Octets b = (i : ℕ) → get_or b i 0 < byte_radix

octets-set : (b : List ℕ) (j x : ℕ) → Octets b → x < byte_radix → Octets (set b j x)
octets-set [] j x h l i = omega arith
octets-set (y ∷ b) zero x h l zero = l
octets-set (y ∷ b) zero x h l (suc i) = h (suc i)
octets-set (y ∷ b) (suc j) x h l zero = h zero
octets-set (y ∷ b) (suc j) x h l (suc i) = octets-set b j x (λ n. h (suc n)) l i

octets-append : (a b : List ℕ) → Octets a → Octets b → Octets (a ++ b)
octets-append [] b h k i = k i
octets-append (x ∷ a) b h k zero = h zero
octets-append (x ∷ a) b h k (suc i) = octets-append a b (λ n. h (suc n)) k i

octets-take : (n : ℕ) (b : List ℕ) → Octets b → Octets (take n b)
octets-take zero b h i = omega arith
octets-take (suc n) [] h i = omega arith
octets-take (suc n) (x ∷ b) h zero = h zero
octets-take (suc n) (x ∷ b) h (suc i) = octets-take n b (λ m. h (suc m)) i

octets-drop : (n : ℕ) (b : List ℕ) → Octets b → Octets (drop n b)
octets-drop zero b h i = h i
octets-drop (suc n) [] h i = omega arith
octets-drop (suc n) (x ∷ b) h i = octets-drop n b (λ m. h (suc m)) i

octets-paste : (d : List ℕ) (at : ℕ) (s : List ℕ) (n : ℕ) → Octets d → Octets s → Octets (paste d at s n)
octets-paste d at s n h k = octets-append (take at d ++ take n s) (drop (at + n) d) (octets-append (take at d) (take n s) (octets-take at d h) (octets-take n s k)) (octets-drop (at + n) d h)

remainder : (x : ℕ) → x % byte_radix < byte_radix
remainder x = omega arith

pub octets-put_slot : (b : List ℕ) (p s w : ℕ) → Octets b → Octets (put_slot b p s w)
unfolding put_slot put_word
octets-put_slot b p s w h =
    let a : ℕ = 256 * p + 4 * s in
    let b1 : List ℕ = set b a (w % 256) in
    let b2 : List ℕ = set b1 (a + 1) (w / 256 % 256) in
    let b3 : List ℕ = set b2 (a + 2) (w / 65536 % 256) in
    octets-set b3 (a + 3) (w / 16777216 % 256) (octets-set b2 (a + 2) (w / 65536 % 256) (octets-set b1 (a + 1) (w / 256 % 256) (octets-set b a (w % 256) h (remainder w)) (remainder (w / 256))) (remainder (w / 65536))) (remainder (w / 16777216))

pub octets-page_of : (b : List ℕ) (p : ℕ) → Octets b → Octets (page_of b p)
unfolding page_of
octets-page_of b p h = octets-take 256 (drop (256 * p) b) (octets-drop (256 * p) b h)

pub octets-put_page : (b : List ℕ) (p : ℕ) (g : List ℕ) → Octets b → Octets g → Octets (put_page b p g)
unfolding put_page
octets-put_page b p g h k = octets-paste b (256 * p) g 256 h k

pub octets-put_payload : (b : List ℕ) (p offset : ℕ) (d : List ℕ) → Octets b → Octets d → Octets (put_payload b p offset d)
unfolding put_payload
octets-put_payload b p offset d h k = octets-paste b (256 * p + 64 + offset) d (length d) h k

pub slot_lt : (b : List ℕ) (p s : ℕ) → Octets b → slot b p s < word_radix
unfolding slot
slot_lt b p s h = word_at-lt b (256 * p + 4 * s) h

-- ---- words and payload bytes decide a buffer

word_byte : (b c : List ℕ) (x j : ℕ) → Octets b → Octets c → j < 4 → word_at b x ≡ word_at c x → get_or b (x + j) 0 ≡ get_or c (x + j) 0
word_byte b c x j hb hc hj e =
    let r = word_at-inj b c x x hb hc e in
    elim (ℕ_discrete j 0) [
      | yes a ↦ ap (λ (k : ℕ). get_or b k 0) (omega arith) ∙ r.0 ∙ ap (λ (k : ℕ). get_or c k 0) (omega arith)
      | no a ↦ elim (ℕ_discrete j 1) [
        | yes a1 ↦ rw a1 r.1
        | no a1 ↦ elim (ℕ_discrete j 2) [
          | yes a2 ↦ rw a2 r.2
          | no a2 ↦ let a3 : j ≡ 3 = omega arith in rw a3 r.3
        ]
      ]
    ]

pub buffer-ext : (b c : List ℕ) (n : ℕ) → Octets b → Octets c → length b ≡ page_size * n → length c ≡ page_size * n
    → ((p k : ℕ) → p < n → k < slot_count → slot b p k ≡ slot c p k) → ((p i : ℕ) → p < n → payload_start ≤ i → i < page_size → byte b p i ≡ byte c p i) → b ≡ c
unfolding slot byte
buffer-ext b c n hb hc lb lc w y = ext_get_or 0 b c (lb ∙ sym lc) (λ i h.
    let p : ℕ = i / 256 in
    let r : ℕ = i % 256 in
    let e : i ≡ 256 * p + r = omega arith in
    elim (dec_lt r 64) [
      | yes l ↦ let k : ℕ = r / 4 in let e2 : i ≡ 256 * p + 4 * k + r % 4 = omega arith in
          ap (λ (x : ℕ). get_or b x 0) e2 ∙ word_byte b c (256 * p + 4 * k) (r % 4) hb hc (omega arith) (w p k (omega arith) (omega arith)) ∙ ap (λ (x : ℕ). get_or c x 0) (sym e2)
      | no l ↦ ap (λ (x : ℕ). get_or b x 0) e ∙ y p r (omega arith) (omega arith) (omega arith) ∙ ap (λ (x : ℕ). get_or c x 0) (sym e)
    ])

-- and a page
pub page-ext : (b c : List ℕ) (p q n m : ℕ) → Octets b → Octets c → length b ≡ page_size * n → p < n → length c ≡ page_size * m → q < m
    → ((k : ℕ) → k < slot_count → slot b p k ≡ slot c q k) → ((i : ℕ) → payload_start ≤ i → i < page_size → byte b p i ≡ byte c q i) → page_of b p ≡ page_of c q
page-ext b c p q n m hb hc lb hp lc hq w y =
    buffer-ext (page_of b p) (page_of c q) 1 (octets-page_of b p hb) (octets-page_of c q hc) (page_of-length b p n lb hp) (page_of-length c q m lc hq)
    (λ r k hr hk. let z : r ≡ 0 = omega arith in rw z (slot-page_of b p k hk ∙ w k hk ∙ sym (slot-page_of c q k hk)))
    (λ r i hr lo hi. let z : r ≡ 0 = omega arith in rw z (byte-page_of b p i hi ∙ y i lo hi ∙ sym (byte-page_of c q i hi)))
