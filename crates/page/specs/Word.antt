-- The word: its four bytes, what it names and its mark, the two readings of a name, and what is read after one was put. Assumes nothing.
use Rattle.std.specs.Prelude.{◌≡◌, refl, ◌≢◌, Bool, true, false, not, ◌&&◌, cond, List, ℕ, ◌+◌, ◌*◌, ◌-◌, ◌/◌, ◌%◌, ◌≤◌, ◌<◌, eqb, ltb, length, get_or, set, drop}
use Rattle.std.proofs.Common.{sym, ap, ◌∙◌, arith, div-add-mod', mod-eq_of_lt, add-zero, lt-ltb, le-ltb, ltb-true, ltb-false, ne_eqb, length-set, lt-length-set, get_or-set_same, get_or-set_other, get_or-drop}
use Rattle.std.proofs.Math.Decide.{dec_lt}
use Rattle.std.proofs.Math.Nat.{div-div-eq-div-mul}
use Rattle.std.proofs.lemmas.Bool.{eqb-false, not-true}
use Rattle.page.specs.Figures.{byte_radix, word_size, word_radix, swizzle_bit, lock_bit}

-- ---- the four bytes, little-endian

-- the word in the first bytes
abbrev pub first_word : List ℕ → ℕ
first_word b = get_or b 0 0 + 256 * get_or b 1 0 + 65536 * get_or b 2 0 + 16777216 * get_or b 3 0

-- the word in the bytes from a on. One walk to them and not four: the tables compute with it.
unfoldable pub word_at : List ℕ → ℕ → ℕ
word_at b a = first_word (drop a b)

-- the bytes with the word w in those from a on
unfoldable pub put_word : List ℕ → ℕ → ℕ → List ℕ
put_word b a w = set (set (set (set b a (w % 256)) (a + 1) (w / 256 % 256)) (a + 2) (w / 65536 % 256)) (a + 3) (w / 16777216 % 256)

-- ---- what a word says: the name and the mark. Every reader goes by these, and not by the word's bits.

-- request A.8: "Bit 30 of a word marks the page it names as locked"; alone, "on a word of otherwise 0", it marks nothing
unfoldable pub is_marked : ℕ → Bool
is_marked w = eqb (w / lock_bit % 2) 1 && not (eqb w lock_bit)

-- what the word names, 0 (nothing), a page number or a frame: the word without its mark, "page numbers and frame indices become the low 30 bits". Bit 30 alone is so a number that no page has.
unfoldable pub name_of : ℕ → ℕ
name_of w = cond (is_marked w) (w - lock_bit) w

-- the word that names n, with a mark or without
unfoldable pub marked : Bool → ℕ → ℕ
marked l n = cond l (lock_bit + n) n

-- the word that names n, put in the place of the word `old`: "Loading, eviction, settling .. carry it"
abbrev pub renamed : ℕ → ℕ → ℕ
renamed old n = marked (is_marked old) n

-- computed: page 5 locked, frame 3 with its page locked, and bit 30 alone, a number that no page has
pub locked-page : (name_of 0x40000005 ≡ 5) × (is_marked 0x40000005 ≡ true)
unfolding is_marked name_of
locked-page = (refl, refl)

pub locked-frame : (name_of 0xC0000003 ≡ 0x80000003) × (is_marked 0xC0000003 ≡ true)
unfolding is_marked name_of
locked-frame = (refl, refl)

pub bit-alone : (name_of lock_bit ≡ lock_bit) × (is_marked lock_bit ≡ false)
unfolding is_marked name_of
bit-alone = (refl, refl)

-- what the word in the bytes from a on names
abbrev pub name_at : List ℕ → ℕ → ℕ
name_at b a = name_of (word_at b a)

-- ---- the two readings of a name

-- "With bit 31 clear it is a page number" (0 names nothing)
abbrev pub is_number : ℕ → Bool
is_number n = ltb n swizzle_bit

abbrev pub Number : ℕ → Type 0
Number n = n < swizzle_bit

-- "With bit 31 set the page is swizzled", and the low 30 bits are a frame index
abbrev pub Swizzled : ℕ → Type 0
Swizzled n = swizzle_bit ≤ n

abbrev pub frame_in : ℕ → ℕ
frame_in n = n - swizzle_bit

-- the name of frame f, to which a word is then swizzled; and of page p
abbrev pub frame_word : ℕ → ℕ
frame_word f = swizzle_bit + f

abbrev pub number_word : ℕ → ℕ
number_word p = p

-- it is no page's and no frame's
abbrev pub names_nothing : ℕ → Bool
names_nothing n = eqb n 0

-- it gives a page by its number
unfoldable pub gives_page : ℕ → Bool
gives_page n = is_number n && not (names_nothing n)

-- ---- laws of the readings

pub number-yes : (n : ℕ) → is_number n ≡ true → Number n
number-yes n t = ltb-true n swizzle_bit t

pub number-no : (n : ℕ) → is_number n ≡ false → Swizzled n
number-no n t = ltb-false n swizzle_bit t

pub yes-number : (n : ℕ) → Number n → is_number n ≡ true
yes-number n h = lt-ltb n swizzle_bit h

pub no_number : (n : ℕ) → Swizzled n → is_number n ≡ false
no_number n h = le-ltb n swizzle_bit h

-- a name is a number or a frame's
pub data Reading (n : ℕ) : Type 0 where
  low : Number n → Reading n
  high : (g : ℕ) → n ≡ frame_word g → Reading n

pub frame-word-inj : (f g : ℕ) → frame_word f ≡ frame_word g → f ≡ g
frame-word-inj f g e = omega arith

pub reading : (n : ℕ) → Reading n
reading n = elim (dec_lt n swizzle_bit) [ yes h ↦ low h | no h ↦ high (frame_in n) (omega arith) ]

pub gives-page : (n : ℕ) → Number n → n ≢ 0 → gives_page n ≡ true
unfolding gives_page
gives-page n h z = rw (yes-number n h, ne_eqb n 0 z)

pub and_parts : (a b : Bool) → (a && b) ≡ true → (a ≡ true) × (b ≡ true)
and_parts true b h = (refl, h)
and_parts false b h = absurd (let y : ◌≡◌ {A = ℕ} 0 1 = cc in omega arith)

pub page-given : (n : ℕ) → gives_page n ≡ true → Number n × (n ≢ 0)
unfolding gives_page
page-given n t = let a = and_parts (is_number n) (not (names_nothing n)) t in (number-yes n a.0, eqb-false n 0 (not-true _ a.1))

-- ---- what laws of names and marks speak of (proofs/NameLaws)

-- a word has no mark, and is its name; or it has one, beside its name
pub data Says (w : ℕ) : Type 0 where
  plainly : is_marked w ≡ false → name_of w ≡ w → (w ≢ lock_bit → w / lock_bit % 2 ≢ 1) → Says w
  markedly : is_marked w ≡ true → w ≡ lock_bit + name_of w → w / lock_bit % 2 ≡ 1 → name_of w ≢ 0 → Says w

-- a name that a word can have, with a mark or without: its bit 30 is clear
abbrev pub Bare : ℕ → Type 0
Bare n = n / lock_bit % 2 ≡ 0

-- ---- laws of the four bytes

pub word_at-bytes : (b : List ℕ) (a : ℕ) → word_at b a ≡ get_or b a 0 + 256 * get_or b (a + 1) 0 + 65536 * get_or b (a + 2) 0 + 16777216 * get_or b (a + 3) 0
unfolding word_at
word_at-bytes b a = rw (get_or-drop a b 0 0, get_or-drop a b 1 0, get_or-drop a b 2 0, get_or-drop a b 3 0, add-zero a) refl

pub put_word-length : (b : List ℕ) (a w : ℕ) → length (put_word b a w) ≡ length b
unfolding put_word
put_word-length b a w = simp length-set

-- a byte outside the four stays
put_word-byte : (b : List ℕ) (a w i : ℕ) → i ≢ a → i ≢ a + 1 → i ≢ a + 2 → i ≢ a + 3 → get_or (put_word b a w) i 0 ≡ get_or b i 0
unfolding put_word
put_word-byte b a w i h0 h1 h2 h3 = simp get_or-set_other

pub put_word-before : (b : List ℕ) (a w i : ℕ) → i < a → get_or (put_word b a w) i 0 ≡ get_or b i 0
put_word-before b a w i h = put_word-byte b a w i (omega arith) (omega arith) (omega arith) (omega arith)

pub put_word-after : (b : List ℕ) (a w i : ℕ) → a + word_size ≤ i → get_or (put_word b a w) i 0 ≡ get_or b i 0
put_word-after b a w i h = put_word-byte b a w i (omega arith) (omega arith) (omega arith) (omega arith)

four-digits : (w q1 q2 q3 r0 r1 r2 : ℕ) → q1 * 256 + r0 ≡ w → q2 * 256 + r1 ≡ q1 → q3 * 256 + r2 ≡ q2 → r0 + 256 * r1 + 65536 * r2 + 16777216 * q3 ≡ w
four-digits w q1 q2 q3 r0 r1 r2 a b c = omega arith

word-digits : (w : ℕ) → w < word_radix → w % 256 + 256 * (w / 256 % 256) + 65536 * (w / 65536 % 256) + 16777216 * (w / 16777216 % 256) ≡ w
word-digits w h =
    let e2 : w / 65536 ≡ w / 256 / 256 = sym (div-div-eq-div-mul w 256 256) in
    let e3 : w / 16777216 ≡ w / 256 / 256 / 256 = sym (ap (λ (x : ℕ). x / 256) (div-div-eq-div-mul w 256 256) ∙ div-div-eq-div-mul w 65536 256) in
    let top : w / 16777216 % 256 ≡ w / 16777216 = mod-eq_of_lt (omega arith) in
    rw (top, e3, e2)
    (four-digits w (w / 256) (w / 256 / 256) (w / 256 / 256 / 256) (w % 256) (w / 256 % 256) (w / 256 / 256 % 256) (div-add-mod' w 256) (div-add-mod' (w / 256) 256) (div-add-mod' (w / 256 / 256) 256))

-- a word put is the word read there
pub word_at-same : (b : List ℕ) (a w : ℕ) → a + word_size ≤ length b → w < word_radix → word_at (put_word b a w) a ≡ w
unfolding put_word
word_at-same b a w h hw =
    let n01 : a ≢ a + 1 = omega arith in
    let n02 : a ≢ a + 2 = omega arith in
    let n03 : a ≢ a + 3 = omega arith in
    let n12 : a + 1 ≢ a + 2 = omega arith in
    let n13 : a + 1 ≢ a + 3 = omega arith in
    let n23 : a + 2 ≢ a + 3 = omega arith in
    let l0 : a < length b = omega arith in
    let l1 : a + 1 < length b = omega arith in
    let l2 : a + 2 < length b = omega arith in
    let l3 : a + 3 < length b = omega arith in
    word_at-bytes _ a ∙ simp (get_or-set_other, get_or-set_same, lt-length-set) (word-digits w hw)

-- words that lie before it and after it stay
pub word_at-before : (b : List ℕ) (a c w : ℕ) → c + word_size ≤ a → word_at (put_word b a w) c ≡ word_at b c
word_at-before b a c w h = rw (word_at-bytes (put_word b a w) c, word_at-bytes b c, put_word-before b a w c (omega arith), put_word-before b a w (c + 1) (omega arith), put_word-before b a w (c + 2) (omega arith), put_word-before b a w (c + 3) (omega arith))

pub word_at-after : (b : List ℕ) (a c w : ℕ) → a + word_size ≤ c → word_at (put_word b a w) c ≡ word_at b c
word_at-after b a c w h = rw (word_at-bytes (put_word b a w) c, word_at-bytes b c, put_word-after b a w c (omega arith), put_word-after b a w (c + 1) (omega arith), put_word-after b a w (c + 2) (omega arith), put_word-after b a w (c + 3) (omega arith))

-- a word depends on its four bytes alone
pub word_at-ext : (b c : List ℕ) (x y : ℕ) → ((j : ℕ) → j < word_size → get_or b (x + j) 0 ≡ get_or c (y + j) 0) → word_at b x ≡ word_at c y
word_at-ext b c x y h =
    let e0 : get_or b x 0 ≡ get_or c y 0 = ap (λ (k : ℕ). get_or b k 0) (sym (add-zero x)) ∙ h 0 (omega arith) ∙ ap (λ (k : ℕ). get_or c k 0) (add-zero y) in
    rw (word_at-bytes b x, word_at-bytes c y, e0, h 1 (omega arith), h 2 (omega arith), h 3 (omega arith))

-- and four bytes depend on their word alone
digits-inj : (a0 a1 a2 a3 b0 b1 b2 b3 : ℕ) → a0 < 256 → a1 < 256 → a2 < 256 → a3 < 256 → b0 < 256 → b1 < 256 → b2 < 256 → b3 < 256
    → a0 + 256 * a1 + 65536 * a2 + 16777216 * a3 ≡ b0 + 256 * b1 + 65536 * b2 + 16777216 * b3 → (a0 ≡ b0) × (a1 ≡ b1) × (a2 ≡ b2) × (a3 ≡ b3)
digits-inj a0 a1 a2 a3 b0 b1 b2 b3 h0 h1 h2 h3 k0 k1 k2 k3 e = omega arith

pub word_at-inj : (b c : List ℕ) (x y : ℕ) → ((i : ℕ) → get_or b i 0 < byte_radix) → ((i : ℕ) → get_or c i 0 < byte_radix) → word_at b x ≡ word_at c y
    → (get_or b x 0 ≡ get_or c y 0) × (get_or b (x + 1) 0 ≡ get_or c (y + 1) 0) × (get_or b (x + 2) 0 ≡ get_or c (y + 2) 0) × (get_or b (x + 3) 0 ≡ get_or c (y + 3) 0)
word_at-inj b c x y hb hc e =
    digits-inj (get_or b x 0) (get_or b (x + 1) 0) (get_or b (x + 2) 0) (get_or b (x + 3) 0) (get_or c y 0) (get_or c (y + 1) 0) (get_or c (y + 2) 0) (get_or c (y + 3) 0)
    (hb x) (hb (x + 1)) (hb (x + 2)) (hb (x + 3)) (hc y) (hc (y + 1)) (hc (y + 2)) (hc (y + 3)) (sym (word_at-bytes b x) ∙ e ∙ word_at-bytes c y)

-- four bytes make a word
pub word_at-lt : (b : List ℕ) (a : ℕ) → ((i : ℕ) → get_or b i 0 < byte_radix) → word_at b a < word_radix
word_at-lt b a h = rw (word_at-bytes b a) (omega (arith, h a, h (a + 1), h (a + 2), h (a + 3)))

-- ---- what loops go by that read many words at a time

-- the values of half a word
abbrev pub half_radix : ℕ
half_radix = 65536

-- the word has a mark, and what it names is no frame
unfoldable pub is_marked_number : ℕ → Bool
is_marked_number w = is_marked w && is_number w
