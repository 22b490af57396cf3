-- Laws of what a word names and of its mark. Assumes nothing.
use Rattle.std.specs.Prelude.{◌≡◌, refl, ◌≢◌, Bool, true, false, not, ◌&&◌, ℕ, ◌+◌, ◌/◌, ◌%◌, ◌≤◌, ◌<◌, eqb, ltb}
use Rattle.std.proofs.Common.{sym, ap, ◌∙◌, arith, lt-ltb, le-ltb, eq-eqb, ne_eqb}
use Rattle.std.proofs.Math.Decide.{dec_lt, ℕ_discrete}
use Rattle.page.specs.Figures.{most_pages, most_frames, word_radix, swizzle_bit, lock_bit}
use Rattle.page.specs.Word.{is_marked, name_of, marked, renamed, is_number, Swizzled, frame_word, number_word, number-no, yes-number, no_number, and_parts, Says, plainly, markedly, Bare, half_radix, is_marked_number}

-- by its bits: bit 30 alone, bit 30 clear, bit 30 among others
last_off : (a : Bool) → (a && not true) ≡ false
last_off true = refl
last_off false = refl

alone-unmarked : (w : ℕ) → w ≡ lock_bit → is_marked w ≡ false
unfolding is_marked
alone-unmarked w e = rw (eq-eqb w lock_bit e) (last_off (eqb (w / lock_bit % 2) 1))

clear-unmarked : (w : ℕ) → w / lock_bit % 2 ≢ 1 → is_marked w ≡ false
unfolding is_marked
clear-unmarked w n = rw (ne_eqb (w / lock_bit % 2) 1 n)

set-marked : (w : ℕ) → w / lock_bit % 2 ≡ 1 → w ≢ lock_bit → is_marked w ≡ true
unfolding is_marked
set-marked w e n = rw (eq-eqb (w / lock_bit % 2) 1 e, ne_eqb w lock_bit n)

says-plainly : (w : ℕ) → is_marked w ≡ false → (w ≢ lock_bit → w / lock_bit % 2 ≢ 1) → Says w
unfolding name_of
says-plainly w e n = plainly e (rw e) n

says-markedly : (w : ℕ) → is_marked w ≡ true → w / lock_bit % 2 ≡ 1 → w ≢ lock_bit → Says w
unfolding name_of
says-markedly w e b n = markedly e (rw e (omega arith)) b (rw e (omega arith))

pub says : (w : ℕ) → Says w
says w = elim (ℕ_discrete w lock_bit) [
  | yes e ↦ says-plainly w (alone-unmarked w e) (λ n. absurd (n e))
  | no e ↦ elim (ℕ_discrete (w / lock_bit % 2) 1) [
    | yes b ↦ says-markedly w (set-marked w b e) b e
    | no b ↦ says-plainly w (clear-unmarked w b) (λ n. b)
  ]
]

-- a word is its name with its mark, so that name and mark decide it
pub marked-own : (w : ℕ) → w ≡ renamed w (name_of w)
unfolding marked
marked-own w = elim (says w) [ plainly m n b ↦ rw m (sym n) | markedly m n b z ↦ rw m n ]

pub renamed-same : (w n : ℕ) → name_of w ≡ n → w ≡ renamed w n
renamed-same w n e = marked-own w ∙ ap (renamed w) e

pub word-ext : (w u : ℕ) → name_of w ≡ name_of u → is_marked w ≡ is_marked u → w ≡ u
word-ext w u n m = marked-own w ∙ ap (renamed w) n ∙ ap (λ (l : Bool). marked l (name_of u)) m ∙ sym (marked-own u)

-- a word with a mark, and one without
pub marked-name : (w : ℕ) → is_marked w ≡ true → w ≡ lock_bit + name_of w
unfolding marked
marked-name w t = marked-own w ∙ ap (λ (l : Bool). marked l (name_of w)) t

pub unmarked-name : (w : ℕ) → is_marked w ≡ false → name_of w ≡ w
unfolding marked
unmarked-name w t = sym (marked-own w ∙ ap (λ (l : Bool). marked l (name_of w)) t)

-- a marked word names something; and a word that names nothing is 0
pub mark-names : (w : ℕ) → is_marked w ≡ true → name_of w ≢ 0
mark-names w t = elim (says w) [ plainly m n b ↦ absurd (apart (sym t ∙ m)) | markedly m n b z ↦ z ]
  where
    apart : true ≡ false → ⊥
    apart e = let y : ◌≡◌ {A = ℕ} 0 1 = cc in omega arith

pub name-nothing : (w : ℕ) → name_of w ≡ 0 → w ≡ 0
name-nothing w e = elim (says w) [ plainly m n b ↦ sym n ∙ e | markedly m n b z ↦ absurd (z e) ]

-- a word below bit 30 is its own name, without a mark
pub low_word : (w : ℕ) → w < lock_bit → (name_of w ≡ w) × (is_marked w ≡ false)
low_word w h = elim (says w) [ plainly m n b ↦ (n, m) | markedly m n b z ↦ absurd (omega arith) ]

-- up to bit 30 alone no word has a mark; above it, those with bit 30 set
pub unmarked-low : (w : ℕ) → w ≤ lock_bit → is_marked w ≡ false
unmarked-low w h = elim (says w) [ plainly m n b ↦ m | markedly m n b z ↦ absurd (z (omega arith)) ]

pub mark-above : (w : ℕ) → lock_bit < w → is_marked w ≡ eqb (w / lock_bit % 2) 1
mark-above w h = elim (says w) [ plainly m n b ↦ m ∙ sym (ne_eqb (w / lock_bit % 2) 1 (b (omega arith))) | markedly m n b z ↦ m ∙ sym (eq-eqb (w / lock_bit % 2) 1 b) ]

-- bit 31 of a word is its name's
pub number-as-word : (w : ℕ) → is_number (name_of w) ≡ is_number w
number-as-word w = elim (says w) [
  | plainly m n b ↦ ap is_number n
  | markedly m n b z ↦ elim (dec_lt w swizzle_bit) [
    | yes h ↦ yes-number (name_of w) (omega arith) ∙ sym (yes-number w h)
    | no h ↦ no_number (name_of w) (omega arith) ∙ sym (no_number w (omega arith))
  ]
]

-- put with a mark, or without, it is read again, and so is the mark; nothing can't have one
says-marked : (l : Bool) (n : ℕ) → Bare n → (l ≡ true → n ≢ 0) → (name_of (marked l n) ≡ n) × (is_marked (marked l n) ≡ l)
unfolding marked
says-marked true n h z = let s : n ≢ 0 = z refl in elim (says (lock_bit + n)) [
  | plainly m a b ↦ absurd (b (omega arith) (omega arith))
  | markedly m a b c ↦ (omega arith, m)
]
says-marked false n h z = elim (says n) [ plainly m a b ↦ (a, m) | markedly m a b c ↦ absurd (omega arith) ]

pub name-marked : (l : Bool) (n : ℕ) → Bare n → (l ≡ true → n ≢ 0) → name_of (marked l n) ≡ n
name-marked l n h z = (says-marked l n h z).0

pub mark-marked : (l : Bool) (n : ℕ) → Bare n → (l ≡ true → n ≢ 0) → is_marked (marked l n) ≡ l
mark-marked l n h z = (says-marked l n h z).1

-- a word that is a page's number names that page, without a mark
pub name-number : (p : ℕ) → p < most_pages → name_of (number_word p) ≡ p
name-number p h = (low_word p (omega arith)).0

pub mark-number : (p : ℕ) → p < most_pages → is_marked (number_word p) ≡ false
mark-number p h = (low_word p (omega arith)).1

-- a word renamed names what it says, a frame, or a page, and nothing only where it named nothing; and keeps its mark
pub name-renamed-frame : (old f : ℕ) → f < most_frames → name_of (renamed old (frame_word f)) ≡ frame_word f
name-renamed-frame old f h = name-marked (is_marked old) (frame_word f) (omega arith) (λ m. omega arith)

pub mark-renamed-frame : (old f : ℕ) → f < most_frames → is_marked (renamed old (frame_word f)) ≡ is_marked old
mark-renamed-frame old f h = mark-marked (is_marked old) (frame_word f) (omega arith) (λ m. omega arith)

pub name-renamed-number : (old p : ℕ) → p < most_pages → (p ≡ 0 → name_of old ≡ 0) → name_of (renamed old (number_word p)) ≡ number_word p
name-renamed-number old p h z = name-marked (is_marked old) p (omega arith) (λ m e. mark-names old m (z e))

pub mark-renamed-number : (old p : ℕ) → p < most_pages → (p ≡ 0 → name_of old ≡ 0) → is_marked (renamed old (number_word p)) ≡ is_marked old
mark-renamed-number old p h z = mark-marked (is_marked old) p (omega arith) (λ m e. mark-names old m (z e))

-- it is a word
pub marked-lt : (l : Bool) (n : ℕ) → n < frame_word most_frames → marked l n < word_radix
unfolding marked
marked-lt true n h = omega arith
marked-lt false n h = omega arith

pub renamed-lt : (old n : ℕ) → n < frame_word most_frames → renamed old n < word_radix
renamed-lt old n h = marked-lt (is_marked old) n h

-- ---- what loops go by that read many words at a time

-- a word has the low half of what it names
pub name-half : (w n : ℕ) → name_of w ≡ n → w % half_radix ≡ n % half_radix
name-half w n e = elim (says w) [ plainly m a b ↦ ap (λ (x : ℕ). x % half_radix) (sym a ∙ e) | markedly m a b z ↦ omega arith ]

-- a word of 0 names nothing, and no other does
pub nothing-named : (w : ℕ) → w ≡ 0 → name_of w ≡ 0
nothing-named w e = (low_word w (omega arith)).0 ∙ e

-- it lies between bit 30 alone and bit 31
pub marked-number : (w : ℕ) → w < swizzle_bit → is_marked_number w ≡ ltb lock_bit w
unfolding is_marked_number
marked-number w h = elim (dec_lt lock_bit w) [
  | yes l ↦ rw (mark-above w l, eq-eqb (w / lock_bit % 2) 1 (omega arith), yes-number w h, lt-ltb lock_bit w l)
  | no l ↦ rw (unmarked-low w (omega arith), le-ltb lock_bit w (omega arith))
]

pub marked-no-number : (w : ℕ) → swizzle_bit ≤ w → is_marked_number w ≡ false
unfolding is_marked_number
marked-no-number w h = rw (no_number w h) (last_off (is_marked w))

-- what it tells
pub marked-number-is : (w : ℕ) → is_marked_number w ≡ true → is_marked w ≡ true
unfolding is_marked_number
marked-number-is w t = (and_parts (is_marked w) (is_number w) t).0

pub mark-swizzled : (w : ℕ) → is_marked_number w ≡ false → is_marked w ≡ true → Swizzled (name_of w)
unfolding is_marked_number
mark-swizzled w t m = number-no (name_of w) (number-as-word w ∙ sym (ap (λ (b : Bool). b && is_number w) m) ∙ t)

-- a word names a frame where it is the frame's, with a mark or without
pub frame-named : (l : Bool) (w f : ℕ) → f < most_frames → w ≡ marked l (frame_word f) → name_of w ≡ frame_word f
frame-named l w f h e = ap name_of e ∙ name-marked l (frame_word f) (omega arith) (λ m. omega arith)

pub named-frame : (w f : ℕ) → name_of w ≡ frame_word f → w ≢ frame_word f → w ≡ marked true (frame_word f)
unfolding marked
named-frame w f e n = elim (says w) [ plainly m a b ↦ absurd (n (sym a ∙ e)) | markedly m a b z ↦ omega arith ]
