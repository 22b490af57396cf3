-- Xor is associative; a number with its own shift, taken twice, is the number with the double shift; a shift by 32 or more leaves the number, and 32 bits stay 32. Assumes nothing.
use Rattle.std.specs.Prelude.{ℕ, zero, suc, ◌+◌, ◌*◌, ◌/◌, ◌%◌, ◌^◌, ◌<◌, ◌≡◌, refl}
use Rattle.std.proofs.Common.{sym, ap, ap₂, ◌∙◌, arith, mod-lt, add-mul, mul_assoc, mul_comm, add-zero, div-add-mod', lt_of_le_of_lt, pow-add, pow_pos, shr-shr}
use Rattle.std.proofs.Math.Nat.{mul-add-mod_self_right, mul-mod_left, div-eq_of_lt}
use Rattle.std.proofs.Math.Arith.{bin_ind, digits_mod}
use Rattle.std.proofs.lemmas.Nat.{shr_le, xor_block, xor_shr, xor_mod, xor_lt}
use Rattle.std.specs.Int.Bits.{bit_xor, differ, xor_step, xor_self, xor_zero_r}
use Rattle.generator.specs.Generator.{xor_left, xor_right}

-- ---- digits

differ-assoc : (a b c : ℕ) → a < 2 → b < 2 → c < 2 → differ (differ a b) c ≡ differ a (differ b c)
differ-assoc zero b c p q r = refl
differ-assoc (suc zero) zero c p q r = refl
differ-assoc (suc zero) (suc zero) zero p q r = refl
differ-assoc (suc zero) (suc zero) (suc zero) p q r = refl
differ-assoc (suc zero) (suc zero) (suc (suc c)) p q r = absurd (omega arith)
differ-assoc (suc zero) (suc (suc b)) c p q r = absurd (omega arith)
differ-assoc (suc (suc a)) b c p q r = absurd (omega arith)

differ-lt : (a b : ℕ) → a < 2 → b < 2 → differ a b < 2
differ-lt zero b p q = q
differ-lt (suc a) zero p q = p
differ-lt (suc zero) (suc zero) p q = omega arith
differ-lt (suc zero) (suc (suc b)) p q = absurd (omega arith)
differ-lt (suc (suc a)) (suc b) p q = absurd (omega arith)

odd-lt : (a : ℕ) → a % 2 < 2
odd-lt a = mod-lt a (omega arith)

xor-half : (a b : ℕ) → bit_xor a b / 2 ≡ bit_xor (a / 2) (b / 2)
xor-half a b = xor_shr a b 1

xor-odd : (a b : ℕ) → bit_xor a b % 2 ≡ differ (a % 2) (b % 2)
xor-odd a b = ap (λ (k : ℕ). k % 2) (xor_step a b) ∙ digits_mod (bit_xor (a / 2) (b / 2)) (differ-lt (a % 2) (b % 2) (odd-lt a) (odd-lt b))

xor_assoc : (a b c : ℕ) → bit_xor (bit_xor a b) c ≡ bit_xor a (bit_xor b c)
xor_assoc a b c =
    bin_ind (λ (n : ℕ). (b c : ℕ) → bit_xor (bit_xor n b) c ≡ bit_xor n (bit_xor b c)) (λ b c. refl)
    (λ n ih b c.
    xor_step (bit_xor n b) c
    ∙ ap₂ (λ (x y : ℕ). x * 2 + y)
    (ap (λ (k : ℕ). bit_xor k (c / 2)) (xor-half n b) ∙ ih (b / 2) (c / 2) ∙ ap (bit_xor (n / 2)) (sym (xor-half b c)))
    (ap (λ (k : ℕ). differ k (c % 2)) (xor-odd n b) ∙ differ-assoc (n % 2) (b % 2) (c % 2) (odd-lt n) (odd-lt b) (odd-lt c) ∙ ap (differ (n % 2)) (sym (xor-odd b c)))
    ∙ sym (xor_step n (bit_xor b c)))
    a b c

-- ---- a number with its own shift s, twice, where s goes through xor
twice : (s : ℕ → ℕ) → ((a b : ℕ) → s (bit_xor a b) ≡ bit_xor (s a) (s b)) → (x : ℕ)
    → bit_xor (bit_xor x (s x)) (s (bit_xor x (s x))) ≡ bit_xor x (s (s x))
twice s h x =
    ap (bit_xor (bit_xor x (s x))) (h x (s x))
    ∙ xor_assoc x (s x) (bit_xor (s x) (s (s x)))
    ∙ ap (bit_xor x) (sym (xor_assoc (s x) (s x) (s (s x))) ∙ ap (λ (k : ℕ). bit_xor k (s (s x))) (xor_self (s x)))

-- ---- to the left

mul-mod-l : (a c m : ℕ) → (a % m) * c % m ≡ a * c % m
mul-mod-l a c m =
    sym (mul-add-mod_self_right (a / m * c) m ((a % m) * c))
    ∙ ap (λ (k : ℕ). k % m)
    (ap (λ (k : ℕ). k + (a % m) * c) (mul_assoc (a / m) c m ∙ ap (λ (k : ℕ). a / m * k) (mul_comm c m) ∙ sym (mul_assoc (a / m) m c))
    ∙ sym (add-mul (a / m * m) (a % m) c)
    ∙ ap (λ (k : ℕ). k * c) (div-add-mod' a m))

abbrev shl : ℕ → ℕ → ℕ
shl k x = (x * 2 ^ k) % 2 ^ 32

shl-xor : (k a b : ℕ) → shl k (bit_xor a b) ≡ bit_xor (shl k a) (shl k b)
shl-xor k a b = ap (λ (n : ℕ). n % 2 ^ 32) (sym block) ∙ xor_mod (a * 2 ^ k) (b * 2 ^ k) 32
  where
    block : bit_xor (a * 2 ^ k) (b * 2 ^ k) ≡ bit_xor a b * 2 ^ k
    block = ap₂ bit_xor (sym (add-zero (a * 2 ^ k))) (sym (add-zero (b * 2 ^ k))) ∙ xor_block k a b 0 0 (pow_pos k) (pow_pos k) ∙ add-zero (bit_xor a b * 2 ^ k)

shl-shl : (k x : ℕ) → shl k (shl k x) ≡ shl (k + k) x
shl-shl k x =
    mul-mod-l (x * 2 ^ k) (2 ^ k) (2 ^ 32)
    ∙ ap (λ (n : ℕ). n % 2 ^ 32) (mul_assoc x (2 ^ k) (2 ^ k) ∙ ap (λ (n : ℕ). x * n) (sym (pow-add 2 k k)))

pub left-twice : (k x : ℕ) → xor_left k (xor_left k x) ≡ xor_left (k + k) x
unfolding xor_left
left-twice k x = twice (shl k) (shl-xor k) x ∙ ap (bit_xor x) (shl-shl k x)

pub left_over : (j x : ℕ) → xor_left (j + 32) x ≡ x
unfolding xor_left
left_over j x =
    ap (bit_xor x)
    (ap (λ (n : ℕ). n % 2 ^ 32) (ap (λ (n : ℕ). x * n) (pow-add 2 j 32) ∙ sym (mul_assoc x (2 ^ j) (2 ^ 32))) ∙ mul-mod_left (x * 2 ^ j) (2 ^ 32))
    ∙ xor_zero_r x

pub left_lt : (k x : ℕ) → x < 2 ^ 32 → xor_left k x < 2 ^ 32
unfolding xor_left
left_lt k x h = xor_lt 32 x (shl k x) h (mod-lt (x * 2 ^ k) (pow_pos 32))

-- ---- to the right

pub right-twice : (k x : ℕ) → xor_right k (xor_right k x) ≡ xor_right (k + k) x
unfolding xor_right
right-twice k x = twice (λ n. n / 2 ^ k) (λ a b. xor_shr a b k) x ∙ ap (bit_xor x) (shr-shr x k k)

pub right-over : (k x : ℕ) → x < 2 ^ k → xor_right k x ≡ x
unfolding xor_right
right-over k x h = ap (bit_xor x) (div-eq_of_lt h) ∙ xor_zero_r x

pub right_lt : (k x : ℕ) → x < 2 ^ 32 → xor_right k x < 2 ^ 32
unfolding xor_right
right_lt k x h = xor_lt 32 x (x / 2 ^ k) h (lt_of_le_of_lt (shr_le x k) h)
