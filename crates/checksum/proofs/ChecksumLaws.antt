-- The definition in steps, as loops take them. Assumes nothing.
use Rattle.std.specs.Prelude.{◌≡◌, ℕ, zero, suc, ◌+◌, ◌-◌, ◌*◌, ◌/◌, ◌%◌, ◌^◌, ◌<◌, ◌≤◌, List, ◌∷◌, length, drop, bit_xor, slice_index, refl}
use Rattle.std.proofs.Common.{sym, ap, pow-suc, div-lt_iff_lt-mul, mod-eq_of_lt, add-one, sub-one, arith, drop_of_length-le, drop-cons}
use Rattle.checksum.specs.Checksum.{shifted, shifted_out, with_byte, with_bytes, octets}

-- ---- bits of a byte

pub byte-in : (c b : ℕ) → b < 256 → with_byte c b ≡ shifted_out 8 (bit_xor c (b * 2 ^ 24 % 2 ^ 32))
unfolding with_byte
byte-in c b h = ap (λ (x : ℕ). shifted_out 8 (bit_xor c x)) (sym (mod-eq_of_lt (omega arith)))

pub one_out : (k c : ℕ) → 0 < k → shifted_out k c ≡ shifted_out (k - 1) (shifted c)
unfolding shifted_out
one_out zero c h = absurd (omega arith)
one_out (suc k) c h = rw (sub-one (suc k))

pub none_out : (k c : ℕ) → k ≤ 0 → shifted_out k c ≡ c
unfolding shifted_out
none_out zero c h = refl
none_out (suc k) c h = absurd (omega arith)

-- ---- bytes of a list, from byte i on

pub one_in : (c : ℕ) (bs : List ℕ) (i : ℕ) → i < length bs → with_bytes c (drop i bs) ≡ with_bytes (with_byte c (slice_index bs i)) (drop (i + 1) bs)
unfolding with_bytes
one_in c bs i h = rw (add-one i, drop-cons bs i 0)

pub none_in : (c : ℕ) (bs : List ℕ) (i : ℕ) → length bs ≤ i → with_bytes c (drop i bs) ≡ c
unfolding with_bytes
none_in c bs i h = rw (drop_of_length-le bs h)

-- ---- bytes of a number

-- where k bytes are enough, room for one more gives no more
octets-enough : (k n : ℕ) → n < 256 ^ k → octets (suc k) n ≡ octets k n
unfolding octets
octets-enough zero zero h = refl
octets-enough zero (suc n) h = absurd (omega arith)
octets-enough (suc k) zero h = refl
octets-enough (suc k) (suc n) h =
    let l : suc n < 256 ^ k * 256 = rw (pow-suc 256 k) at h in
    ap (λ (bs : List ℕ). suc n % 256 ∷ bs) (octets-enough k (suc n / 256) ((div-lt_iff_lt-mul (omega arith)).1 l))

octets-next : (n : ℕ) → 0 < n → n < 2 ^ 64 → octets 8 n ≡ n % 256 ∷ octets 8 (n / 256)
unfolding octets
octets-next zero p h = absurd (omega arith)
octets-next (suc n) p h = ap (λ (bs : List ℕ). suc n % 256 ∷ bs) (sym (octets-enough 7 (suc n / 256) (omega arith)))

pub octet-in : (c n : ℕ) → 0 < n → n < 2 ^ 64 → with_bytes c (octets 8 n) ≡ with_bytes (with_byte c (n % 256)) (octets 8 (n / 256))
unfolding with_bytes
octet-in c n p h = rw (octets-next n p h)

pub no-octet : (c n : ℕ) → n ≤ 0 → with_bytes c (octets 8 n) ≡ c
unfolding with_bytes octets
no-octet c zero h = refl
no-octet c (suc n) h = absurd (omega arith)
