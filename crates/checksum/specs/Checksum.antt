-- The checksum that the command `cksum` gives (POSIX): a cyclic redundancy check of 32 bits over some bytes, and then over their number.
use Rattle.std.specs.Prelude.{ℕ, zero, suc, ◌-◌, ◌*◌, ◌/◌, ◌%◌, ◌^◌, List, [], ◌∷◌, length, bit_xor}

-- the polynomial, its highest term left out: 0x04C11DB7
abbrev pub polynomial : ℕ
polynomial = 79764919

-- a bit is shifted out at the top; where it is 1, the polynomial is added
unfoldable pub shifted : ℕ → ℕ
shifted c = bit_xor (c * 2 % 2 ^ 32) (polynomial * (c / 2 ^ 31))

-- k bits are shifted out, one after the other
unfoldable pub shifted_out : ℕ → ℕ → ℕ
shifted_out zero c = c
shifted_out (suc k) c = shifted_out k (shifted c)

-- a byte goes in at the top, and eight bits are shifted out
unfoldable pub with_byte : ℕ → ℕ → ℕ
with_byte c b = shifted_out 8 (bit_xor c (b * 2 ^ 24))

-- bytes go in, one after the other
unfoldable pub with_bytes : ℕ → List ℕ → ℕ
with_bytes c [] = c
with_bytes c (b ∷ bs) = with_bytes (with_byte c b) bs

-- a number as bytes, the lowest first: as many as it takes, none for 0, and at most k
unfoldable pub octets : ℕ → ℕ → List ℕ
octets zero n = []
octets (suc k) zero = []
octets (suc k) (suc n) = suc n % 256 ∷ octets k (suc n / 256)

-- every bit of the 32 is turned
abbrev pub complement : ℕ → ℕ
complement c = 2 ^ 32 - 1 - c

-- the checksum of fewer than 2 ^ 64 bytes
unfoldable pub cksum : List ℕ → ℕ
cksum bs = complement (with_bytes (with_bytes 0 bs) (octets 8 (length bs)))
