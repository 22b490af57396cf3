-- Checksums computed from the definition, each the one that the command `cksum` prints.
use Rattle.std.specs.Prelude.{◌≡◌, [], ◌∷◌, replicate, refl}
use Rattle.checksum.specs.Checksum.{shifted, shifted_out, with_byte, with_bytes, octets, cksum}

-- no bytes
pub cksum-none : cksum [] ≡ 4294967295
unfolding shifted shifted_out with_byte with_bytes octets cksum
cksum-none = refl

-- the letter a
pub cksum-letter : cksum (97 ∷ []) ≡ 1220704766
unfolding shifted shifted_out with_byte with_bytes octets cksum
cksum-letter = refl

-- the largest byte
pub cksum-largest : cksum (255 ∷ []) ≡ 3045181057
unfolding shifted shifted_out with_byte with_bytes octets cksum
cksum-largest = refl

-- the digits 1 to 9
pub cksum-digits : cksum (49 ∷ 50 ∷ 51 ∷ 52 ∷ 53 ∷ 54 ∷ 55 ∷ 56 ∷ 57 ∷ []) ≡ 930766865
unfolding shifted shifted_out with_byte with_bytes octets cksum
cksum-digits = refl

-- 300 zeros, whose number takes two bytes
pub cksum-zeros : cksum (replicate 300 0) ≡ 351385237
unfolding shifted shifted_out with_byte with_bytes octets cksum
cksum-zeros = refl
