-- The checksum of a text that comes in parts: what is kept between them, and that in the end it is the checksum of the parts joined. Assumes nothing.
use Rattle.std.specs.Prelude.{◌≡◌, ℕ, ◌+◌, ◌%◌, ◌^◌, ◌<◌, List, [], ◌∷◌, ◌++◌, length, refl}
use Rattle.std.proofs.Common.{sym, ◌∙◌, ap, ap₂, mod-eq_of_lt, length-append}
use Rattle.checksum.specs.declared.Sum.{Sum}
use Rattle.checksum.specs.Checksum.{with_byte, with_bytes, octets, complement, cksum}

-- the sum of no part
abbrev pub empty_sum : Sum
empty_sum = record { crc = 0; length = 0 }

-- the sum with one part more; of the length the low 64 bits are kept
unfoldable pub added : Sum → List ℕ → Sum
added s p = record { crc = with_bytes s.crc p; length = (s.length + length p) % 2 ^ 64 }

-- the checksum that it comes to
unfoldable pub value_of : Sum → ℕ
value_of s = complement (with_bytes s.crc (octets 8 s.length))

-- the sum is over these bytes
pub record Over (s : Sum) (bs : List ℕ) : Type 0 where
  pub check : s.crc ≡ with_bytes 0 bs
  pub count : s.length ≡ length bs

pub empty-over : Over empty_sum []
unfolding with_bytes
empty-over = record { check = refl; count = refl }

parts-joined : (c : ℕ) (a b : List ℕ) → with_bytes c (a ++ b) ≡ with_bytes (with_bytes c a) b
unfolding with_bytes
parts-joined c [] b = refl
parts-joined c (x ∷ a) b = parts-joined (with_byte c x) a b

pub added-over : {s : Sum} {bs : List ℕ} (p : List ℕ) → Over s bs → length bs + length p < 2 ^ 64 → Over (added s p) (bs ++ p)
unfolding added
added-over {s} {bs} p o h = record {
  check = ap (λ (c : ℕ). with_bytes c p) o.check ∙ sym (parts-joined 0 bs p);
  count = ap (λ (n : ℕ). (n + length p) % 2 ^ 64) o.count ∙ mod-eq_of_lt h ∙ sym (length-append bs p);
}

pub over-value : {s : Sum} {bs : List ℕ} → Over s bs → value_of s ≡ cksum bs
unfolding value_of cksum
over-value o = ap₂ (λ (c n : ℕ). complement (with_bytes c (octets 8 n))) o.check o.count
