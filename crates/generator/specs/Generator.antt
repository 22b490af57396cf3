-- Request A.10, "A load anyone can repeat": the generator.
use Rattle.std.specs.Prelude.{ℕ, zero, suc, ◌*◌, ◌/◌, ◌%◌, ◌^◌, ◌<◌, ◌≡◌, ◌≢◌}
use Rattle.std.specs.Int.Bits.{bit_xor}

-- "Use the 32-bit xorshift generator of Marsaglia": a number xor the same number shifted, to the left, where what goes over the top is lost, or to the right
unfoldable pub xor_left : ℕ → ℕ → ℕ
xor_left k x = bit_xor x ((x * 2 ^ k) % 2 ^ 32)

unfoldable pub xor_right : ℕ → ℕ → ℕ
xor_right k x = bit_xor x (x / 2 ^ k)

-- the number after a draw: "with shifts left 13, right 17, left 5"
unfoldable pub number_after : ℕ → ℕ
number_after x = xor_left 5 (xor_right 17 (xor_left 13 x))

-- "a seed of 0 is read as 1"
unfoldable pub seed_read : ℕ → ℕ
seed_read zero = 1
seed_read (suc n) = suc n

-- the number before a draw. Each of the three, done 2, 4 or 8 times, is one shift by so many times as much, and one by 32 or more leaves the number: 13 is undone by three more, 17 by one, 5 by seven
abbrev pub thrice : ℕ → ℕ → ℕ
thrice k y = xor_left k (xor_left k (xor_left k y))

unfoldable pub number_before : ℕ → ℕ
number_before y = thrice 13 (xor_right 17 (thrice 5 (xor_left 5 (thrice 5 y))))

-- y "is undone by exactly one earlier number, which isn't 0 either"
pub record Undone (y : ℕ) : Type 0 where
  pub fits : number_before y < 2 ^ 32
  pub gives : number_after (number_before y) ≡ y
  pub nonzero : number_before y ≢ 0
  pub only : (x : ℕ) → x < 2 ^ 32 → number_after x ≡ y → x ≡ number_before y
