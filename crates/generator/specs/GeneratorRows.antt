-- Draws and seeds, computed from the definitions.
use Rattle.std.specs.Prelude.{◌≡◌, refl, [], ◌∷◌, map}
use Rattle.generator.specs.Generator.{xor_left, xor_right, number_after, seed_read, number_before}

-- "shifts left 13, right 17, left 5": from 1, from the number after that, from the seed of Marsaglia's paper, from the highest bit alone and from all bits; and from 0, where no seed leads
pub draw-rows :
    map number_after (1 ∷ 270369 ∷ 2463534242 ∷ 2147483648 ∷ 4294967295 ∷ 0 ∷ [])
    ≡ (270369 ∷ 67634689 ∷ 723471715 ∷ 2148024320 ∷ 253983 ∷ 0 ∷ [])
unfolding number_after xor_left xor_right
draw-rows = refl

-- "undone by exactly one earlier number": the number before the first five of these, and before 1
pub undone-rows :
    map number_before (270369 ∷ 67634689 ∷ 723471715 ∷ 2148024320 ∷ 253983 ∷ 1 ∷ [])
    ≡ (1 ∷ 270369 ∷ 2463534242 ∷ 2147483648 ∷ 4294967295 ∷ 4071982377 ∷ [])
unfolding number_before xor_left xor_right
undone-rows = refl

-- "a seed of 0 is read as 1"
pub seed-rows : map seed_read (0 ∷ 1 ∷ 2 ∷ 4294967295 ∷ []) ≡ (1 ∷ 1 ∷ 2 ∷ 4294967295 ∷ [])
unfolding seed_read
seed-rows = refl
