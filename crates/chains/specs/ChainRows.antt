-- Directories as bytes, and what the definitions make of them, sentence by sentence of request A.3. Assumes nothing.
use Rattle.std.specs.Prelude.{ℕ, ◌+◌, ◌-◌, ◌≡◌, refl, true, false, List, [], ◌∷◌, ◌++◌, map, ltb, length, replicate}
use Rattle.rules.specs.Tests.{pick, ◌and◌, ◌or◌}
use Rattle.chains.specs.Chain.{bucket_of, chain_from, chain_of, has, each_of, once, opened_directory, entered, taken_from, taken_out, seek_in, sought_in}

-- a directory by its first heads, of chains 0 on, and its first links, of frames 0 on; the other bytes of the 67 and of the 64 are 0
abbrev pub directory_of : List ℕ → List ℕ → List ℕ
directory_of heads links = heads ++ replicate (67 - length heads) 0 ++ links ++ replicate (64 - length links) 0

-- chain 0 is frame 1; chain 1 is frames 2, 0 and 3, in this order
abbrev three : List ℕ
three = directory_of (2 ∷ 3 ∷ []) (4 ∷ 0 ∷ 1 ∷ [])

-- "bucket p mod 67"
pub bucket-rows : map bucket_of (0 ∷ 66 ∷ 67 ∷ 134 ∷ 4095 ∷ []) ≡ (0 ∷ 66 ∷ 0 ∷ 0 ∷ 8 ∷ [])
bucket-rows = refl

-- "Byte b below 67 holds 1 plus the frame at the head of chain b, byte 67 + f holds 1 plus the frame after f in its chain, 0 where none."
pub chain-rows : map (chain_of three) (0 ∷ 1 ∷ 2 ∷ 66 ∷ []) ≡ ((1 ∷ []) ∷ (2 ∷ 0 ∷ 3 ∷ []) ∷ [] ∷ [] ∷ [])
unfolding chain_from pick
chain-rows = refl

-- the last head, and the last frame's link
pub end_row : chain_of (replicate 66 0 ++ (64 ∷ []) ++ replicate 63 0 ++ (1 ∷ [])) 66 ≡ (63 ∷ 0 ∷ [])
unfolding chain_from pick
end_row = refl

-- a chain that leads into itself is followed over 65 frames
pub ring-row : length (chain_of (directory_of (1 ∷ []) (2 ∷ 1 ∷ [])) 0) ≡ 65
unfolding chain_from pick
ring-row = refl

-- frames of a chain: one that is in it, one that isn't; all of them below 4, not all below 3; each once, in one order and another, and one twice
pub list-rows :
    (has 3 (2 ∷ 0 ∷ 3 ∷ []) ∷ has 1 (2 ∷ 0 ∷ 3 ∷ []) ∷ each_of (λ f. ltb f 4) (2 ∷ 0 ∷ 3 ∷ []) ∷ each_of (λ f. ltb f 3) (2 ∷ 0 ∷ 3 ∷ []) ∷ once (2 ∷ 0 ∷ 3 ∷ []) ∷ once (0 ∷ 2 ∷ 3 ∷ []) ∷ once (2 ∷ 0 ∷ 2 ∷ []) ∷ [])
    ≡ (true ∷ false ∷ true ∷ false ∷ true ∷ true ∷ false ∷ [])
unfolding has each_of once ◌and◌ ◌or◌
list-rows = refl

-- "Open leaves page 0 alone in it"; request A.11, of two stores and of four: the roots, "entered in the directory in that order"
pub opened_rows : map opened_directory (1 ∷ 2 ∷ 4 ∷ []) ≡ (directory_of (1 ∷ []) [] ∷ directory_of (2 ∷ []) (0 ∷ 1 ∷ []) ∷ directory_of (4 ∷ []) (0 ∷ 1 ∷ 2 ∷ 3 ∷ []) ∷ [])
unfolding opened_directory entered
opened_rows = refl

-- "an entry added at its chain's head on loading": in an empty chain, and before others; no other chain changes
pub entered-rows : (entered (directory_of (2 ∷ 1 ∷ []) (4 ∷ [])) 2 2 ∷ entered (directory_of (2 ∷ 1 ∷ []) (4 ∷ [])) 1 2 ∷ []) ≡ (directory_of (2 ∷ 1 ∷ 3 ∷ []) (4 ∷ []) ∷ three ∷ [])
unfolding entered
entered-rows = refl

-- "and taken out on eviction": the first of three, the second, the third, and the only one; the others keep their order, and the frame that left has 0
pub taken-rows :
    (taken_out three 1 2 ∷ taken_out three 1 0 ∷ taken_out three 1 3 ∷ taken_out three 0 1 ∷ [])
    ≡ (directory_of (2 ∷ 1 ∷ []) (4 ∷ []) ∷ directory_of (2 ∷ 3 ∷ []) (0 ∷ 0 ∷ 4 ∷ []) ∷ directory_of (2 ∷ 3 ∷ []) (0 ∷ 0 ∷ 1 ∷ []) ∷ directory_of (0 ∷ 3 ∷ []) (4 ∷ 0 ∷ 1 ∷ []) ∷ [])
unfolding taken_from pick
taken-rows = refl

-- one that isn't in the chain: nothing changes
pub untaken-row : taken_out three 1 1 ≡ three
unfolding taken_from pick
untaken-row = refl

-- frame f with page 100 + f, of four frames: a page of a chain's entry, as frame and count
abbrev seeks : ℕ → List ℕ
seeks q = let a = seek_in (λ f. 100 + f) 4 q 0 (chain_of three 1) in a.frame ∷ a.compared ∷ []

-- "the place of the page's entry in its chain, from 1, or the chain's length if absent"
pub seek-rows : map seeks (102 ∷ 100 ∷ 103 ∷ 101 ∷ []) ≡ ((2 ∷ 1 ∷ []) ∷ (0 ∷ 2 ∷ []) ∷ (3 ∷ 3 ∷ []) ∷ (4 ∷ 3 ∷ []) ∷ [])
unfolding chain_from seek_in pick
seek-rows = refl

-- along the chain that is asked for: in an empty one nothing is compared
pub sought-rows : map (λ b. sought_in (λ f. 100 + f) 4 three b 103) (1 ∷ 36 ∷ []) ≡ (record { frame = 3; compared = 3 } ∷ record { frame = 4; compared = 0 } ∷ [])
unfolding chain_from seek_in pick
sought-rows = refl
