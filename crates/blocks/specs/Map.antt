-- The block map: a number for each block, its owner, `free` where it has none. Document 01: "it takes the lowest free blocks in
-- rising order". An owner's blocks are the entries that bear its number, so their order needs no record. Assumes nothing.
use Rattle.std.specs.Prelude.{ℕ, zero, suc, Option, Some, None, ◌+◌, ◌-◌, ◌/◌, ◌<◌, ◌≤◌, max, ◌&&◌, List, [], ◌∷◌, eqb, ltb, leb, length, replicate, drop}
use Rattle.numbers.specs.Bytes.{pick}
use Rattle.blocks.specs.declared.BlockNumber.{BlockNumber}

-- the bytes of a block
abbrev pub block_size : ℕ
block_size = 256

-- the blocks of the whole pool: "the pool of 65,536 bytes"
abbrev pub block_count : ℕ
block_count = 256

-- the number of no owner
abbrev pub free : ℕ
free = 0

-- how many blocks so many bytes need: "(total + 255) / 256 rounded down". The link's own is `need_of` (session/specs/Decide), since session does not know blocks
unfoldable pub needed_for : ℕ → ℕ
needed_for total = (total + (block_size - 1)) / block_size

-- the map in which every block is free: "made as [free; 256] at link creation"
unfoldable pub free_map : List ℕ
free_map = replicate block_count free

-- how many blocks an owner has
unfoldable pub held_by : ℕ → List ℕ → ℕ
held_by owner [] = 0
held_by owner (o ∷ map) = pick (eqb o owner) 1 0 + held_by owner map

-- how many the n owners from `first` on have
unfoldable pub held_by_all : ℕ → ℕ → List ℕ → ℕ
held_by_all first zero map = 0
held_by_all first (suc n) map = held_by first map + held_by_all (suc first) n map

-- how many blocks are free
abbrev pub free_in : List ℕ → ℕ
free_in map = held_by free map

-- an owner that is not one of those from low to high
abbrev pub Outside : ℕ → ℕ → ℕ → Type 0
Outside low high owner = low ≤ owner → owner ≤ high → ⊥

-- every number in the map is below a bound
abbrev pub Below : ℕ → List ℕ → Type 0
Below bound [] = Unit {0}
Below bound (o ∷ map) = (o < bound) × Below bound map

-- "it takes the lowest free blocks in rising order": the map after the lowest n free blocks, or all of them if there are fewer, went to an owner
unfoldable pub claimed : ℕ → ℕ → List ℕ → List ℕ
claimed owner n [] = []
claimed owner n (o ∷ map) = pick (eqb o free && ltb 0 n) (owner ∷ claimed owner (n - 1) map) (o ∷ claimed owner n map)

-- document 02, A3: "the search counts the blocks it looks at": one after another from the first on, each once, while blocks are still wanted. So it looks at
-- none if none is wanted, and at every one if too few are free
unfoldable pub looked_for : ℕ → List ℕ → ℕ
looked_for n [] = 0
looked_for n (o ∷ map) = pick (eqb n 0) 0 (1 + looked_for (pick (eqb o free) (n - 1) n) map)

-- "and frees them": the map after all blocks of the owners from low to high were freed
unfoldable pub released : ℕ → ℕ → List ℕ → List ℕ
released low high [] = []
released low high (o ∷ map) = pick (leb low o && leb o high) free o ∷ released low high map

-- the numbers of an owner's blocks, rising, where the map's first block has the number b
unfoldable pub numbers_from : ℕ → ℕ → List ℕ → List ℕ
numbers_from b owner [] = []
numbers_from b owner (o ∷ map) = pick (eqb o owner) (b ∷ numbers_from (suc b) owner map) (numbers_from (suc b) owner map)

-- the numbers of an owner's blocks, rising
abbrev pub block_numbers : ℕ → List ℕ → List ℕ
block_numbers owner map = numbers_from 0 owner map

-- the highest of some block numbers; 0 if there is none
unfoldable pub highest_of : List ℕ → ℕ
highest_of [] = 0
highest_of (b ∷ numbers) = max b (highest_of numbers)

-- the number of an owner's block at the place n, from 0, in rising order; the map's length if it has not so many
unfoldable pub nth_number : ℕ → ℕ → List ℕ → ℕ
nth_number owner n [] = 0
nth_number owner n (o ∷ map) = pick (eqb o owner) (pick (eqb n 0) 0 (suc (nth_number owner (n - 1) map))) (suc (nth_number owner n map))

-- the same among the blocks from b on
abbrev pub nth_from : ℕ → ℕ → ℕ → List ℕ → ℕ
nth_from owner b n map = b + nth_number owner n (drop b map)

-- the block of a number that was looked for, if it lies inside the map
unfoldable pub found_at : ℕ → List ℕ → Option BlockNumber
found_at b map = pick (ltb b (length map)) (Some (record { 0 = b })) None

-- an owner's block as an answer
unfoldable pub nth_block : ℕ → ℕ → List ℕ → Option BlockNumber
nth_block owner n map = found_at (nth_number owner n map) map
