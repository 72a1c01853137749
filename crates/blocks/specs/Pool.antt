-- The pool's bytes. Document 01, "Messages". The map and the pool are gone through side by side, a block at a time, so no definition computes an
-- index. Each is total: where the pool ends early, a block is the bytes that are there. Assumes nothing.
use Rattle.std.specs.Prelude.{ℕ, zero, suc, ◌-◌, ◌*◌, ◌^◌, ◌<◌, List, [], ◌∷◌, ◌++◌, eqb, length, take, drop}
use Rattle.numbers.specs.Bytes.{pick, part}
use Rattle.blocks.specs.Map.{block_size}

-- the bytes of a slice, of which there are no more than a `usize` counts
abbrev pub Sized : List ℕ → Type 0
Sized bytes = length bytes < 2 ^ 64

-- "following its blocks one after another": the bytes of an owner's blocks, in rising order
unfoldable pub block_bytes : ℕ → List ℕ → List ℕ → List ℕ
block_bytes owner [] pool = []
block_bytes owner (o ∷ map) pool =
    pick (eqb o owner) (take block_size pool ++ block_bytes owner map (drop block_size pool)) (block_bytes owner map (drop block_size pool))

-- the list with the bytes s put over it from the place `at` on, as far as the list goes: it stays as long as it was
unfoldable pub over : ℕ → List ℕ → List ℕ → List ℕ
over at s [] = []
over zero [] (x ∷ l) = x ∷ l
over zero (y ∷ s) (x ∷ l) = y ∷ over zero s l
over (suc at) s (x ∷ l) = x ∷ over at s l

-- "Its payload goes to the message's blocks, right behind the bytes already there; no other pool byte changes.": the pool with the bytes s put over an
-- owner's blocks, behind their first `at` bytes, as far as its blocks go. A block takes what falls on it; the next one begins `block_size` bytes on
-- (`at - block_size`, or past the bytes that this one took).
unfoldable pub appended : ℕ → ℕ → List ℕ → List ℕ → List ℕ → List ℕ
appended owner at s [] pool = pool
appended owner at s (o ∷ map) pool =
    pick (eqb o owner)
    (over at s (take block_size pool) ++ appended owner (at - block_size) (drop (block_size - at) s) map (drop block_size pool))
    (take block_size pool ++ appended owner at s map (drop block_size pool))

-- the same, where only block b and those behind it take part
unfoldable pub appended_from : ℕ → ℕ → ℕ → List ℕ → List ℕ → List ℕ → List ℕ
appended_from owner b at s map pool = take (block_size * b) pool ++ appended owner at s (drop b map) (drop (block_size * b) pool)

-- "writes the message to the front of out .. until no byte is left": the buffer with the first `due` bytes of an owner's blocks at its front, as far as
-- blocks and buffer go
unfoldable pub delivered : ℕ → ℕ → List ℕ → List ℕ → List ℕ → List ℕ
delivered owner due map pool out = over 0 (take due (block_bytes owner map pool)) out

-- the same, where only block b and those behind it take part, and what is due goes to the buffer from the place `at` on
unfoldable pub delivered_from : ℕ → ℕ → ℕ → ℕ → List ℕ → List ℕ → List ℕ → List ℕ
delivered_from owner b at due map pool out = over at (take due (block_bytes owner (drop b map) (drop (block_size * b) pool))) out

-- the blocks of these numbers, one after another: block b starts at block_size * b
unfoldable pub joined : List ℕ → List ℕ → List ℕ
joined pool [] = []
joined pool (b ∷ numbers) = part pool (block_size * b) block_size ++ joined pool numbers
