-- What the C functions make of an answer of `blocks`. Assumes nothing.
use Rattle.std.specs.Prelude.{ℕ, List, length, Option, Some, None}
use Rattle.blocks.specs.declared.BlockNumber.{BlockNumber}
use Rattle.blocks.specs.Map.{nth_block}

-- a found block's number; the map's length where there is none
abbrev pub number_of : ℕ → Option BlockNumber → ℕ
number_of none (Some b) = b.0
number_of none None = none

abbrev pub place_in : ℕ → ℕ → List ℕ → ℕ
place_in owner n map = number_of (length map) (nth_block owner n map)
