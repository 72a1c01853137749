-- Numbers as bytes: one pair of definitions over the width. Document 01: "Header numbers are most significant byte
-- first (ours); BSON numbers least significant first." Most significant first is the reverse of the other.
-- Assumes nothing.
use Rattle.std.specs.Prelude.{ℕ, zero, suc, ◌+◌, ◌*◌, ◌/◌, ◌%◌, ◌^◌, ◌<◌, List, [], ◌∷◌, reverse, ◌≡◌}

-- the number whose bytes are bs, least significant first, as in BSON
unfoldable pub value_le : List ℕ → ℕ
value_le [] = 0
value_le (b ∷ bs) = b + 256 * value_le bs

-- the w bytes of n, least significant first
unfoldable pub bytes_le : ℕ → ℕ → List ℕ
bytes_le zero n = []
bytes_le (suc w) n = (n % 256) ∷ bytes_le w (n / 256)

-- the same, most significant first, as in headers
unfoldable pub value_be : List ℕ → ℕ
value_be bs = value_le (reverse bs)

unfoldable pub bytes_be : ℕ → ℕ → List ℕ
bytes_be w n = reverse (bytes_le w n)

-- r is the number v, and fits w bytes
pub record Fits (w v r : ℕ) : Type 0 where
  pub is : r ≡ v
  pub below : r < 256 ^ w
