-- A message in several frames: the two rules that the sender and the link share. Document 01, "Messages" and refusal 18, as document 02's A2
-- leaves them.
-- Assumes nothing.
use Rattle.std.specs.Prelude.{ℕ, ◌+◌, ◌-◌, ◌%◌, Bool, ◌&&◌, eqb, leb}
use Rattle.numbers.specs.Bytes.{pick}

-- A2: "the k-th non-last frame carries 1 plus the remainder of k minus 1 by 255, the last 0". The place k goes from 1 to count
unfoldable pub frame_number : ℕ → ℕ → ℕ
frame_number place count = pick (eqb place count) 0 (1 + (place - 1) % 255)

-- 18: "total 0 or above 65,536, count 0 .. or above total"; A2 took its bound on the count
unfoldable pub totals_fit : ℕ → ℕ → Bool
totals_fit total count = leb 1 total && (leb total 65536 && (leb 1 count && leb count total))
