-- "Frame types: 0 control, 1 single, 2 first, 3 consecutive." The names are those of the code (src/frame_type).
-- Assumes nothing.
use Rattle.std.specs.Prelude.{ℕ}

abbrev pub control : ℕ
control = 0

abbrev pub single : ℕ
single = 1

abbrev pub first : ℕ
first = 2

abbrev pub consecutive : ℕ
consecutive = 3
