-- `text::check` meets its contract. The loop's invariant: the sum, followed by what is left of the buffer, checks as the whole buffer does; it stays
-- below 2^32, so the next product and sum fit 64 bits.
-- Assumes nothing.
use Prim.Native.Nat.{◌<◌}
use mathlib.Core.Path.{◌≡◌}
use lib.ListN.{drop}
use Rattle.text.specs.Pieces.{check_from, check_of}
use Rattle.text.proofs.check.Given as goal

abbrev pub invariant-loop-b : goal.invariant-loop-b
invariant-loop-b l = (l.sum < 4294967296) × (check_from l.sum (drop l.b-index l.buffer) ≡ check_of l.buffer)
