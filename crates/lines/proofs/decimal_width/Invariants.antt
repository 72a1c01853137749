-- `lines::decimal_width` meets its contract. The loop's invariant: the digits counted and those of what is left make those of n and the
-- count at the start, which is one, since the last digit is not counted in the loop.
-- Assumes nothing.
use Prim.Native.Nat.{◌+◌, ◌≤◌}
use mathlib.Core.Path.{◌≡◌}
use lib.ListN.{length}
use Rattle.lines.specs.Decimal.{decimal_of}
use Rattle.lines.proofs.decimal_width.Given as goal

abbrev pub invariant-loop-rest : goal.invariant-loop-rest
invariant-loop-rest l = (l.width + length (decimal_of l.rest) ≡ l.initial.width + length (decimal_of l.n)) × (l.width + l.rest ≤ l.initial.width + l.n)

abbrev pub decreases-loop-rest : goal.decreases-loop-rest
decreases-loop-rest l = l.rest
