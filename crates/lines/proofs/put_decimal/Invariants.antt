-- `lines::put_decimal` meets its contract. The loop's invariant: the characters after i are written, and those up to i are the digits of what is left of n.
-- Assumes nothing.
use Prim.Native.Nat.{◌+◌, ◌<◌}
use mathlib.Core.Path.{◌≡◌}
use mathlib.Core.List.{◌++◌}
use lib.ListN.{length, take, drop}
use Rattle.numbers.specs.Bytes.{laid}
use Rattle.lines.specs.Decimal.{decimal_of}
use Rattle.lines.proofs.put_decimal.Given as goal

abbrev pub invariant-loop-rest : goal.invariant-loop-rest
invariant-loop-rest l = (l.i < l.width) × (take (l.i + 1) (decimal_of l.n) ≡ decimal_of l.rest) × (length l.out ≡ length l.initial.out)
    × (l.out ≡ take (l.i + 1) l.initial.out ++ drop (l.i + 1) (laid (decimal_of l.n) l.initial.out))

abbrev pub decreases-loop-rest : goal.decreases-loop-rest
decreases-loop-rest l = l.rest
