-- `lines::put_digits` meets its contract. The loop's invariant: the first 2 i characters lie over the front of the buffer.
-- Assumes nothing.
use Prim.Native.Nat.{◌*◌}
use mathlib.Core.Path.{◌≡◌}
use mathlib.Core.List.{◌++◌}
use lib.ListN.{take, drop}
use Rattle.lines.specs.Hex.{hex_of}
use Rattle.lines.proofs.put_digits.Given as goal

abbrev pub invariant-loop-i : goal.invariant-loop-i
invariant-loop-i l = l.out ≡ take (2 * l.i) (hex_of l.bytes) ++ drop (2 * l.i) l.initial.out
