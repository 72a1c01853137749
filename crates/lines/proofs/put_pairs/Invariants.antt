-- `lines::put_pairs` meets its contract. The loop's invariant: the bytes of the first i pairs lie over the front of the buffer.
-- Assumes nothing.
use mathlib.Core.Path.{◌≡◌}
use mathlib.Core.List.{◌++◌, map}
use lib.ListN.{take, drop}
use Rattle.lines.specs.Hex.{pair_byte}
use Rattle.lines.proofs.put_pairs.Given as goal

abbrev pub invariant-loop-i : goal.invariant-loop-i
invariant-loop-i l = l.out ≡ take l.i (map pair_byte l.pairs) ++ drop l.i l.initial.out
