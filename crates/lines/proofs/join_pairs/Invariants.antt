-- `lines::join_pairs` meets its contract. The loop's invariant: the first i pairs of the text lie over the front of the array.
-- Assumes nothing.
use mathlib.Core.Path.{◌≡◌}
use mathlib.Core.List.{◌++◌}
use lib.ListN.{take, drop}
use Rattle.lines.specs.Hex.{pairs_of}
use Rattle.lines.proofs.join_pairs.Given as goal

abbrev pub invariant-loop-i : goal.invariant-loop-i
invariant-loop-i l = l.pairs ≡ take l.i (pairs_of l.text) ++ drop l.i l.initial.pairs
