-- `lines::pass_groups` meets its contract. The loop's invariant: the line ends where it did, seen from the place that is reached.
-- Assumes nothing.
use Prim.Native.Nat.{◌+◌, ◌≤◌, ◌-◌}
use mathlib.Core.Path.{◌≡◌}
use lib.ListN.{length, drop}
use Rattle.lines.specs.Newline.{line_length}
use Rattle.lines.proofs.pass_groups.Given as goal

abbrev pub invariant-loop-at : goal.invariant-loop-at
invariant-loop-at l = (l.from ≤ l.at) × ((l.at ≤ length l.text) × (l.at + line_length (drop l.at l.text) ≡ l.from + line_length (drop l.from l.text)))

abbrev pub decreases-loop-at : goal.decreases-loop-at
decreases-loop-at l = length l.text - l.at
