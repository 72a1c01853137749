-- `blocks::count_group` meets its contract. The loop's invariant: what was counted and what is left to count make the whole count.
-- Assumes nothing.
use Prim.Native.Nat.{◌+◌}
use mathlib.Core.Path.{◌≡◌}
use lib.ListN.{drop}
use Rattle.blocks.specs.Map.{held_by}
use Rattle.blocks.proofs.count_group.Given as goal

abbrev pub invariant-loop-entry : goal.invariant-loop-entry
invariant-loop-entry l = l.count + held_by l.owner (drop l.entry-index l.entries) ≡ held_by l.owner l.entries
