-- `blocks::held` meets its contract. The loop's invariant: what was counted and what is left to count make the whole count.
-- Assumes nothing.
use Prim.Native.Nat.{◌+◌, ◌*◌}
use mathlib.Core.Path.{◌≡◌}
use lib.ListN.{drop}
use Rattle.blocks.specs.Map.{held_by}
use Rattle.blocks.proofs.held.Given as goal

abbrev pub invariant-loop-group : goal.invariant-loop-group
invariant-loop-group l = l.count + held_by l.owner.0 (drop (l.group-index * 64) l.map) ≡ held_by l.owner.0 l.map
