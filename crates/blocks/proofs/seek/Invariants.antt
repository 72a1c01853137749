-- `blocks::seek` meets its contract. The loop's invariant: the block looked at last is the first one and those passed, what was looked at and what will be are the
-- whole count, and the next free block is the same from the one behind it on as from the first. Assumes nothing.
use Prim.Native.Nat.{◌+◌, ◌≤◌}
use mathlib.Core.Path.{◌≡◌}
use lib.ListN.{drop}
use Rattle.blocks.specs.Map.{free, looked_for, nth_from}
use Rattle.blocks.proofs.seek.Given as goal

abbrev pub invariant-loop-entry : goal.invariant-loop-entry
invariant-loop-entry l =
    (l.at.0 ≡ l.initial.at.0 + l.entry-index)
    × (l.looked ≤ l.at.0 + 1)
    × (l.looked + looked_for 1 (drop (l.at.0 + 1) l.map) ≡ l.fn.before + looked_for 1 (drop l.fn.first.0 l.map))
    × (nth_from free (l.at.0 + 1) 0 l.map ≡ nth_from free l.fn.first.0 0 l.map)
