-- `blocks::scan` meets its contract. The loop's invariant: the block reached is the first one and those passed, and the block looked for is the same from it on
-- as from the first. Assumes nothing.
use Prim.Native.Nat.{◌+◌}
use mathlib.Core.Path.{◌≡◌}
use Rattle.blocks.specs.Map.{nth_from}
use Rattle.blocks.proofs.scan.Given as goal

abbrev pub invariant-loop-entry : goal.invariant-loop-entry
invariant-loop-entry l =
    (l.block.0 ≡ l.fn.from.0 + l.entry-index)
    × (nth_from l.owner l.block.0 l.left l.map ≡ nth_from l.owner l.fn.from.0 l.n l.map)
