-- `blocks::skip` meets its contract. The loop's invariant: the block looked for is the same from the block reached on as from the first.
-- Assumes nothing.
use Prim.Native.Nat.{◌+◌, ◌*◌}
use mathlib.Core.Path.{◌≡◌}
use Rattle.blocks.specs.Map.{nth_from}
use Rattle.blocks.proofs.skip.Given as goal

abbrev pub invariant-loop-group : goal.invariant-loop-group
invariant-loop-group g l = (l.from.0 ≡ l.initial.from.0 + l.group-index * g.row.SIZE) × (nth_from l.owner l.from.0 l.left l.map ≡ nth_from l.owner l.initial.from.0 l.n l.map)
