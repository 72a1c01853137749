-- `blocks::release` meets its contract. The loop's invariant: the entries passed, and the release of the entries left, are the whole release.
-- Assumes nothing.
use mathlib.Core.Path.{◌≡◌}
use mathlib.Core.List.{◌++◌}
use lib.ListN.{take, drop}
use Rattle.blocks.specs.Map.{released}
use Rattle.blocks.proofs.release.Given as goal

abbrev pub invariant-loop-entry : goal.invariant-loop-entry
invariant-loop-entry l =
    take l.entry-index l.entry-items ++ released l.low.0 l.high.0 (drop l.entry-index l.entry-items) ≡ released l.low.0 l.high.0 l.fn.map
