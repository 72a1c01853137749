-- `lines::value` meets its contract. The loop's invariant: v, followed by what is left of the text, says what the whole text says.
-- Assumes nothing.
use Prim.Native.Nat.{◌^◌, ◌<◌}
use mathlib.Core.Path.{◌≡◌}
use lib.ListN.{drop}
use Rattle.lines.specs.Decimal.{value_from}
use Rattle.lines.proofs.value.Given as goal

abbrev pub invariant-loop-b : goal.invariant-loop-b
invariant-loop-b l = (l.v < 2 ^ 64) × (value_from l.v (drop l.b-index l.text) ≡ value_from 0 l.text)
