-- `lines::put_bytes` meets its contract. The loop's invariant: the first bytes of the text, as many as are done, lie over the front of the buffer.
-- Assumes nothing.
use Prim.Native.Nat.{◌≤◌, ◌-◌}
use mathlib.Core.Path.{◌≡◌}
use mathlib.Core.List.{◌++◌}
use lib.ListN.{take, drop}
use Rattle.lines.specs.Hex.{bytes_of}
use Rattle.lines.proofs.put_bytes.Given as goal

abbrev pub invariant-loop-done : goal.invariant-loop-done
invariant-loop-done l = (l.done ≤ l.count) × (l.out ≡ take l.done (bytes_of l.text) ++ drop l.done l.initial.out)

abbrev pub decreases-loop-done : goal.decreases-loop-done
decreases-loop-done l = l.count - l.done
