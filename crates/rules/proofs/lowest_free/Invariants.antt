-- The numbers from one on to 255 are left to try. Assumes nothing.
use mathlib.Core.Path.{◌≡◌}
use Prim.Native.Nat.{◌-◌}
use Rattle.rules.specs.Parts.{lowest_unused}
use Rattle.rules.proofs.lowest_free.Given as goal

abbrev pub invariant-loop-number : goal.invariant-loop-number
invariant-loop-number l = lowest_unused (256 - l.number) l.number l.ids ≡ lowest_unused 255 1 l.ids
