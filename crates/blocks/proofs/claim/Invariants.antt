-- `blocks::claim` meets its contract. The loop's invariant is `Claiming`; a turn is `claiming_part`, and what is left is `claim_singly`'s.
-- Assumes nothing.
use Prim.Native.Nat.{◌-◌}
use mathlib.Core.Path.{◌≡◌}
use lib.ListN.{length}
use Rattle.blocks.specs.Map.{claimed, looked_for}
use Rattle.blocks.proofs.Search.{Claiming}
use Rattle.blocks.proofs.claim.Given as goal

abbrev pub invariant-loop-start : goal.invariant-loop-start
invariant-loop-start l =
    (length l.map ≡ length l.initial.map) × Claiming l.number (claimed l.number l.count l.initial.map) (looked_for l.count l.initial.map) l.map l.wanted l.looked l.from.0

abbrev pub decreases-loop-start : goal.decreases-loop-start
decreases-loop-start l = length l.initial.map - l.from.0
