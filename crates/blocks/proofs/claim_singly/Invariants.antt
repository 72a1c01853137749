-- `blocks::claim_singly` meets its contract. The loop's invariant is `Claiming`; each search that finds a block is a turn, and each end is a law.
-- Assumes nothing.
use Prim.Native.Nat.{◌+◌, ◌-◌}
use mathlib.Core.List.{◌++◌}
use lib.ListN.{take, drop}
use Rattle.blocks.specs.Map.{claimed, looked_for}
use Rattle.blocks.proofs.Search.{Claiming}
use Rattle.blocks.proofs.claim_singly.Given as goal

abbrev pub invariant-loop : goal.invariant-loop
invariant-loop l =
    Claiming l.number (take l.fn.first.0 l.initial.map ++ claimed l.number l.count (drop l.fn.first.0 l.initial.map)) (l.fn.before + looked_for l.count (drop l.fn.first.0 l.initial.map))
    l.map (l.count - l.counter) l.looked l.from.0
