-- `blocks::fill` meets its contract. The loop's invariant is `Filling`; each of its ends is a law.
-- Assumes nothing.
use lib.ListN.{length}
use Rattle.blocks.proofs.Appends.{Filling}
use Rattle.blocks.proofs.fill.Given as goal

abbrev pub invariant-loop-rest : goal.invariant-loop-rest
invariant-loop-rest l = Filling l.owner l.initial.from.0 l.at l.payload l.map l.initial.pool l.pool l.from.0 l.place l.rest

abbrev pub decreases-loop-rest : goal.decreases-loop-rest
decreases-loop-rest l = length l.rest
