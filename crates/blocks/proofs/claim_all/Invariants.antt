-- `blocks::claim_all` meets its contract. The loop's invariant is `TakingAll`. Assumes nothing.
use Rattle.blocks.proofs.Search.{TakingAll}
use Rattle.blocks.proofs.claim_all.Given as goal

abbrev pub invariant-loop-entry : goal.invariant-loop-entry
invariant-loop-entry l = TakingAll l.number l.fn.entries l.entry-items l.count l.entry-index
