-- `driver::sessions::with_blocks` meets its contract. The loop's invariant: the numbers so far, with those of the blocks that are left, are all numbers.
-- Assumes nothing.
use Rattle.std.proofs.Common.{drop}
use Rattle.driver.specs.States.{blocks_from, blocks_text}
use Rattle.driver.proofs.States.{Listing}
use Rattle.driver.proofs.sessions.with_blocks.Given as goal

abbrev pub invariant-loop-block : goal.invariant-loop-block
invariant-loop-block l = Listing l.initial.after (blocks_from l.owner l.block (drop l.block l.owners)) (blocks_text l.owner l.owners) l.after
