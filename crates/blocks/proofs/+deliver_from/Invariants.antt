-- `blocks::deliver_from` meets its contract: one block's share, and the rest from the block behind it on. The bytes still due fall.
-- Assumes nothing.
use Rattle.blocks.proofs.+deliver_from.Given as goal

abbrev pub decreases-deliver_from : goal.decreases-deliver_from
decreases-deliver_from l = l.due
