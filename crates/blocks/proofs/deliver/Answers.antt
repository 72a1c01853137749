-- `blocks::deliver` meets its contract: out is back at what the result of `deliver_whole` showed last, since that is the same reference.
-- Assumes nothing.
use borrow.Author.Rules.{rules}
use Rattle.blocks.proofs.Deliveries.{came_back}
use Rattle.blocks.proofs.deliver.Goals as goal

pub returns : goal.returns
returns c = came_back c.deliver_whole.ensures (search rules)
