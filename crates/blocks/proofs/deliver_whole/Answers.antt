-- `blocks::deliver_whole` meets its contract: from the first block on, to out's front, no more than out has room for.
-- Assumes nothing.
use Rattle.blocks.proofs.Deliveries.{deliver_whole}
use Rattle.blocks.proofs.deliver_whole.Goals as goal

pub returns : goal.returns
returns c =
    let a = c.args in
    deliver_whole a.owner.0 a.due a.map.now a.pool.now a.out c.min-most.ensures c.deliver_from.ensures
