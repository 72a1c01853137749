-- `blocks::append` meets its contract: up to the block that is found nothing changes, and `fill` appends from there on; in the first block it appends from the start.
-- Assumes nothing.
use Rattle.blocks.specs.Map.{nth_block}
use Rattle.blocks.specs.Pool.{appended_from}
use Rattle.blocks.proofs.Appends.{from_found, none_found}
use Rattle.blocks.proofs.Turns.{found_in, found_none}
use Rattle.blocks.proofs.append.Goals as goal

pub returns-then-at-lt-BLOCK_SIZE : goal.returns-then-at-lt-BLOCK_SIZE
unfolding appended_from
returns-then-at-lt-BLOCK_SIZE c = c.fill.ensures

pub returns-in-Some : goal.returns-in-Some
unfolding nth_block
returns-in-Some c =
    let a = c.args in
    let found = found_in _ a.map.now c.nth_block.ensures c.in-Some.is in
    from_found a.owner.0 a.at a.payload.now a.map.now a.pool.now found.0 c.fill-in-Some.ensures

pub returns-in_default : goal.returns-in_default
unfolding nth_block
returns-in_default c =
    let a = c.args in
    none_found a.owner.0 a.at a.payload.now a.map.now a.pool.now (found_none _ a.map.now c.nth_block.ensures c.in_default.is)
