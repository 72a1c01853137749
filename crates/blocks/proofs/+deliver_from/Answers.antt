-- `blocks::deliver_from` meets its contract: one block's share, and the rest from the block behind it on. The bytes still due fall.
-- Assumes nothing.
use mathlib.Core.Path.{refl}
use native.Mathlib.Omega.{arith}
use lib.ListN.{length}
use Rattle.blocks.proofs.Parts.{starts, ends}
use Rattle.blocks.proofs.Turns.{found_in, found_none}
use Rattle.blocks.proofs.Deliveries.{deliver_nothing, deliver-no-block, deliver-no-pool, deliver-more}
use Rattle.blocks.proofs.+deliver_from.Goals as goal

pub returns-then-due-eq0 : goal.returns-then-due-eq0
returns-then-due-eq0 t c =
    let a = c.args in
    deliver_nothing a.owner.0 a.from.0 a.at a.due a.map.now.now a.pool.now.now a.out.now (omega arith)

-- the rest went right behind this block's share
pub returns-then-starts_inside : goal.returns-then-starts_inside
returns-then-starts_inside t c =
    let a = c.args in
    let found = found_in _ a.map.now.now c.scan.ensures c.in-Some.is in
    let inside = starts c.in-Some.block.0 (length a.pool.now.now) c.starts_inside.ensures c.if-starts_inside.true in
    deliver-more a.owner.0 a.from.0 a.at a.due a.map.now.now a.pool.now.now a.out.now found.0 found.1 refl
    c.min-size.ensures c.min-n.ensures inside c.overwrite.ensures c.deliver_from.ensures

-- the block is not in the pool
pub returns-else-starts_inside : goal.returns-else-starts_inside
returns-else-starts_inside t c =
    let a = c.args in
    let found = found_in _ a.map.now.now c.scan.ensures c.in-Some.is in
    deliver-no-pool a.owner.0 a.from.0 a.at a.due a.map.now.now a.pool.now.now a.out.now found.0
    (ends c.in-Some.block.0 (length a.pool.now.now) c.starts_inside.ensures c.if-starts_inside.false)

-- there is no block
pub returns-in_default : goal.returns-in_default
returns-in_default t c =
    let a = c.args in
    deliver-no-block a.owner.0 a.from.0 a.at a.due a.map.now.now a.pool.now.now a.out.now refl (found_none _ a.map.now.now c.scan.ensures c.in_default.is)
