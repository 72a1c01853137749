-- `driver::calls::fill_pool` meets its contract. The loop's invariant: what is filled, followed by what is to come, is the new pool.
-- Assumes nothing.
use Rattle.std.proofs.Common.{length, sym, ◌∙◌, arith}
use Rattle.driver.proofs.Turns.{pool_turn, pool_end}
use Rattle.driver.proofs.calls.fill_pool.Goals as goal

pub loop-byte-preserved : goal.loop-byte-preserved
loop-byte-preserved c =
    let l = c.loop-byte in
    pool_turn l.pool l.next l.byte-index (length c.args.pool.now) l.auto.pool (omega arith) ∙ l.invariant

pub returns : goal.returns
returns c =
    let l = c.loop-byte in
    sym (pool_end l.pool l.next l.byte-index (length c.args.pool.now) l.auto.pool (omega arith)) ∙ l.invariant
