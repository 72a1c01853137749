-- `numbers::store_le` meets its contract: the bytes that stand, and those of what is left behind them, are the number's.
-- Assumes nothing.
use native.Mathlib.Omega.{arith}
use Rattle.numbers.proofs.Turns.{written_more, written_all}
use Rattle.numbers.proofs.store_le.Goals as goal

pub loop-byte-preserved : goal.loop-byte-preserved
loop-byte-preserved c = let l = c.loop-byte in written_more l.byte-items _ l.byte-index c.args.x l.rest (omega arith) l.auto.byte-items l.invariant

pub returns : goal.returns
returns c = let l = c.loop-byte in written_all l.byte-items _ l.byte-index c.args.x l.rest (omega arith) l.auto.byte-items l.invariant
