-- `numbers::sum_le` meets its contract: the bytes passed, from the back, are the number so far, one byte more at the front in each turn.
-- Assumes nothing.
use Rattle.numbers.proofs.Turns.{Behind}
use Rattle.numbers.proofs.sum_le.Given as goal

abbrev pub invariant-loop-byte : goal.invariant-loop-byte
invariant-loop-byte l = Behind l.bytes l.byte-iterator.iter.rest.now l.sum
