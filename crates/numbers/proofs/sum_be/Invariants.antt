-- `numbers::sum_be` meets its contract: the bytes passed are the number so far, one byte more at the back in each turn.
-- Assumes nothing.
use lib.ListN.{take}
use Rattle.numbers.specs.Numbers.{value_be, Fits}
use Rattle.numbers.proofs.sum_be.Given as goal

abbrev pub invariant-loop-byte : goal.invariant-loop-byte
invariant-loop-byte l = Fits l.byte-index (value_be (take l.byte-index l.bytes)) l.sum
