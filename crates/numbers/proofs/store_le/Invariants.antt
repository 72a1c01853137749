-- `numbers::store_le` meets its contract: the bytes that stand, and those of what is left behind them, are the number's.
-- Assumes nothing.
use mathlib.Core.Path.{◌≡◌}
use mathlib.Core.List.{◌++◌}
use Prim.Native.Nat.{◌-◌}
use lib.ListN.{length, take}
use Rattle.numbers.specs.Numbers.{bytes_le}
use Rattle.numbers.proofs.store_le.Given as goal

abbrev pub invariant-loop-byte : goal.invariant-loop-byte
invariant-loop-byte l = take l.byte-index l.byte-items ++ bytes_le (length l.fn.out - l.byte-index) l.rest ≡ bytes_le (length l.fn.out) l.x
