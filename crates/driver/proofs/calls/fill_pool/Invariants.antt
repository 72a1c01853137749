-- `driver::calls::fill_pool` meets its contract. The loop's invariant: what is filled, followed by what is to come, is the new pool.
-- Assumes nothing.
use Rattle.std.proofs.Common.{◌≡◌, ◌-◌, ◌++◌, length, take}
use Rattle.driver.specs.Turns.{pool_from, new_pool}
use Rattle.driver.proofs.calls.fill_pool.Given as goal

abbrev pub invariant-loop-byte : goal.invariant-loop-byte
invariant-loop-byte l = take l.byte-index l.pool ++ pool_from l.next (length l.initial.pool - l.byte-index) ≡ new_pool l.initial.pool
