-- `sender::Outgoing::put` meets its contract: the data size of a header without fault has 32 bits.
-- Assumes nothing.
use native.Mathlib.Omega.{arith}
use lib.ListN.{length}
use Rattle.frame.proofs.Laws.{fault_none, size_most, largest_range}
use Rattle.sender.specs.Sender.{header_for}
use Rattle.sender.proofs.Outgoing.put.Goals as goal

pub overflow_cast-header : goal.overflow_cast-header
overflow_cast-header c =
    let a = c.args in
    let h = header_for a.self a.kind a.info (length a.payload.now) in
    omega (arith, size_most h.version h.kind h.size (fault_none h c.requires).size, largest_range h.version)
