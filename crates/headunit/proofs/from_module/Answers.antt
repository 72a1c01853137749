-- `headunit::from_module` meets its contract.
-- Assumes nothing.
use native.Mathlib.Omega.{arith}
use Rattle.link.proofs.Replies.{rpc_listed}
use Rattle.headunit.proofs.from_module.Goals as goal

pub invariant_of-result : goal.invariant_of-result
invariant_of-result c = record { least = omega (arith, c.requires, c.min.ensures); most = omega (arith, c.min.ensures); listed = rpc_listed }
