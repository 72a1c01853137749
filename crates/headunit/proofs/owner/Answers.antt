-- `headunit::owner` meets its contract.
-- Assumes nothing.
use native.Mathlib.Omega.{arith}
use Rattle.link.specs.State.{owner_of}
use Rattle.headunit.proofs.owner.Goals as goal

pub returns : goal.returns
unfolding owner_of
returns c = omega (arith, c.args.i.below)
