-- `state::is_quiet` meets its contract.
-- Assumes nothing.
use native.Mathlib.Omega.{arith}
use Rattle.state.proofs.Rows.{quiet_is}
use Rattle.state.proofs.is_quiet.Goals as goal

pub returns : goal.returns
returns c = quiet_is c.args.row.now c.number.result c.number-2.result (omega (arith, c.told-row)) c.number.ensures c.number-2.ensures
