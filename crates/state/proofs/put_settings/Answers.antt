-- `state::put_settings` meets its contract.
-- Assumes nothing.
use native.Mathlib.Omega.{arith}
use Rattle.state.proofs.Creation.{settings_put}
use Rattle.state.proofs.put_settings.Goals as goal

pub returns : goal.returns
returns c = settings_put c.args.version c.args.mtu c.args.state.now _ (omega (arith, c.told-state)) c.put.ensures
