-- `state::put_services` meets its contract.
-- Assumes nothing.
use Rattle.state.proofs.Rows.{services_fit}
use Rattle.state.proofs.put_services.Goals as goal

pub returns : goal.returns
returns c = (rw (c.put_numbers.ensures.0, c.put-2.ensures, c.put.ensures, c.flag_byte.ensures.0, c.flag_byte-2.ensures.0), services_fit c.args.old c.args.value c.flag_byte.ensures.1 c.flag_byte-2.ensures.1 c.put_numbers.ensures.1)
