-- `driver::sessions::with_service` meets its contract: three pieces.
-- Assumes nothing.
use Rattle.text.proofs.Texts.{then}
use Rattle.driver.proofs.sessions.with_service.Goals as goal

pub returns : goal.returns
returns c = then c.byte.ensures (then c.pair.ensures c.number.ensures)
