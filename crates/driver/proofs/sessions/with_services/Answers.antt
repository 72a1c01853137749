-- `driver::sessions::with_services` meets its contract: three pieces.
-- Assumes nothing.
use Rattle.text.proofs.Texts.{then}
use Rattle.driver.proofs.sessions.with_services.Goals as goal

pub returns : goal.returns
returns c = then c.with_service-rpc.ensures (then c.with_running-audio.ensures c.with_running.ensures)
