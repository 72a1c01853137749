-- `driver::commands::read_payload` meets its contract, by the reader's two answers.
-- Assumes nothing.
use Rattle.text.proofs.Texts.{started}
use Rattle.driver.proofs.commands.read_payload.Goals as goal

pub returns-in-Ok : goal.returns-in-Ok
returns-in-Ok c = rw (← c.read.ensures, c.in-Ok.is) (started c.version_text.ensures c.with_tags.ensures)
