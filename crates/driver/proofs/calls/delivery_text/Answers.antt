-- `driver::calls::delivery_text` meets its contract: a letter and a number, the service, and bytes behind them.
-- Assumes nothing.
use Rattle.text.proofs.Texts.{started, then}
use Rattle.driver.proofs.Spelling.{held_hex}
use Rattle.driver.proofs.calls.delivery_text.Goals as goal

pub returns : goal.returns
returns c = held_hex (started c.answer.ensures (then c.byte.ensures c.pair.ensures)) c.hex.ensures.longer
