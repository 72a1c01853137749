-- `driver::calls::reply_text` meets its contract: bytes behind a letter and a number.
-- Assumes nothing.
use Rattle.driver.proofs.Spelling.{held_hex}
use Rattle.driver.proofs.calls.reply_text.Goals as goal

pub returns : goal.returns
returns c = held_hex c.answer.ensures c.hex.ensures.longer
