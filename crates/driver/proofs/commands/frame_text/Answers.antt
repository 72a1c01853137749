-- `driver::commands::frame_text` meets its contract: four pieces, then the bytes.
-- Assumes nothing.
use Rattle.text.proofs.Texts.{then, started}
use Rattle.driver.proofs.Spelling.{held_hex}
use Rattle.driver.proofs.commands.frame_text.Goals as goal

pub returns : goal.returns
returns c =
    let text = started (started c.empty.ensures c.byte.ensures) (then c.with_header-text.ensures c.number.ensures) in
    held_hex text c.hex.ensures.longer
