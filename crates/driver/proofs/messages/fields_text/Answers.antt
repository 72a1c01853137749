-- `driver::messages::fields_text` meets its contract: a letter and four numbers.
-- Assumes nothing.
use Rattle.text.proofs.Texts.{then, started}
use Rattle.driver.proofs.Spelling.{alone}
use Rattle.driver.proofs.messages.fields_text.Goals as goal

pub returns : goal.returns
returns c =
    let letter = started c.empty.ensures c.byte.ensures in
    started letter (then c.number-text.ensures (then c.number.ensures (then c.number-2.ensures (alone c.number-3.ensures))))
