-- `driver::sessions::with_numbers` meets its contract: five numbers.
-- Assumes nothing.
use Rattle.text.proofs.Texts.{then}
use Rattle.driver.proofs.Spelling.{alone}
use Rattle.driver.proofs.sessions.with_numbers.Goals as goal

pub returns : goal.returns
returns c =
    then c.decimal-after.ensures (then c.number-after.ensures (then c.number-after-2.ensures (then c.number-after-3.ensures (alone c.number.ensures))))
