-- `driver::sessions::with_counts` meets its contract: five numbers and a character.
-- Assumes nothing.
use Rattle.text.proofs.Texts.{then}
use Rattle.driver.proofs.Spelling.{alone}
use Rattle.driver.proofs.sessions.with_counts.Goals as goal

pub returns : goal.returns
returns c =
    then
    (then c.number-after.ensures
    (then c.number-after-2.ensures
    (then c.number-after-3.ensures
    (then c.number-after-4.ensures (alone c.number-after-5.ensures)))))
    c.byte.ensures
