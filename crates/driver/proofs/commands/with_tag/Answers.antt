-- `driver::commands::with_tag` meets its contract, by whether the tag is there.
-- Assumes nothing.
use Rattle.text.proofs.Texts.{then}
use Rattle.driver.proofs.commands.with_tag.Goals as goal

pub returns-in-Some : goal.returns-in-Some
returns-in-Some c = rw c.in-Some.is (then c.put-named.ensures c.decimal.ensures)

pub returns-in-None : goal.returns-in-None
returns-in-None c = rw c.in-None.is (then c.put-named.ensures c.byte.ensures)
