-- `driver::sessions::with_message` meets its contract, by whether the message is open.
-- Assumes nothing.
use Rattle.text.proofs.Texts.{then}
use Rattle.driver.proofs.States.{chosen}
use Rattle.driver.proofs.sessions.with_message.Goals as goal

pub returns-then-message : goal.returns-then-message
returns-then-message c = chosen _ c.if-message.true (then c.joint.ensures (then c.pair-listed.ensures (then c.with_counts.ensures c.with_blocks.ensures)))
