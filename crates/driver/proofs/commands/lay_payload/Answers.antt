-- `driver::commands::lay_payload` meets its contract: the answer to a payload as a line.
-- Assumes nothing.
use Rattle.std.proofs.Common.{[], ◌∙◌}
use Rattle.driver.proofs.Spelling.{held, line_held}
use Rattle.driver.proofs.commands.lay_payload.Goals as goal

pub returns : goal.returns
returns c = c.lay_plain.ensures ∙ line_held (held c.read_payload.ensures) []
