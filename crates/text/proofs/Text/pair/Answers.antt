-- `text::Text::pair` meets its contract: the digits of one byte are two.
-- Assumes nothing.
use Rattle.lines.specs.Hex.{hex_of}
use Rattle.text.proofs.Text.pair.Goals as goal

pub returns : goal.returns
unfolding hex_of
returns c = c.digits.ensures
