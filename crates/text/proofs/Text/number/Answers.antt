-- `text::Text::number` meets its contract: two pieces, one behind the other.
-- Assumes nothing.
use Rattle.text.proofs.Texts.{then}
use Rattle.text.proofs.Text.number.Goals as goal

pub returns : goal.returns
returns g c = then c.byte.ensures c.decimal.ensures
