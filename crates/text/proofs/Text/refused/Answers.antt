-- `text::Text::refused` meets its contract: two pieces behind an empty text.
-- Assumes nothing.
use Rattle.text.proofs.Texts.{started}
use Rattle.text.proofs.Text.refused.Goals as goal

pub returns : goal.returns
returns c = started (started c.empty.ensures c.byte.ensures) c.number.ensures
