-- `state::row_at` meets its contract.
-- Assumes nothing.
use mathlib.Core.Path.{ap, ◌∙◌}
use Rattle.state.specs.Layout.{row_of}
use Rattle.state.proofs.row_at.Goals as goal

pub returns : goal.returns
returns c = c.read_row.ensures ∙ ap row_of c.row_bytes.ensures
