-- `lines::index_of` meets its contract: the definition is the library's search, and where that finds none, the length.
-- Assumes nothing.
use mathlib.Core.Path.{◌∙◌}
use Rattle.lines.proofs.Places.{first_place}
use Rattle.lines.proofs.index_of.Goals as goal

pub returns : goal.returns
returns c = rw c.place_of.ensures at c.unwrap_or.ensures ∙ first_place c.args.byte c.args.bytes.now
