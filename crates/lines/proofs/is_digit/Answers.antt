-- `lines::is_digit` meets its contract: a digit has a value below 16 where it lies in one of the three ranges (hex_ranges).
-- Assumes nothing.
use mathlib.Core.Path.{◌∙◌}
use Rattle.lines.proofs.Characters.{hex_ranges}
use Rattle.lines.proofs.is_digit.Goals as goal

pub returns : goal.returns
returns c = c.is_ascii_hexdigit.ensures.value ∙ hex_ranges c.args.b
