-- `text::Text::decimal` meets its contract: a number of 64 bits has at most 20 digits, so its writer has room.
-- Assumes nothing.
use mathlib.Core.Path.{refl, ap, ◌∙◌}
use native.Mathlib.Omega.{arith}
use lib.ListN.{replicate}
use Rattle.lines.specs.Decimal.{decimal_of}
use Rattle.text.proofs.Texts.{decimal_piece, renamed}
use Rattle.text.proofs.Text.decimal.Goals as goal

pub returns : goal.returns
returns g c =
    let n = c.wide.result in
    let e = decimal_piece (decimal_of n) (replicate 20 0) c.number_to_decimal.ensures c.unwrap_or-count.ensures n (omega arith) refl refl in
    renamed (c.front.ensures ∙ e ∙ ap decimal_of c.wide.ensures) c.put.ensures
