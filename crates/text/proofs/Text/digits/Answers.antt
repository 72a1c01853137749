-- `text::Text::digits` meets its contract: the digits, where their writer has room, else nothing.
-- Assumes nothing.
use Prim.Native.Nat.{ℕ}
use mathlib.Core.Path.{◌∙◌}
use lib.ListN.{replicate, length-replicate}
use Rattle.lines.specs.Hex.{hex_of}
use Rattle.text.proofs.Texts.{piece, renamed}
use Rattle.text.proofs.Text.digits.Goals as goal

pub returns : goal.returns
returns c =
    let s = c.args.bytes.now in
    let e = piece (hex_of s) (replicate 2048 0) c.bytes_to_hex.ensures c.unwrap_or-count.ensures 2048 (length-replicate {A = ℕ} 2048 0) in
    renamed (c.front.ensures ∙ e) c.put.ensures
