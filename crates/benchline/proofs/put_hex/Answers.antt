-- `benchline::put_hex` meets its contract: the digits go to the front of what is left of the buffer, which has room for them.
-- Assumes nothing.
use Rattle.std.proofs.Common.{refl, arith}
use Rattle.lines.specs.Hex.{hex_of}
use Rattle.lines.proofs.Characters.{length_hex}
use Rattle.payload.proofs.Writers.{rest_count, rest_put}
use Rattle.benchline.proofs.Texts.{rest_some}
use Rattle.benchline.proofs.put_hex.Goals as goal

pub unwrap-requires : goal.unwrap-requires
unwrap-requires c =
    rest_some (hex_of c.args.bytes.now) c.args.text.now c.args.at (omega (arith, length_hex c.args.bytes.now, c.requires)) c.bytes_to_hex.ensures

pub overflow_add-result : goal.overflow_add-result
overflow_add-result c =
    let l = length_hex c.args.bytes.now in
    let count = rest_count (hex_of c.args.bytes.now) c.args.text.now c.args.at (omega (arith, l, c.requires)) c.bytes_to_hex.ensures c.unwrap.ensures in
    omega (arith, c.requires, l, count)

pub returns : goal.returns
returns c =
    rest_put (hex_of c.args.bytes.now) c.args.text.now c.args.at (omega (arith, length_hex c.args.bytes.now, c.requires)) c.bytes_to_hex.ensures c.unwrap.ensures refl
