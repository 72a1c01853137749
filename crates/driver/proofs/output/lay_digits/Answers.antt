-- `driver::output::lay_digits` meets its contract: the digits go to the front of what is left of the buffer, which has room for them.
-- Assumes nothing.
use Rattle.std.proofs.Common.{refl, arith}
use Rattle.lines.specs.Hex.{hex_of}
use Rattle.lines.proofs.Characters.{length_hex}
use Rattle.payload.proofs.Writers.{rest_count, rest_full, rest_put}
use Rattle.driver.proofs.output.lay_digits.Goals as goal

pub overflow_add-result : goal.overflow_add-result
overflow_add-result c =
    let s = c.args.bytes.now in
    let o = c.args.line.now in
    let at = c.args.at in
    omega (arith, c.requires, length_hex s, rest_count (hex_of s) o at (omega (arith, length_hex s, c.requires)) c.bytes_to_hex.ensures c.in-Some.is)

pub returns-in-Some : goal.returns-in-Some
returns-in-Some c =
    let s = c.args.bytes.now in
    let o = c.args.line.now in
    let at = c.args.at in
    rest_put (hex_of s) o at (omega (arith, length_hex s, c.requires)) c.bytes_to_hex.ensures c.in-Some.is refl

pub returns-in-None : goal.returns-in-None
returns-in-None c =
    let s = c.args.bytes.now in
    let o = c.args.line.now in
    let at = c.args.at in
    absurd (rest_full (hex_of s) o at (omega (arith, length_hex s, c.requires)) c.bytes_to_hex.ensures c.in-None.is)
