-- `benchline::put_delivery` meets its contract: the letter and two parts, each right behind the last.
-- Assumes nothing.
use Rattle.std.proofs.Common.{[], ◌∷◌, arith}
use Rattle.lines.specs.Hex.{hex_of}
use Rattle.payload.proofs.Appends.{more}
use Rattle.benchline.specs.Line.{spaced, letter_d}
use Rattle.benchline.proofs.Texts.{spaced_service}
use Rattle.benchline.proofs.put_delivery.Goals as goal

pub put_part-named-requires : goal.put_part-named-requires
put_part-named-requires c = omega (arith, c.requires, c.put_byte-letter.ensures.ends)

pub put_part-requires : goal.put_part-requires
put_part-requires c = omega (arith, c.requires, c.put_byte-letter.ensures.ends, c.put_part-named.ensures.ends, spaced_service c.args.service.0)

pub returns : goal.returns
returns c = let s = spaced (hex_of (c.args.service.0 ∷ [])) in
    more (letter_d ∷ s) (spaced (hex_of c.args.bytes.now)) (omega (arith, c.requires, spaced_service c.args.service.0))
    (more (letter_d ∷ []) s (omega (arith, c.requires)) c.put_byte-letter.ensures c.put_part-named.ensures) c.put_part.ensures
