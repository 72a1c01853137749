-- `benchline::put_reply` meets its contract: the letter, and the part right behind it.
-- Assumes nothing.
use Rattle.std.proofs.Common.{[], ◌∷◌, arith}
use Rattle.lines.specs.Hex.{hex_of}
use Rattle.payload.proofs.Appends.{more}
use Rattle.benchline.specs.Line.{spaced, letter_w}
use Rattle.benchline.proofs.put_reply.Goals as goal

pub returns : goal.returns
returns c = more (letter_w ∷ []) (spaced (hex_of c.args.bytes.now)) (omega (arith, c.requires)) c.put_byte-letter.ensures c.put_part.ensures
