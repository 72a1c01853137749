-- `benchline::put_not_taken` meets its contract: the number, the letter and the newline, each right behind the last.
-- Assumes nothing.
use Rattle.std.proofs.Common.{[], ◌∷◌, refl, arith}
use Rattle.benchline.specs.Line.{letter_x}
use Rattle.benchline.proofs.Texts.{text_put}
use Rattle.benchline.proofs.put_not_taken.Goals as goal

pub returns : goal.returns
returns c =
    let start = c.put_number-start.ensures in
    let end = c.put_byte-end.ensures in
    text_put c.args.number (letter_x ∷ []) c.args.text.now (omega (arith, c.requires, start.upper_bound, end.ends)) refl start.appended end c.put_byte.ensures
