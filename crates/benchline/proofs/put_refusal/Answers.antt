-- `benchline::put_refusal` meets its contract: the letter, a space and the number, each right behind the last; a byte has at most three digits.
-- Assumes nothing.
use Rattle.std.proofs.Common.{ℕ, List, [], ◌∷◌, ap, ◌∙◌, arith}
use Rattle.lines.specs.Decimal.{decimal_of}
use Rattle.lines.proofs.Digits.{width_some, width_most}
use Rattle.payload.proofs.Appends.{more, renamed}
use Rattle.benchline.specs.Line.{spaced, letter_r}
use Rattle.benchline.proofs.Texts.{spaced_some}
use Rattle.benchline.proofs.put_refusal.Goals as goal

pub put_decimal-requires : goal.put_decimal-requires
put_decimal-requires c = omega (arith, c.requires, c.put_byte-letter.ensures.ends, c.put_byte-space.ensures.ends, width_most 2 c.from.result (omega arith))

pub returns-clause-appended : goal.returns-clause-appended
returns-clause-appended c =
    let n = c.from.result in
    let same = ap (λ (k : ℕ). letter_r ∷ spaced (decimal_of k)) c.from.ensures in
    renamed (ap (λ (l : List ℕ). letter_r ∷ l) (spaced_some (decimal_of n) (width_some n)) ∙ same)
    (more (letter_r ∷ 32 ∷ []) (decimal_of n) (omega (arith, c.requires))
    (more (letter_r ∷ []) (32 ∷ []) (omega (arith, c.requires)) c.put_byte-letter.ensures c.put_byte-space.ensures) c.put_decimal.ensures)

pub returns-clause-upper_bound : goal.returns-clause-upper_bound
returns-clause-upper_bound c =
    omega (arith, c.put_byte-letter.ensures.ends, c.put_byte-space.ensures.ends, c.put_decimal.ensures.ends, width_most 2 c.from.result (omega arith))
