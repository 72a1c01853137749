-- `lines::digit` meets its contract: in each range of digits the arithmetic gives the digit's value.
-- Assumes nothing.
use native.Mathlib.Omega.{arith}
use Rattle.lines.proofs.Characters.{digit_says}
use Rattle.lines.proofs.digit.Goals as goal

pub returns : goal.returns
returns c = digit_says c.args.b c.requires (λ l h. omega arith) (λ l h. omega arith) (λ l h. omega arith)
