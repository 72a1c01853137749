-- `driver::commands::with_header` meets its contract: eight numbers.
-- Assumes nothing.
use Rattle.std.proofs.Common.{ℕ, ◌∷◌, ap, ◌∙◌}
use Rattle.lines.specs.Decimal.{decimal_of}
use Rattle.text.proofs.Texts.{then, renamed}
use Rattle.driver.proofs.Spelling.{alone}
use Rattle.numbers.proofs.Choices.{bit_is}
use Rattle.driver.proofs.commands.with_header.Goals as goal

pub returns : goal.returns
returns c =
    let flag = renamed (ap (λ (n : ℕ). 32 ∷ decimal_of n) (c.from.ensures ∙ bit_is c.args.header.flag)) c.number-after-2.ensures in
    then c.number-after.ensures
    (then flag
    (then c.number-after-3.ensures
    (then c.number-after-4.ensures
    (then c.number-after-5.ensures
    (then c.number-after-6.ensures
    (then c.number-after-7.ensures
    (alone c.number.ensures)))))))
