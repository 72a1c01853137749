-- `driver::commands::written_text` meets its contract, by the writer's two answers.
-- Assumes nothing.
use Rattle.std.proofs.Common.{ℕ, ◌∷◌, ap}
use Rattle.lines.specs.Decimal.{decimal_of}
use Rattle.text.proofs.Texts.{started, renamed}
use Rattle.driver.proofs.Spelling.{held_hex}
use Rattle.driver.proofs.commands.written_text.Goals as goal

pub returns-in-Ok : goal.returns-in-Ok
returns-in-Ok c =
    let check = renamed (ap (λ (n : ℕ). 32 ∷ decimal_of n) c.check.ensures.value) c.number.ensures in
    rw c.in-Ok.is (held_hex (started c.answer-text.ensures check) c.hex.ensures.longer)
