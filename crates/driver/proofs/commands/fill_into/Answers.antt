-- `driver::commands::fill_into` meets its contract: the line that the text makes.
-- Assumes nothing.
use Rattle.std.proofs.Common.{ℕ, List, ap, ◌∙◌}
use Rattle.driver.specs.Spelling.{line_of}
use Rattle.driver.specs.Answers.{filled_of}
use Rattle.driver.proofs.Spelling.{line_held}
use Rattle.driver.proofs.commands.fill_into.Goals as goal

pub returns : goal.returns
returns c =
    let a = c.args in
    let q = c.filled_text-text.ensures in
    let l = (filled_of a.command a.input.now a.out.now).line in
    c.lay.ensures ∙ line_held q.holds _ ∙ ap (λ (o : List ℕ). line_of l o) q.out_after
