-- `driver::output::Line::write` meets its contract: what is written are the line's first characters.
-- Assumes nothing.
use Rattle.std.proofs.Common.{◌∙◌}
use Rattle.driver.proofs.output.Line.write.Goals as goal

pub returns-clause-all : goal.returns-clause-all
returns-clause-all g c =
    let line = c.front.ensures ∙ c.self.view_is in
    λ t. rw line at (c.write_all.ensures.all t)
