-- `headunit::first` meets its contract.
-- Assumes nothing.
use mathlib.Core.Path.{ap, ◌∙◌}
use Rattle.session.specs.declared.Row.{Row}
use Rattle.session.specs.Decide.{first_of}
use Rattle.headunit.proofs.first.Goals as goal

pub returns : goal.returns
returns c = let a = c.args in
    c.first.ensures ∙ ap (λ (x : Row). first_of x c.others.result a.header c.be4-total.result c.be4-count.result) c.row_at-row.ensures
    ∙ rw (c.others.ensures, c.be4-total.ensures, c.be4-count.ensures, c.row_at-row.ensures)
