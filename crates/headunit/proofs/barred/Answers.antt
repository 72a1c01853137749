-- `headunit::barred` meets its contract.
-- Assumes nothing.
use mathlib.Core.Path.{ap, ◌∙◌}
use Rattle.session.specs.declared.Row.{Row}
use Rattle.session.specs.Rules.{barred_by}
use Rattle.headunit.proofs.barred.Goals as goal

pub returns-clause-lowest : goal.returns-clause-lowest
returns-clause-lowest c = c.barred_by.ensures.lowest ∙ ap (λ (x : Row). barred_by c.major.result c.mtu.result x c.args.header) c.row_at-row.ensures
    ∙ rw (c.major.ensures, c.mtu.ensures)
