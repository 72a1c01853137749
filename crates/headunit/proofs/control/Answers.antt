-- `headunit::control` meets its contract.
-- Assumes nothing.
use mathlib.Core.Path.{◌≡◌, ap, ◌∙◌}
use native.Mathlib.Omega.{arith}
use Rattle.session.specs.declared.Row.{Row}
use Rattle.session.specs.declared.Said.{Said}
use Rattle.session.specs.Decide.{control_of}
use Rattle.link.specs.Call.{said_of}
use Rattle.headunit.proofs.Parts.{control_else}
use Rattle.headunit.proofs.control.Goals as goal

pub returns-in-1 : goal.returns-in-1
returns-in-1 c = let a = c.args in
    c.control.ensures ∙ ap (λ (x : Said). control_of c.row_at-row.result a.header x) c.said.ensures
    ∙ ap (λ (x : Row). control_of x a.header (said_of x a.payload.now)) c.row_at-row.ensures

pub returns-in_default : goal.returns-in_default
returns-in_default c = let a = c.args in
    let start : a.header.info ≡ 1 → ⊥ = λ z. grind arith in
    let end : a.header.info ≡ 4 → ⊥ = λ z. grind arith in
    c.control-in_default.ensures ∙ control_else c.row_at-row.result a.header _ (said_of c.row_at-row.result a.payload.now) start end
    ∙ ap (λ (x : Row). control_of x a.header (said_of x a.payload.now)) c.row_at-row.ensures
