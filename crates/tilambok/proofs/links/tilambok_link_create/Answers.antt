-- `tilambok::links::tilambok_link_create` meets its contract. What `headunit::create` ensures; the version is the caller's three numbers, in their order.
-- Assumes nothing.
use mathlib.Core.Path.{ap, sym, ◌∙◌}
use native.Mathlib.Omega.{arith}
use Rattle.figures.specs.Refusal.{refusal_in}
use Rattle.tilambok.proofs.LinkResults.{as_created}
use Rattle.tilambok.proofs.links.tilambok_link_create.Goals as goal

pub returns-in-Ok : goal.returns-in-Ok
returns-in-Ok c =
    let a = c.args in
    as_created a.state.now a.major a.minor a.patch a.mtu _ (ap refusal_in (sym c.in-Ok.is)) c.create.ensures.created
    (omega arith) (omega arith) (omega arith)

pub returns-in-Err : goal.returns-in-Err
returns-in-Err c =
    let a = c.args in
    as_created a.state.now a.major a.minor a.patch a.mtu _ (c.refused.ensures ∙ ap refusal_in (sym c.in-Err.is)) c.create.ensures.created
    (omega arith) (omega arith) (omega arith)
