-- `headunit::within` meets its contract.
-- Assumes nothing.
use mathlib.Core.Path.{sym, subst}
use lib.ListN.{length, get_or}
use native.Mathlib.Omega.{arith}
use Rattle.session.specs.Rows.{no_row, message_at}
use Rattle.session.specs.Decide.{place_of}
use Rattle.state.specs.Layout.{link_of}
use Rattle.headunit.specs.Steps.{Roomy}
use Rattle.headunit.proofs.Laws.{decision_roomy}
use Rattle.headunit.proofs.Parts.{within_is}
use Rattle.headunit.proofs.within.Goals as goal

pub tell-answer-requires : goal.tell-answer-requires
tell-answer-requires c = let a = c.args in
    let l = link_of a.link.now in
    let p = c.requires in
    let total = (message_at (get_or l.rows a.i.number no_row) (place_of a.header.service.0)).total in
    (p.0, subst (Roomy (length a.out.now) (length a.payload.now) total) (sym c.decide-act.ensures) (decision_roomy l a.i.number a.header a.payload.now (length a.out.now) p.1.0))

pub returns : goal.returns
returns c = let a = c.args in
    within_is (link_of a.link.now) a.i.number a.header a.consumed a.grant a.payload.now a.pool.now a.out.now (omega (arith, a.i.below)) a.link.now _
    c.decide-act.result c.tell-answer.result _ _ c.decide-act.ensures c.tell-answer.ensures c.note.ensures
