-- `tilambok::payloads::tell` meets its contract: the test of the room is the definition's (`told_few`, `told_all`).
-- Assumes nothing.
use mathlib.Core.Path.{ap, ◌∙◌}
use native.Mathlib.Omega.{arith}
use Rattle.tilambok.specs.Status.{done}
use Rattle.tilambok.proofs.PayloadOutcomes.{told_few, told_all}
use Rattle.tilambok.proofs.payloads.tell.Goals as goal

pub returns-then-fields-lt-FIELDS : goal.returns-then-fields-lt-FIELDS
returns-then-fields-lt-FIELDS c =
    let a = c.args in
    told_few a.headed a.begins a.f a.fields.now a.value.now _ (omega arith) c.refused.ensures

pub returns : goal.returns
returns c =
    let a = c.args in
    told_all a.headed a.begins a.f a.fields.now a.value.now _ _ (omega arith) (c.done-done.ensures ∙ ap done c.from.ensures) c.put_fields.ensures
