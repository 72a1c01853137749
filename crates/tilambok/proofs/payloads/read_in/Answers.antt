-- `tilambok::payloads::read_in` meets its contract: what `rpc::read` ensures, told answer by answer (`as_message`, `as_bare`).
-- Assumes nothing.
use Rattle.std.proofs.Common.{Ok}
use mathlib.Core.Path.{ap, ◌∙◌}
use Rattle.tilambok.proofs.PayloadOutcomes.{as_message, as_bare}
use Rattle.tilambok.proofs.payloads.read_in.Goals as goal

pub returns-in-Ok-Message : goal.returns-in-Ok-Message
returns-in-Ok-Message c =
    let a = c.args in
    c.tell.ensures ∙ as_message _ _ _ _ _ _ _ _ c.read.ensures (c.in-Ok-Message.is ∙ ap Ok c.in-Ok-Message.field-0-is) c.fields_of.ensures
    a.fields.now a.value.now

pub returns-in-Ok-Bare : goal.returns-in-Ok-Bare
returns-in-Ok-Bare c =
    c.tell-in-Ok-Bare.ensures ∙ as_bare _ _ _ _ _ _ _ _ c.read.ensures (c.in-Ok-Bare.is ∙ ap Ok c.in-Ok-Bare.field-0-is) c.no_fields.ensures
