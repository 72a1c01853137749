-- `tilambok::payloads::put_fields` meets its contract: four bytes stored, and three numbers put behind them, by `fields_put`.
-- Assumes nothing.
use Rattle.tilambok.proofs.PayloadOutcomes.{fields_put}
use Rattle.tilambok.proofs.payloads.put_fields.Goals as goal

-- from the last number to the first
pub returns : goal.returns
returns c =
    let a = c.args in
    fields_put a.headed a.begins a.f a.fields.now _ _ _ c.requires c.put_be4.ensures c.put_be4-2.ensures c.put_be4-3.ensures
