-- `state::write_row` meets its contract.
-- Assumes nothing.
use Rattle.state.proofs.Rows.{row_sound_lem, written}
use Rattle.state.proofs.write_row.Goals as goal

pub returns : goal.returns
returns c =
    let old = c.flags-old.ensures in
    let put = written c.args.value c.in-Some.row.now _ _ _ _ c.flags-old.result old c.put_head.ensures.0 c.put_lives.ensures.0 c.put_services.ensures.0 c.put_messages.ensures.0 in
    let sound = row_sound_lem c.flags-old.result c.args.value c.put_head.ensures.1 c.put_lives.ensures.1.0 c.put_services.ensures.1 c.put_messages.ensures.1 c.put_lives.ensures.1.1 in
    rw (← c.in-Some.ensures.cases.same) (put, rw old at sound)
