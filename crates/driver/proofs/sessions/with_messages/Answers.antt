-- `driver::sessions::with_messages` meets its contract. The loop's invariant: the messages so far, with those that are left, are all messages.
-- Assumes nothing.
use Rattle.std.proofs.Common.{◌≡◌, [], length, refl, arith}
use Rattle.driver.proofs.States.{none, owner_is, message_listed, messages_end}
use Rattle.driver.proofs.sessions.with_messages.Goals as goal

pub loop-place-init : goal.loop-place-init
loop-place-init c = record { parts = []; has = none; leads = refl }

pub loop-place-preserved : goal.loop-place-preserved
loop-place-preserved c =
    let a = c.args in
    let o = c.loop-place in
    let full : length a.text.chars ≡ 4096 = omega arith in
    message_listed full a.i.number o.place a.owners.now a.row.messages o.invariant (omega arith) refl (owner_is a.i.number o.place (omega arith)) c.with_message-after.ensures

pub returns : goal.returns
returns c =
    let a = c.args in
    let o = c.loop-place in
    let full : length a.text.chars ≡ 4096 = omega arith in
    messages_end full a.i.number o.place a.owners.now a.row.messages o.invariant (omega arith) c.listed.ensures
