-- `driver::sessions::with_messages` meets its contract. The loop's invariant: the messages so far, with those that are left, are all messages.
-- Assumes nothing.
use Rattle.std.proofs.Common.{[], drop}
use Rattle.driver.specs.States.{messages_from}
use Rattle.driver.proofs.States.{Listing}
use Rattle.driver.proofs.sessions.with_messages.Given as goal

abbrev pub invariant-loop-place : goal.invariant-loop-place
invariant-loop-place l =
    Listing l.initial.after (messages_from l.i.number l.place l.owners (drop l.place l.message-items)) (messages_from l.i.number 0 l.owners l.message-items []) l.after
