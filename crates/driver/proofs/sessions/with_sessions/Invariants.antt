-- `driver::sessions::with_sessions` meets its contract. The loop's invariant: the sessions so far, with those of the ids that are left, are all sessions.
-- Assumes nothing.
use Rattle.driver.proofs.States.{Sessions}
use Rattle.driver.proofs.sessions.with_sessions.Given as goal

abbrev pub invariant-loop-id : goal.invariant-loop-id
invariant-loop-id l = Sessions l.initial.after l.link l.id l.after
