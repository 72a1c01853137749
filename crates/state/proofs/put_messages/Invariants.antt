-- Assumes nothing.
use Rattle.state.proofs.Turns.{MessagesPut}
use Rattle.state.proofs.put_messages.Given as goal

abbrev pub invariant-loop-place : goal.invariant-loop-place
invariant-loop-place l = MessagesPut l.fn.messages l.fn.row l.row l.place
