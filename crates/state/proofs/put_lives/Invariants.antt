-- Assumes nothing.
use Rattle.state.proofs.Turns.{FlagsPut}
use Rattle.state.proofs.put_lives.Given as goal

abbrev pub invariant-loop-place : goal.invariant-loop-place
invariant-loop-place l = FlagsPut l.old l.fn.messages l.fn.row l.row l.place
