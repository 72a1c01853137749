-- `session::held_in` meets its contract: what is summed and what is left are the whole.
-- Assumes nothing.
use Rattle.std.proofs.Common.{◌≡◌, ◌+◌, ◌*◌, ◌≤◌, drop}
use Rattle.session.specs.Decide.{held_in}
use Rattle.session.proofs.held_in.Given as goal

abbrev pub invariant-loop-message : goal.invariant-loop-message
invariant-loop-message l = (l.sum ≤ l.message-index * 16777216) × (l.sum + held_in (drop l.message-index l.message-items) ≡ held_in l.message-items)
