-- What is found so far, and the rest of the test, are the whole one. Assumes nothing.
use mathlib.Core.Path.{◌≡◌}
use mathlib.Core.Bool.{◌&&◌}
use lib.ListN.{drop}
use Rattle.link.specs.State.{all_from, message_fits}
use Rattle.rules.proofs.messages_fit.Given as goal

abbrev pub invariant-loop-place : goal.invariant-loop-place
invariant-loop-place l = l.fit && all_from l.place (message_fits l.row) (drop l.place l.fn.messages) ≡ all_from 0 (message_fits l.row) l.fn.messages
