-- What is found so far, and the rest of the test, are the whole one. Assumes nothing.
use mathlib.Core.Path.{◌≡◌}
use mathlib.Core.Bool.{◌&&◌}
use lib.ListN.{drop}
use Rattle.rules.specs.Parts.{none_live}
use Rattle.rules.proofs.none_live.Given as goal

abbrev pub invariant-loop-message : goal.invariant-loop-message
invariant-loop-message l = l.none && none_live (drop l.message-index l.fn.messages) ≡ none_live l.fn.messages
