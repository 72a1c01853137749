-- What is found so far, and the rest of the test, are the whole one. Assumes nothing.
use mathlib.Core.Path.{◌≡◌}
use mathlib.Core.Bool.{◌&&◌}
use lib.ListN.{drop}
use Rattle.rules.specs.Parts.{missing_in}
use Rattle.rules.proofs.is_missing.Given as goal

abbrev pub invariant-loop-one : goal.invariant-loop-one
invariant-loop-one l = l.missing && missing_in l.id (drop l.one-index l.ids) ≡ missing_in l.id l.ids
