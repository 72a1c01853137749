-- What is found so far, and the rest of the test, are the whole one. Assumes nothing.
use mathlib.Core.Path.{◌≡◌}
use mathlib.Core.Bool.{◌&&◌}
use lib.ListN.{drop}
use Rattle.rules.specs.Parts.{distinct_in}
use Rattle.rules.proofs.distinct.Given as goal

abbrev pub invariant-loop-i : goal.invariant-loop-i
invariant-loop-i l = l.apart && distinct_in (drop l.i l.fn.ids) ≡ distinct_in l.fn.ids
