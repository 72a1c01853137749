-- What is found so far, and the rest of the test, are the whole one. Assumes nothing.
use mathlib.Core.Path.{◌≡◌}
use mathlib.Core.Bool.{◌&&◌}
use lib.ListN.{drop}
use Prim.Native.Nat.{ℕ}
use lib.Dec.{eqb}
use Rattle.link.specs.State.{all}
use Rattle.rules.proofs.all_free.Given as goal

abbrev pub invariant-loop-owner : goal.invariant-loop-owner
invariant-loop-owner l = l.free && all (λ (o : ℕ). eqb o 0) (drop l.owner-index l.map) ≡ all (λ (o : ℕ). eqb o 0) l.map
