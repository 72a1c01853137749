-- `lines::every` meets its contract. The loop's invariant: what was found and what is left to test say together what the whole text says.
-- Assumes nothing.
use Prim.Native.Nat.{ℕ, ◌<◌}
use mathlib.Core.Path.{◌≡◌}
use mathlib.Core.Bool.{Bool, ◌&&◌}
use lib.ListN.{drop}
use Rattle.lines.specs.Text.{every}
use Rattle.lines.proofs.every.Given as goal

abbrev pub invariant-loop-b : goal.invariant-loop-b
invariant-loop-b g l = (p : ℕ → Bool) → ((b : ℕ) (r : Bool) → b < 256 → goal.F-post g l.test b r → r ≡ p b)
    → (l.all && every p (drop l.b-index l.text)) ≡ every p l.text
