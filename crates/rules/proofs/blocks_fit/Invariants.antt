-- What is found so far, and the rest of the test, are the whole one. Assumes nothing.
use mathlib.Core.Path.{◌≡◌}
use mathlib.Core.Bool.{◌&&◌}
use lib.ListN.{drop}
use Prim.Native.Nat.{ℕ}
use Rattle.session.specs.declared.Reassembly.{Reassembly}
use Rattle.link.specs.State.{all_from, owner_of}
use Rattle.rules.specs.Parts.{holds_need, open_fit}
use Rattle.rules.proofs.blocks_fit.Given as goal

abbrev pub invariant-loop-place : goal.invariant-loop-place
invariant-loop-place l = l.fit && all_from l.place (λ (place : ℕ) (m : Reassembly). holds_need l.map (owner_of l.i.number place) m) (drop l.place l.fn.messages) ≡ open_fit l.map l.i.number l.fn.messages
