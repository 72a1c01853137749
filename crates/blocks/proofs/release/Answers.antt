-- `blocks::release` meets its contract. The loop's invariant: the entries passed, and the release of the entries left, are the whole release.
-- Assumes nothing.
use mathlib.Core.Path.{sym, ◌∙◌}
use native.Mathlib.Omega.{arith}
use Rattle.blocks.proofs.Turns.{release_turn, release_end}
use Rattle.blocks.proofs.release.Goals as goal

pub loop-entry-preserved : goal.loop-entry-preserved
loop-entry-preserved c = let l = c.loop-entry in release_turn _ _ l.entry-items l.entry-index (omega arith) c.entry_after.ensures ∙ l.invariant

pub returns : goal.returns
returns c = let l = c.loop-entry in sym (release_end _ _ l.entry-items l.entry-index (omega arith)) ∙ l.invariant
