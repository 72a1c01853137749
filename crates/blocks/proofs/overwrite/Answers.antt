-- `blocks::overwrite` meets its contract: the list in three parts, before, put and behind; or all of it lies before.
-- Assumes nothing.
use mathlib.Core.Path.{sym}
use Rattle.blocks.proofs.Over.{over_past}
use Rattle.blocks.proofs.Parts.{overwritten}
use Rattle.blocks.proofs.overwrite.Goals as goal

pub returns-then-at-target : goal.returns-then-at-target
returns-then-at-target c = let a = c.args in overwritten a.source.now a.target.now a.at c.if-at-target.true c.min-n.ensures c.copy_block.ensures

pub returns-else-at-target : goal.returns-else-at-target
returns-else-at-target c = let a = c.args in sym (over_past a.at a.source.now a.target.now c.if-at-target.false)
