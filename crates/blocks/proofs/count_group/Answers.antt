-- `blocks::count_group` meets its contract. The loop's invariant: what was counted and what is left to count make the whole count.
-- Assumes nothing.
use mathlib.Core.Path.{◌∙◌}
use native.Mathlib.Omega.{arith}
use Rattle.numbers.proofs.Choices.{bit_is}
use Rattle.blocks.proofs.Counts.{held_most}
use Rattle.blocks.proofs.Turns.{count_turn, count_end}
use Rattle.blocks.proofs.count_group.Goals as goal

pub overflow_add-count : goal.overflow_add-count
overflow_add-count c =
    let a = c.args in
    let counted = count_turn a.owner a.entries.now c.loop-entry.entry-index (omega arith) (c.from-count.ensures ∙ bit_is _) in
    record { fits = omega (arith, counted, held_most a.owner a.entries.now) }

pub loop-entry-preserved : goal.loop-entry-preserved
loop-entry-preserved c = let a = c.args in omega (arith, count_turn a.owner a.entries.now c.loop-entry.entry-index (omega arith) (c.from-count.ensures ∙ bit_is _))

pub returns : goal.returns
returns c = let a = c.args in omega (arith, count_end a.owner a.entries.now c.loop-entry.entry-index (omega arith))
