-- `blocks::claim_all` meets its contract. The loop's invariant is `TakingAll`. Assumes nothing.
use mathlib.Core.Path.{◌∙◌}
use native.Mathlib.Omega.{arith}
use Rattle.numbers.proofs.Choices.{bit_is}
use Rattle.blocks.proofs.Search.{bit_most, taking_starts, taking_turn, taking_ends}
use Rattle.blocks.proofs.claim_all.Goals as goal

pub loop-entry-init : goal.loop-entry-init
loop-entry-init c = taking_starts _ _

-- the count fits a byte
pub overflow_add-count : goal.overflow_add-count
overflow_add-count c = record { fits = omega (arith, c.loop-entry.invariant.few, bit_most _ (c.from-count.ensures ∙ bit_is _)) }

pub loop-entry-preserved : goal.loop-entry-preserved
loop-entry-preserved c = taking_turn c.loop-entry.invariant (omega arith) (c.from-count.ensures ∙ bit_is _) c.entry_claimed.ensures

pub returns : goal.returns
returns c =
    let ends = taking_ends c.loop-entry.invariant (omega arith) in
    record { value = ends.0; entries_after = ends.1 }
