-- `numbers::sum_le` meets its contract: the bytes passed, from the back, are the number so far, one byte more at the front in each turn.
-- Assumes nothing.
use native.Mathlib.Omega.{arith}
use Rattle.numbers.proofs.Laws.{known_bytes}
use Rattle.numbers.proofs.Turns.{behind_none, behind_more, behind_fits, behind_all}
use Rattle.numbers.proofs.sum_le.Goals as goal

pub loop-byte-init : goal.loop-byte-init
loop-byte-init c = behind_none c.args.bytes.now _ (cc)

pub overflow_mul-sum : goal.overflow_mul-sum
overflow_mul-sum c =
    record { fits = omega (arith, behind_fits _ _ _ _ _ c.requires (known_bytes _ (λ i. (c.type_inv.bytes i).fits)) c.loop-byte.invariant c.in-Some.ensures.steps) }

pub overflow_add-sum : goal.overflow_add-sum
overflow_add-sum c =
    record { fits = omega (arith, behind_fits _ _ _ _ _ c.requires (known_bytes _ (λ i. (c.type_inv.bytes i).fits)) c.loop-byte.invariant c.in-Some.ensures.steps) }

pub loop-byte-preserved : goal.loop-byte-preserved
loop-byte-preserved c = rw c.from.ensures (behind_more _ _ _ _ _ (known_bytes _ (λ i. (c.type_inv.bytes i).fits)) c.loop-byte.invariant c.in-Some.ensures.steps)

pub returns : goal.returns
returns c = behind_all _ _ _ c.loop-byte.invariant c.in-None.ensures.steps.0
