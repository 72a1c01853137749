-- `numbers::sum_be` meets its contract: the bytes passed are the number so far, one byte more at the back in each turn.
-- Assumes nothing.
use mathlib.Core.Path.{refl}
use native.Mathlib.Omega.{arith}
use Rattle.numbers.specs.Numbers.{value_be, value_le}
use Rattle.numbers.proofs.Turns.{before_more}
use Rattle.numbers.proofs.sum_be.Goals as goal

pub loop-byte-init : goal.loop-byte-init
unfolding value_be value_le
loop-byte-init c = record { is = refl; below = omega arith }

pub loop-byte-preserved : goal.loop-byte-preserved
loop-byte-preserved c =
    let l = c.loop-byte in
    before_more c.args.bytes.now l.byte-index l.sum c.from.result l.invariant (omega arith) c.from.ensures (omega (arith, c.type_inv.bytes l.byte-index))
