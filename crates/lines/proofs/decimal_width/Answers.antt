-- `lines::decimal_width` meets its contract. The loop's invariant: the digits counted and those of what is left make those of n and the
-- count at the start, which is one, since the last digit is not counted in the loop.
-- Assumes nothing.
use native.Mathlib.Omega.{arith}
use Rattle.lines.proofs.Digits.{width_one, width_step}
use Rattle.lines.proofs.decimal_width.Goals as goal

pub loop-rest-init : goal.loop-rest-init
loop-rest-init c = (omega arith, omega arith)

pub loop-rest-preserved : goal.loop-rest-preserved
loop-rest-preserved c =
    let r = c.loop-rest.rest in
    omega (arith, width_step r (omega arith))

pub returns : goal.returns
returns c = omega (arith, width_one c.loop-rest.rest (omega arith))
