-- `benchline::put_number` meets its contract: the number and a space right behind it; a number of 64 bits has at most 20 digits.
-- Assumes nothing.
use Rattle.std.proofs.Common.{arith}
use Rattle.lines.proofs.Digits.{width_most}
use Rattle.benchline.proofs.put_number.Goals as goal

pub put_decimal-end-requires : goal.put_decimal-end-requires
put_decimal-end-requires c = omega (arith, c.requires, width_most 19 c.args.number (omega arith))

pub put_byte-requires : goal.put_byte-requires
put_byte-requires c = omega (arith, c.requires, c.put_decimal-end.ensures.ends, width_most 19 c.args.number (omega arith))

pub returns-clause-upper_bound : goal.returns-clause-upper_bound
returns-clause-upper_bound c = omega (arith, c.put_decimal-end.ensures.ends, c.put_byte.ensures.ends, width_most 19 c.args.number (omega arith))
