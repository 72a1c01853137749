-- `benchline::put_decimal` meets its contract: the digits go to the front of what is left of the buffer, which has room for them.
-- Assumes nothing.
use Rattle.std.proofs.Common.{refl, arith}
use Rattle.lines.specs.Decimal.{decimal_of}
use Rattle.payload.proofs.Writers.{rest_count, rest_put}
use Rattle.benchline.proofs.Texts.{rest_some}
use Rattle.benchline.proofs.put_decimal.Goals as goal

pub unwrap-requires : goal.unwrap-requires
unwrap-requires c = rest_some (decimal_of c.args.number) c.args.text.now c.args.at c.requires c.number_to_decimal.ensures

pub overflow_add-result : goal.overflow_add-result
overflow_add-result c =
    let count = rest_count (decimal_of c.args.number) c.args.text.now c.args.at c.requires c.number_to_decimal.ensures c.unwrap.ensures in
    omega (arith, c.requires, count)

pub returns : goal.returns
returns c = rest_put (decimal_of c.args.number) c.args.text.now c.args.at c.requires c.number_to_decimal.ensures c.unwrap.ensures refl
