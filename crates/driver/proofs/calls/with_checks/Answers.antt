-- `driver::calls::with_checks` meets its contract: five pieces, one behind the other.
-- Assumes nothing.
use Rattle.std.proofs.Common.{ap}
use Rattle.lines.specs.Decimal.{decimal_of}
use Rattle.text.proofs.Texts.{then, renamed}
use Rattle.driver.proofs.calls.with_checks.Goals as goal

pub returns : goal.returns
returns c =
    let out = renamed (ap decimal_of c.check.ensures.value) c.decimal-named.ensures in
    let pool = renamed (ap decimal_of c.check-2.ensures.value) c.decimal.ensures in
    then c.put.ensures (then out (then c.put-2.ensures (then pool c.byte.ensures)))
