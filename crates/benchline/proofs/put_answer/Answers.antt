-- `benchline::put_answer` meets its contract: the number, the verdict and the newline, each right behind the last.
-- Assumes nothing.
use Rattle.std.proofs.Common.{arith}
use Rattle.link.specs.Values.{values_of}
use Rattle.benchline.specs.Line.{verdict_of}
use Rattle.benchline.proofs.Texts.{text_put, verdict_some}
use Rattle.benchline.proofs.put_answer.Goals as goal

pub returns : goal.returns
returns c =
    let a = c.args in
    let start = c.put_number-start.ensures in
    let end = c.put_verdict-end.ensures in
    text_put a.number (verdict_of (values_of a.answer) a.out.now) a.text.now (omega (arith, c.requires, start.upper_bound, end.upper_bound))
    (verdict_some (values_of a.answer) a.out.now) start.appended end.appended c.put_byte.ensures
