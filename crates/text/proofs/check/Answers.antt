-- `text::check` meets its contract. The loop's invariant: the sum, followed by what is left of the buffer, checks as the whole buffer does; it stays
-- below 2^32, so the next product and sum fit 64 bits.
-- Assumes nothing.
use mathlib.Core.Path.{◌∙◌}
use native.Mathlib.Omega.{arith}
use Rattle.text.proofs.Texts.{check_turn, check_end}
use Rattle.text.proofs.check.Goals as goal

pub loop-b-preserved : goal.loop-b-preserved
loop-b-preserved c =
    let s = c.args.buffer.now in
    let l = c.loop-b in
    (omega arith, rw c.from.ensures (check_turn s l.b-index l.sum (omega arith) ∙ l.invariant.1))

pub returns-clause-value : goal.returns-clause-value
returns-clause-value c =
    let l = c.loop-b in
    check_end c.args.buffer.now l.b-index l.sum (omega arith) ∙ l.invariant.1
