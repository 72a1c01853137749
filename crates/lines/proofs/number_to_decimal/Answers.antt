-- `lines::number_to_decimal` meets its contract, by what its two callees ensure.
-- Assumes nothing.
use borrow.Author.Tests.{lt-ltb, le-ltb}
use Rattle.lines.specs.Text.{written_of}
use Rattle.lines.proofs.number_to_decimal.Goals as goal

pub returns-then-out-width : goal.returns-then-out-width
unfolding written_of
returns-then-out-width c = rw (← c.decimal_width-width.ensures, lt-ltb _ _ c.if-out-width.true)

pub returns : goal.returns
unfolding written_of
returns c = rw (c.put_decimal.ensures, ← c.decimal_width-width.ensures, le-ltb _ _ c.if-out-width.false)
