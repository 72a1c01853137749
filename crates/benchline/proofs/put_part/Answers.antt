-- `benchline::put_part` meets its contract: nothing for no bytes, else a space and the digits right behind it.
-- Assumes nothing.
use Rattle.std.proofs.Common.{sym, ◌∙◌, arith, eqb-true}
use borrow.Author.Tests.{eqb-false}
use Rattle.benchline.proofs.Texts.{none_put, part_put}
use Rattle.benchline.proofs.put_part.Goals as goal

pub returns-then-is_empty : goal.returns-then-is_empty
returns-then-is_empty c = none_put c.args.bytes.now _ _ (omega (arith, eqb-true, sym c.is_empty.ensures ∙ c.if-is_empty.true))

pub returns : goal.returns
returns c =
    let some = sym c.is_empty.ensures ∙ c.if-is_empty.false in
    part_put c.args.bytes.now c.args.text.now (omega (arith, eqb-false, some)) (omega (arith, c.requires)) c.put_byte-next.ensures c.put_hex.ensures
