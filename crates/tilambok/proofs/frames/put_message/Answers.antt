-- `tilambok::frames::put_message` meets its contract: the four bytes are the message id's, most significant first, and are put as they stand.
-- Assumes nothing.
use mathlib.Core.Path.{◌∙◌}
use native.Mathlib.Omega.{arith}
use borrow.Author.Tests.{ne_eqb}
use Rattle.frame.specs.Rules.{header_size}
use Rattle.tilambok.proofs.FrameFields.{at_id, message_none, message_there}
use Rattle.tilambok.proofs.frames.put_message.Goals as goal

pub returns-then-header-eq1 : goal.returns-then-header-eq1
returns-then-header-eq1 c =
    let a = c.args in
    at_id _ _ _ _ _ c.put_be4.ensures (omega arith)
    (message_none a.bytes.now a.header.version a.header.message c.requires.1 c.if-header-eq1.true)

pub slice_bounds-be4-end : goal.slice_bounds-be4-end
unfolding header_size
slice_bounds-be4-end c = rw (ne_eqb _ _ c.if-header-eq1.false) at c.requires.0

pub returns : goal.returns
returns c =
    let a = c.args in
    at_id _ _ _ _ _ c.put_be4-2.ensures (omega arith)
    (c.be4.ensures
    ∙ message_there a.bytes.now a.header.version a.header.message c.requires.1 c.if-header-eq1.false)
