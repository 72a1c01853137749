-- `sender::send` meets its contract: a message of one chunk is put as a single frame.
-- Assumes nothing.
use borrow.Author.Tests.{le-leb}
use mathlib.Core.Path.{◌∙◌}
use native.Mathlib.Omega.{arith}
use Rattle.sender.specs.Sender.{Ready, fits_one}
use Rattle.sender.proofs.Laws.{ready_of, sends-single}
use Rattle.sender.proofs.send.Goals as goal

pub returns : goal.returns
unfolding fits_one
returns c =
    let a = c.args in
    let ready : Ready a.outgoing = ready_of a.outgoing c.in_ok-checked.ensures.lowest in
    c.put.ensures ∙ sends-single a.outgoing a.k a.message.now a.out.now ready (le-leb _ _ c.if-outgoing-message.false) (omega arith)
