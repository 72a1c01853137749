-- `tilambok::frames::put_fields` meets its contract. Two numbers are put and eight bytes stored before them: `FrameFields` has that as one law.
-- Assumes nothing.
use mathlib.Core.Path.{◌∙◌}
use native.Mathlib.Omega.{arith}
use Rattle.numbers.proofs.Choices.{bit_is}
use Rattle.tilambok.proofs.FrameFields.{fields_put, header_own}
use Rattle.tilambok.proofs.frames.put_fields.Goals as goal

pub returns : goal.returns
returns c =
    let a = c.args in
    fields_put a.bytes.now a.header a.start c.from.result c.be4.result _ a.fields.now _ _
    (header_own a.bytes.now a.header c.requires.1.1.1)
    (c.from.ensures ∙ bit_is a.header.flag) (omega arith) c.be4.ensures c.requires.1.0
    c.put_message.auto.fields c.put_be4.auto.out c.put_message.ensures c.put_be4.ensures
