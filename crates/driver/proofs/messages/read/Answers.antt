-- `driver::messages::read` meets its contract, by the reader's three answers.
-- Assumes nothing.
use Rattle.std.proofs.Common.{[], Ok, sym, ap, ◌∙◌}
use Rattle.driver.specs.Answers.{rpc_by}
use Rattle.driver.proofs.Answers.{message_line, bare_line, rpc_read}
use Rattle.driver.proofs.Spelling.{held, line_held}
use Rattle.driver.proofs.messages.read.Goals as goal

pub returns-in-Ok-Message : goal.returns-in-Ok-Message
returns-in-Ok-Message c =
    rpc_read c.args.command c.args.input.now c.form_of.ensures c.byte.ensures c.read.ensures
    (message_line c.args.input.now c.lay_parts.ensures (c.in-Ok-Message.is ∙ ap Ok c.in-Ok-Message.field-0-is) c.message_text.ensures)

pub returns-in-Ok-Bare : goal.returns-in-Ok-Bare
returns-in-Ok-Bare c =
    rpc_read c.args.command c.args.input.now c.form_of.ensures c.byte.ensures c.read.ensures
    (bare_line c.args.input.now c.lay_parts-in-Ok-Bare.ensures (c.in-Ok-Bare.is ∙ ap Ok c.in-Ok-Bare.field-0-is) c.bare_text.ensures)

pub returns-in-Err : goal.returns-in-Err
returns-in-Err c =
    let s = c.args.input.now in
    rpc_read c.args.command s c.form_of.ensures c.byte.ensures c.read.ensures
    (c.lay_plain.ensures ∙ line_held (held c.refused.ensures) [] ∙ ap (rpc_by s) (sym c.in-Err.is))
