-- `driver::output::lay_word` meets its contract: a space and the digits, or a mark, for which the buffer has room.
-- Assumes nothing.
use Rattle.std.proofs.Common.{sym, ◌∙◌}
use Rattle.driver.proofs.Laying.{space_put, word_put}
use Rattle.driver.proofs.output.lay_word.Goals as goal

pub returns : goal.returns
returns c =
    let a = c.args in
    let space = space_put a.bytes.now a.line.now a.at c.requires c.put-start.ensures.value c.put-start.ensures.buffer_after in
    word_put a.bytes.now a.line.now a.at c.requires (sym c.is_empty.ensures ∙ c.if-is_empty.false) space c.lay_digits.ensures
