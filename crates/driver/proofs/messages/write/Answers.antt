-- `driver::messages::write` meets its contract: the bytes of the two words, and the numbers as the definition has them.
-- Assumes nothing.
use Rattle.driver.proofs.Answers.{rpc_wrote}
use Rattle.driver.proofs.messages.write.Goals as goal

pub returns : goal.returns
returns c =
    let a = c.args in
    rpc_wrote a.command a.input.now a.out.now c.byte.ensures c.header_of.ensures c.wide.ensures
    c.front-json.ensures c.part-bulk.ensures c.write.ensures
