-- `driver::calls::Store::call_into` meets its contract: what the call left, spelled.
-- Assumes nothing.
use Rattle.driver.proofs.Turns.{call_is}
use Rattle.driver.proofs.calls.Store.call_into.Goals as goal

pub returns : goal.returns
returns c =
    let a = c.args in
    call_is a.command a.input.now a.self.now.state a.self.now.pool a.out.now
    c.grant_of.ensures
    c.call-answer.ensures
    c.spell.ensures
