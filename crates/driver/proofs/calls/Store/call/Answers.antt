-- `driver::calls::Store::call` meets its contract: the front of an untouched buffer is lent.
-- Assumes nothing.
use Rattle.driver.proofs.Turns.{lent_call_is}
use Rattle.driver.proofs.calls.Store.call.Goals as goal

pub returns : goal.returns
returns c =
    let a = c.args in
    lent_call_is a.command a.input.now a.self.now.state a.self.now.pool c.untouched-out.result
    c.untouched-out.ensures
    c.min-lent.ensures
    c.call_into.ensures
