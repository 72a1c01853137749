-- `driver::calls::Store::spell` meets its contract: the text holds answer, checks and state, and is laid with the out buffer.
-- Assumes nothing.
use Rattle.state.specs.Calls.{left, told_of}
use Rattle.driver.proofs.Turns.{called_is}
use Rattle.driver.proofs.calls.Store.spell.Goals as goal

pub returns : goal.returns
returns c =
    let a = c.args in
    called_is (told_of (left a.answer a.self.now.state a.self.now.pool a.out.now))
    c.answer_text.ensures
    c.with_checks-text.ensures
    c.with_sessions.ensures
    c.lay.ensures
