-- `driver::calls::Store::create` meets its contract: the state, the pool and the line of a creation.
-- Assumes nothing.
use Rattle.std.proofs.Common.{Bool, ap, ◌∙◌}
use Rattle.driver.specs.Turns.{leaving}
use Rattle.driver.proofs.Turns.{done_is, new_is}
use Rattle.driver.proofs.calls.Store.create.Goals as goal

pub returns : goal.returns
returns c =
    let a = c.args in
    let m = c.create-created.ensures in
    ap (λ (b : Bool). leaving b c.create-created.new.link c.fill_pool.new.pool c.lay_plain.new.self) (c.is_ok.ensures.value ∙ done_is c.create-created.result m.refused)
    ∙ new_is a.command a.self.now.state a.self.now.pool
    c.version_of.ensures
    c.wide.ensures
    m.created
    c.fill_pool.ensures
    c.created_text.ensures
    c.lay_plain.ensures
