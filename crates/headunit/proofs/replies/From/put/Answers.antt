-- `headunit::replies::From::put` meets its contract: a reply with room is written whole.
-- Assumes nothing.
use mathlib.Core.Path.{refl, ap₂}
use Rattle.headunit.specs.Unit.{sent}
use Rattle.headunit.proofs.Laws.{count_is, reply_done}
use Rattle.headunit.proofs.replies.From.put.Goals as goal

pub unwrap-requires : goal.unwrap-requires
unwrap-requires c =
    let a = c.args in
    let done = reply_done a.self.version a.self.service a.info a.self.session a.message a.payload.now a.out.now c.requires.0 a.self.least a.self.most a.self.listed c.requires.1.0 c.requires.1.1 c.write.ensures in
    rw done.0 refl

pub returns : goal.returns
returns c =
    let a = c.args in
    let done = reply_done a.self.version a.self.service a.info a.self.session a.message a.payload.now a.out.now c.requires.0 a.self.least a.self.most a.self.listed c.requires.1.0 c.requires.1.1 c.write.ensures in
    ap₂ sent (count_is c.unwrap.ensures done.0) done.1
