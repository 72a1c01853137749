-- `state::put_messages` meets its contract. Assumes nothing.
use native.Mathlib.Omega.{arith}
use Rattle.state.proofs.Turns.{messages_start, messages_turn, messages_end}
use Rattle.state.proofs.put_messages.Goals as goal

pub loop-place-init : goal.loop-place-init
loop-place-init c = messages_start c.args.messages c.args.row.now

pub loop-place-preserved : goal.loop-place-preserved
loop-place-preserved c = messages_turn c.args.messages c.loop-place-test.true c.loop-place.invariant c.put_message.ensures.1 c.put_message.ensures.0

pub returns : goal.returns
returns c = messages_end c.args.messages (omega (arith, c.loop-place-test.false, c.loop-place.auto.place-end)) c.loop-place.invariant
