-- `state::put_lives` meets its contract. Assumes nothing.
use native.Mathlib.Omega.{arith}
use borrow.Author.Rules.{rules}
use Rattle.state.proofs.Turns.{flags_start, flags_turn, flags_end}
use Rattle.state.proofs.put_lives.Goals as goal

pub loop-place-init : goal.loop-place-init
loop-place-init c = flags_start c.args.old c.args.messages c.args.row.now

pub loop-place-preserved : goal.loop-place-preserved
loop-place-preserved c = flags_turn c.args.old c.args.messages c.loop-place-test.true c.loop-place.invariant c.flag_byte.ensures.0 c.flag_byte.ensures.1 c.put.ensures

pub returns : goal.returns
returns c = let put = flags_end c.args.old c.args.messages (omega (arith, c.loop-place-test.false, c.loop-place.auto.place-end)) c.loop-place.invariant in
    (put.0, (put.1, search rules))
