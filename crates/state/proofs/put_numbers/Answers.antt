-- `state::put_numbers` meets its contract. Assumes nothing.
use native.Mathlib.Omega.{arith}
use Rattle.state.proofs.Turns.{numbers_start, numbers_turn, numbers_end, numbers_fit}
use Rattle.state.proofs.put_numbers.Goals as goal

pub loop-k-init : goal.loop-k-init
loop-k-init c = numbers_start c.args.at c.args.numbers.now c.args.row.now

pub loop-k-preserved : goal.loop-k-preserved
loop-k-preserved c = numbers_turn c.loop-k-test.true c.loop-k.invariant c.put.ensures

pub returns : goal.returns
returns c = (numbers_end c.loop-k-test.false c.loop-k.invariant, numbers_fit c.args.numbers.now (λ i. omega (arith, c.type_inv.numbers i)))
