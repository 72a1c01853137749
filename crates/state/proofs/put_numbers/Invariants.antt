-- Assumes nothing.
use Rattle.state.proofs.Turns.{NumbersPut}
use Rattle.state.proofs.put_numbers.Given as goal

abbrev pub invariant-loop-k : goal.invariant-loop-k
invariant-loop-k l = NumbersPut l.at l.numbers l.fn.row l.row l.k
