-- `state::is_state` meets its contract.
-- Assumes nothing.
use native.Mathlib.Omega.{arith}
use lib.ListN.{length}
use borrow.Author.Tests.{eq-eqb, ne_eqb}
use Rattle.numbers.proofs.Laws.{known_bytes}
use Rattle.state.specs.Calls.{is_state}
use Rattle.state.proofs.is_state.Goals as goal

pub returns-then-state-ne-LENGTH : goal.returns-then-state-ne-LENGTH
unfolding is_state
returns-then-state-ne-LENGTH c =
    let s = c.args.state.now in
    (rw (ne_eqb (length s) 2688 c.if-state-ne-LENGTH.true), known_bytes s (λ i. omega (arith, c.type_inv.state i)))

pub returns : goal.returns
unfolding is_state
returns c =
    let s = c.args.state.now in
    (rw (eq-eqb (length s) 2688 c.if-state-ne-LENGTH.false, c.number.ensures), known_bytes s (λ i. omega (arith, c.type_inv.state i)))
