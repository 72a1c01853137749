-- `tilambok::links::tilambok_link_call` meets its contract. What `headunit::call` ensures, with the report of its answer, whose numbers are small.
-- Assumes nothing.
use native.Mathlib.Omega.{arith}
use Rattle.numbers.proofs.Laws.{known_bytes}
use Rattle.tilambok.proofs.LinkResults.{small_told, as_called}
use borrow.Author.Rules.{rules}
use Rattle.tilambok.proofs.links.tilambok_link_call.Goals as goal

pub tell-requires : goal.tell-requires
tell-requires c =
    let a = c.args in
    let s = a.state.now in
    small_told s a.pool.now a.input.now a.out.now _ c.call-answer.result c.call-answer.ensures
    (known_bytes s (λ i. search rules))

pub returns : goal.returns
returns c =
    let a = c.args in
    as_called a.state.now a.pool.now a.input.now a.out.now _ c.call-answer.result c.call-answer.ensures
    a.guarantee a.cap a.hash a.service.now a.consumed.now a.value.now c.tell.ensures (omega arith) (omega arith) (omega arith)
