-- `lines::find` meets its contract: the part that is looked through is the definition's, and empty where it would end before it starts.
-- Assumes nothing.
use Prim.Native.Nat.{◌+◌}
use mathlib.Core.Path.{ap, ◌∙◌}
use native.Mathlib.Omega.{arith}
use Rattle.lines.proofs.Places.{part_place, part_none, part_within}
use Rattle.lines.proofs.find.Goals as goal

pub returns-then-end-from-clause-value : goal.returns-then-end-from-clause-value
returns-then-end-from-clause-value c =
    let a = c.args in
    omega (arith, part_none a.byte a.bytes.now a.from a.to c.min-end.result c.min-end.ensures c.if-end-from.true)

pub overflow_add-result : goal.overflow_add-result
overflow_add-result c =
    let a = c.args in
    omega (arith, part_within a.byte a.bytes.now a.from a.to c.min-end.result c.min-end.ensures c.if-end-from.false)

pub returns-clause-value : goal.returns-clause-value
returns-clause-value c =
    let a = c.args in
    ap (λ n. a.from + n) (c.index_of.ensures ∙ part_place a.byte a.bytes.now a.from a.to c.min-end.result c.min-end.ensures)

pub returns-clause-upper_bound : goal.returns-clause-upper_bound
returns-clause-upper_bound c h =
    let a = c.args in
    omega (arith, part_within a.byte a.bytes.now a.from a.to c.min-end.result c.min-end.ensures c.if-end-from.false)
