-- `blocks::skip` meets its contract. The loop's invariant: the block looked for is the same from the block reached on as from the first.
-- Assumes nothing.
use mathlib.Core.Path.{◌∙◌}
use native.Mathlib.Omega.{arith}
use Rattle.blocks.proofs.Turns.{pass_group}
use Rattle.blocks.proofs.skip.Goals as goal

pub loop-group-preserved : goal.loop-group-preserved
loop-group-preserved g c =
    let a = c.args in
    let l = c.loop-group in
    let pass = pass_group a.owner a.map.now a.first.0 g.row.SIZE l.group-index l.left l.from.0 c.group-item.result c.as_chunks.ensures.front (omega arith) (omega arith)
    c.loop-group-test.true c.group-item.is (c.from-here.ensures ∙ c.count_group.ensures) (omega arith) l.invariant.0 in
    (pass.0, pass.1 ∙ l.invariant.1)
