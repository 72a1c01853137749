-- `blocks::copy_block` meets its contract: two halves are the whole.
-- Assumes nothing.
use Rattle.blocks.proofs.Parts.{halves}
use native.Mathlib.Omega.{arith}
use Rattle.blocks.proofs.copy_block.Goals as goal

pub returns-then-source-eq-BLOCK_SIZE : goal.returns-then-source-eq-BLOCK_SIZE
returns-then-source-eq-BLOCK_SIZE c =
    let a = c.args in
    halves a.source.now a.target.now (omega arith) (omega arith) c.copy.ensures c.copy-then-source-eq-BLOCK_SIZE.ensures
