-- `blocks::starts_inside` meets its contract: a block starts inside exactly if its number is below the blocks that are needed.
-- Assumes nothing.
use Rattle.blocks.proofs.Parts.{inside_needed}
use Rattle.blocks.proofs.starts_inside.Goals as goal

pub blocks_needed-requires : goal.blocks_needed-requires
blocks_needed-requires c = tt

pub returns : goal.returns
returns c = let a = c.args in rw c.blocks_needed.ensures (inside_needed a.block.0 a.bytes)
