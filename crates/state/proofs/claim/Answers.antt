-- `state::claim` meets its contract.
-- Assumes nothing.
use mathlib.Core.Path.{◌∙◌}
use native.Mathlib.Omega.{arith}
use Rattle.blocks.proofs.Counts.{claim_length}
use Rattle.numbers.specs.Bytes.{part}
use Rattle.state.proofs.Packed.{lent_over, part_length}
use Rattle.state.proofs.claim.Goals as goal

pub returns : goal.returns
returns c =
    let s = c.args.state.now in
    lent_over s 544 256 _ _ (claim_length c.args.mine.0 c.args.need (part s 544 256) ∙ part_length s 544 256 (omega (arith, c.told-state))) (omega (arith, c.told-state)) c.claim.ensures.map_after
